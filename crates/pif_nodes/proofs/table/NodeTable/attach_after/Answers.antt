use Rattle.std.proofs.Common.{rules, arith, ◌≡◌, ◌∙◌, ap, sym, subst, length}
use Rattle.pif_nodes_model.specs.Table.{NodeLists, IsApart, holder}
use Rattle.pif_nodes.specs.Links.{follower_of}
use Rattle.pif_nodes.proofs.SeenLemmas.{Shows-from, holders-put, Ties-shown, apart_shown, held_in, follower_in}
use Rattle.pif_nodes.proofs.ReadLemmas.{nodes_seen}
use Rattle.pif_nodes.proofs.WriteLemmas.{Shows-attached}
use Rattle.pif_nodes.proofs.table.NodeTable.attach_after.Goals as goal

pub follower-next-requires-clause-place_in : goal.follower-next-requires-clause-place_in
follower-next-requires-clause-place_in c = λ x h.
    let same : c.map-prev.result ≡ c.args.after = search rules in
    omega (arith, held_in _ _ _ (Shows-from _ _ _ c.self.view_is c.self.invariant) x c.args.list (c.requires.place x (sym same ∙ h)), ap length c.deref.ensures.value)

pub link-requires-clause-node_in : goal.link-requires-clause-node_in
link-requires-clause-node_in c = omega (arith, nodes_seen _ _ _ c.self.view_is c.self.invariant, c.get-3.ensures, ap length c.deref_mut.ensures.value)

pub link-requires-clause-next_in : goal.link-requires-clause-next_in
link-requires-clause-next_in c = λ x h.
    let same : c.map-prev.result ≡ c.args.after = search rules in
    let next = c.follower-next.ensures ∙ (λ i. follower_of (c.deref.ensures.value i) (c.deref-2.ensures.value i) (c.get.ensures i) (same i)) in
    omega (arith, follower_in _ _ _ (Shows-from _ _ _ c.self.view_is c.self.invariant) c.args.list c.args.after x c.requires.place (sym next ∙ h), ap length c.deref_mut.ensures.value)

pub invariant_of-self : goal.invariant_of-self
invariant_of-self c =
    let same : c.map-prev.result ≡ c.args.after = search rules in
    let next = c.follower-next.ensures ∙ (λ i. follower_of (c.deref.ensures.value i) (c.deref-2.ensures.value i) (c.get.ensures i) (same i)) in
    let size : length c.link.new.nodes ≡ c.self.inside.nodes.len = omega (arith, c.link.auto.nodes, c.deref_mut.ensures.len) in
    let count : length c.link.new.ends ≡ c.self.inside.ends.len = omega (arith, c.link.auto.ends, c.deref_mut-2.ensures.len) in
    Ties-shown _ _ _ (Shows-attached c.self.view_is c.self.invariant c.requires.node_in c.requires.list_in c.requires.free c.requires.place next
    c.deref_mut.ensures.value c.deref_mut-2.ensures.value c.get-2.ensures same c.get-3.ensures c.link.ensures.nodes c.link.ensures.ends size count)

pub returns : goal.returns
returns c =
    let same : c.map-prev.result ≡ c.args.after = search rules in
    let next = c.follower-next.ensures ∙ (λ i. follower_of (c.deref.ensures.value i) (c.deref-2.ensures.value i) (c.get.ensures i) (same i)) in
    let size : length c.link.new.nodes ≡ c.self.inside.nodes.len = omega (arith, c.link.auto.nodes, c.deref_mut.ensures.len) in
    let count : length c.link.new.ends ≡ c.self.inside.ends.len = omega (arith, c.link.auto.ends, c.deref_mut-2.ensures.len) in
    let now = Shows-attached c.self.view_is c.self.invariant c.requires.node_in c.requires.list_in c.requires.free c.requires.place next
    c.deref_mut.ensures.value c.deref_mut-2.ensures.value c.get-2.ensures same c.get-3.ensures c.link.ensures.nodes c.link.ensures.ends size count in
    let before = Shows-from _ _ _ c.self.view_is c.self.invariant in
    record {
      put = now.view;
      holders = λ n. ap (λ (t : NodeLists). holder t n) now.view
          ∙ holders-put _ _ _ before c.args.list c.args.node c.args.after c.follower-next.result (omega (arith, nodes_seen _ _ _ c.self.view_is c.self.invariant)) c.requires.list_in c.requires.free c.requires.place next n;
      apart = subst IsApart (sym now.view) (apart_shown _ _ _ now);
    }
