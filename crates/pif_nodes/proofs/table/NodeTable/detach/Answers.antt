use Rattle.std.proofs.Common.{arith, ◌≡◌, ◌∙◌, ap, sym, subst, length}
use Rattle.std.proofs.lemmas.Option.{same_Some}
use Rattle.pif_nodes_model.specs.Lists.{list_without}
use Rattle.pif_nodes_model.specs.Table.{NodeLists, IsApart, with_list, list_at, holder}
use Rattle.pif_nodes.proofs.SeenLemmas.{Shows-from, holders-taken, Ties-shown, apart_shown}
use Rattle.pif_nodes.proofs.ReadLemmas.{apart_seen}
use Rattle.pif_nodes.proofs.WriteLemmas.{Shows-detached, holder_is, list_within, prev_within, next_within}
use Rattle.pif_nodes.proofs.table.NodeTable.detach.Goals as goal

pub unlink-requires-clause-list_in : goal.unlink-requires-clause-list_in
unlink-requires-clause-list_in c =
    omega (arith, list_within c.self.view_is c.self.invariant c.requires.held c.get.ensures c.index-slot.ensures c.in-Some.is, ap length c.deref_mut-in-Some.ensures.value)

pub unlink-requires-clause-prev_in : goal.unlink-requires-clause-prev_in
unlink-requires-clause-prev_in c = λ x h.
    omega (arith, prev_within c.self.view_is c.self.invariant c.requires.held c.get.ensures c.index-slot.ensures c.in-Some.is x h, ap length c.deref_mut.ensures.value)

pub unlink-requires-clause-next_in : goal.unlink-requires-clause-next_in
unlink-requires-clause-next_in c = λ x h.
    omega (arith, next_within c.self.view_is c.self.invariant c.requires.held c.get.ensures c.index-slot.ensures c.in-Some.is x h, ap length c.deref_mut.ensures.value)

pub invariant_of-self : goal.invariant_of-self
invariant_of-self c =
    let size : length c.unlink.new.nodes ≡ c.self.inside.nodes.len = omega (arith, c.unlink.auto.nodes, c.deref_mut.ensures.len) in
    let count : length c.unlink.new.ends ≡ c.self.inside.ends.len = omega (arith, c.unlink.auto.ends, c.deref_mut-in-Some.ensures.len) in
    Ties-shown _ _ _ (Shows-detached c.self.view_is c.self.invariant c.requires.held c.get.ensures c.index-slot.ensures c.in-Some.is
    c.deref_mut.ensures.value c.deref_mut-in-Some.ensures.value c.get-in-Some.ensures c.unlink.ensures.nodes c.unlink.ensures.ends size count)

pub returns-in-Some : goal.returns-in-Some
returns-in-Some c =
    let size : length c.unlink.new.nodes ≡ c.self.inside.nodes.len = omega (arith, c.unlink.auto.nodes, c.deref_mut.ensures.len) in
    let count : length c.unlink.new.ends ≡ c.self.inside.ends.len = omega (arith, c.unlink.auto.ends, c.deref_mut-in-Some.ensures.len) in
    let mine = holder_is c.self.view_is c.self.invariant c.requires.held c.get.ensures c.index-slot.ensures c.in-Some.is in
    let now = Shows-detached c.self.view_is c.self.invariant c.requires.held c.get.ensures c.index-slot.ensures c.in-Some.is
    c.deref_mut.ensures.value c.deref_mut-in-Some.ensures.value c.get-in-Some.ensures c.unlink.ensures.nodes c.unlink.ensures.ends size count in
    record {
      before = apart_seen _ _ _ c.self.view_is c.self.invariant;
      taken = λ l h. now.view ∙ ap (λ k. with_list c.args.self.now k (list_without c.args.node (list_at c.args.self.now k))) (same_Some c.in-Some.list l (sym mine ∙ h));
      holders = λ n. ap (λ (t : NodeLists). holder t n) now.view ∙ holders-taken _ _ _ (Shows-from _ _ _ c.self.view_is c.self.invariant) c.in-Some.list c.args.node mine n;
      apart = subst IsApart (sym now.view) (apart_shown _ _ _ now);
    }
