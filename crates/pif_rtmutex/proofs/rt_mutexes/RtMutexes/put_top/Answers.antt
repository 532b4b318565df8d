use Rattle.std.proofs.Common.{◌≡◌, ◌∙◌, ap, sym, subst, ℕ, Some, None, arith}
use Rattle.std.proofs.lemmas.List.{get_or-set_same}
use Rattle.pif_nodes_model.specs.declared.keys.Key.{Key}
use Rattle.pif_nodes_model.specs.Table.{NodeLists, no_key, key_at, holder}
use Rattle.pif_nodes_model.specs.Order.{IsSorted}
use Rattle.pif_kernel_model.specs.States.{States, IsThread, IsOwnList, wait_node, top_node, top_list, first_waiter}
use Rattle.pif_kernel_model.specs.Holds.{IsRankedTop}
use Rattle.pif_kernel_model.specs.Frames.{ChangesList, ChangesTops}
use Rattle.pif_kernel_model.proofs.ListChanges.{changes-inserted, changes-as, in-list, tops-changed}
use Rattle.pif_rtmutex.proofs.TopLemmas.{tops-put, first-thread, top-free}
use Rattle.pif_rtmutex.proofs.rt_mutexes.RtMutexes.put_top.Goals as goal

pub wait_node-requires : goal.wait_node-requires
wait_node-requires c =
    (first-thread c.args.self.now c.args.table.now c.args.key c.args.to c.in-Some.t c.args.first c.requires.waiters
    c.requires.to c.requires.first c.in-Some.is).1

pub key-prio-requires : goal.key-prio-requires
key-prio-requires c =
    omega (
      arith,
      first-thread c.args.self.now c.args.table.now c.args.key c.args.to c.in-Some.t c.args.first c.requires.waiters
          c.requires.to c.requires.first c.in-Some.is,
      c.wait_node.ensures.node,
      c.requires.waiters.nodes,
    )

pub top_node-node-requires : goal.top_node-node-requires
top_node-node-requires c =
    (first-thread c.args.self.now c.args.table.now c.args.key c.args.to c.in-Some.t c.args.first c.requires.waiters
    c.requires.to c.requires.first c.in-Some.is).1

pub tops-requires : goal.tops-requires
tops-requires c = (c.requires.waiters.owned c.args.key c.args.to c.requires.to).1

pub insert-requires : goal.insert-requires
insert-requires c =
    let m : States = c.args.self.now in
    let t : NodeLists = c.args.table.now in
    let u : ℕ = c.in-Some.t in
    let first : first_waiter m t c.args.key ≡ Some u = sym c.requires.first ∙ c.in-Some.is in
    let j : IsThread m u =
    first-thread m t c.args.key c.args.to u c.args.first c.requires.waiters c.requires.to c.requires.first c.in-Some.is in
    let i : IsThread m c.args.to = c.requires.waiters.owned c.args.key c.args.to c.requires.to in
    record {
      list_in = omega (arith, i, c.tops.ensures.list, c.requires.waiters.lists);
      node_in = omega (arith, j, c.top_node-node.ensures.node, c.requires.waiters.nodes);
      free = ap (holder t) c.top_node-node.ensures.node
          ∙ top-free m t c.args.key c.args.to c.args.to u c.requires.waiters c.requires.to first c.requires.but;
      sorted = subst (λ l. IsSorted t l) (sym c.tops.ensures.list) (c.requires.but.topped.sorted c.args.to i);
    }

pub returns-in-Some : goal.returns-in-Some
returns-in-Some c =
    let m : States = c.args.self.now in
    let t : NodeLists = c.args.table.now in
    let now : NodeLists = c.insert.new.table in
    let u : ℕ = c.in-Some.t in
    let o : ℕ = c.args.to in
    let first : first_waiter m t c.args.key ≡ Some u = sym c.requires.first ∙ c.in-Some.is in
    let j : IsThread m u =
    first-thread m t c.args.key o u c.args.first c.requires.waiters c.requires.to c.requires.first c.in-Some.is in
    let i : IsThread m o = c.requires.waiters.owned c.args.key o c.requires.to in
    let changes : ChangesList (top_list m o) (top_node m u) t now =
    changes-as t now c.tops.result c.top_node-node.result (top_list m o)
    (top_node m u) c.tops.ensures.list c.top_node-node.ensures.node
    (changes-inserted t now c.tops.result c.top_node-node.result c.requires.waiters.apart c.insert.ensures.apart
    c.insert.ensures.sorted c.insert.ensures.others
    (record { prio = c.key-prio.result.prio; ticket = 0 }) c.insert.ensures.put c.insert.ensures.holders) in
    let free : holder t (top_node m u) ≡ None =
    top-free m t c.args.key o o u c.requires.waiters c.requires.to first c.requires.but in
    let own : (l : ℕ) → holder t (top_node m u) ≡ Some l → IsOwnList m l = λ l e. let wrong : None ≡ Some l = sym free
    ∙ e in absurd cc in
    let frame : ChangesTops m t now = tops-changed m t now o u c.requires.waiters i j own changes in
    let put : holder now (top_node m u) ≡ Some (top_list m o) =
    ap (holder now) (sym c.top_node-node.ensures.node)
    ∙ in-list t now c.tops.result c.top_node-node.result c.insert.ensures.holders
    ∙ ap Some c.tops.ensures.list in
    let key : (key_at now (top_node m u)).prio ≡ c.key-prio.result.prio =
    ap (λ n. (key_at now n).prio) (sym c.top_node-node.ensures.node)
    ∙ ap (λ (x : NodeLists). (key_at x c.top_node-node.result).prio) c.insert.ensures.put
    ∙ ap (λ (x : Key). x.prio)
    (get_or-set_same t.keys c.top_node-node.result (record { prio = c.key-prio.result.prio; ticket = 0 }) no_key
    (omega (arith, j, c.top_node-node.ensures.node, c.requires.waiters.nodes))) in
    let rank : IsRankedTop m now u =
    key ∙ ap (λ (x : Key). x.prio) (c.key-prio.ensures ∙ ap (key_at t) c.wait_node.ensures.node
    ∙ sym (changes.keys (wait_node m u) (λ e. absurd (omega (arith, j, e))))) in
    record {
      changes = frame;
      tops = tops-put m t now c.args.key o u c.requires.waiters i j changes frame c.requires.to first put rank
          c.requires.but;
    }
