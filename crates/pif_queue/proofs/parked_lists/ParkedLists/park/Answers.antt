use Rattle.std.proofs.Common.{◌≡◌, ◌∙◌, ℕ, eqb, cond, Some, ap, sym, subst, refl}
use Rattle.pif_nodes_model.specs.Lists.{list_without}
use Rattle.pif_nodes_model.specs.Table.{NodeLists, list_at, holder}
use Rattle.pif_nodes_model.specs.Order.{IsSorted, OthersStaySorted, table_after_insert}
use Rattle.pif_kernel_model.specs.Differences.{differences}
use Rattle.pif_kernel_model.specs.Parked.{Place, ParkedLists, differing_at, variable_list, parking_node, target_of, parked_at, with_place_at, with_differing, StandParked, HoldsParked}
use Rattle.pif_queue.proofs.ParkedCalls.{IsCall, park-stands, park-counted, park-seen, park-holds}
use Rattle.pif_queue.proofs.parked_lists.ParkedLists.park.Goals as goal

-- the call, by the names of the definitions
called : (c : goal.After-count_in-arg-1) → IsCall c.args.self.now c.args.table.now c.insert.new.table c.args.c c.args.t
called c =
    record {
      holds = c.requires.holds;
      thread = c.requires.thread;
      cond = c.requires.cond;
      own = subst (IsSorted c.insert.new.table) c.list.ensures c.insert.ensures.sorted;
      others = subst (OthersStaySorted c.args.table.now c.insert.new.table) c.list.ensures c.insert.ensures.others;
      apart = c.insert.ensures.apart;
    }

put : (c : goal.After-count_in-arg-1)
    → c.insert.new.table
    ≡ table_after_insert c.args.table.now (variable_list c.args.self.now c.args.c) (parking_node c.args.self.now c.args.t)
    (record { prio = c.args.prio; ticket = c.args.ticket })
put c =
    c.insert.ensures.put
    ∙ (λ i. table_after_insert c.args.table.now (c.list.ensures i) (c.node-node.ensures i)
    (record { prio = c.get.ensures.value i; ticket = c.args.ticket }))

holders : (c : goal.After-count_in-arg-1) (m : ℕ)
    → holder c.insert.new.table m
    ≡ cond (eqb m (parking_node c.args.self.now c.args.t)) (Some (variable_list c.args.self.now c.args.c))
    (holder c.args.table.now m)
holders c m =
    c.insert.ensures.holders m
    ∙ (λ i. cond (eqb m (c.node-node.ensures i)) (Some (c.list.ensures i)) (holder c.args.table.now m))

pub count_in-requires-clause-stand : goal.count_in-requires-clause-stand
count_in-requires-clause-stand c =
    subst (λ (q : ParkedLists). StandParked q c.insert.new.table) (sym c.set_place.ensures)
    (park-stands c.args.self.now c.args.table.now c.insert.new.table c.args.c c.args.t (called c)
    (record { cond = c.args.c; target = c.args.m }) (record { prio = c.args.prio; ticket = c.args.ticket }) refl
    c.requires.node (put c) (holders c))

pub count_in-requires-clause-counted : goal.count_in-requires-clause-counted
count_in-requires-clause-counted c =
    let x : Place = record { cond = c.args.c; target = c.args.m } in
    let p : ParkedLists = c.args.self.now in
    subst (λ (q : ParkedLists). differing_at q c.args.c
    ≡ differences (target_of q) (list_without c.node-node.result (list_at c.insert.new.table (variable_list q c.args.c))))
    (sym c.set_place.ensures)
    (park-counted p c.args.table.now c.insert.new.table c.args.c c.args.t (called c) x
    (record { prio = c.args.prio; ticket = c.args.ticket }) refl c.requires.node (put c) (holders c)
    ∙ ap (λ k. differences (target_of (with_place_at c.args.t (Some x) p))
    (list_without k (list_at c.insert.new.table (variable_list p c.args.c)))) (sym c.node-node.ensures))

pub returns-clause-parked : goal.returns-clause-parked
returns-clause-parked c = λ v.
    ap (λ (q : ParkedLists). parked_at q c.insert.new.table v) (c.count_in.ensures)
    ∙ ap (λ (q : ParkedLists). parked_at q c.insert.new.table v) c.set_place.ensures
    ∙ park-seen c.args.self.now c.args.table.now c.insert.new.table c.args.c c.args.t
    (record {
      holds = c.requires.holds;
      thread = c.requires.thread;
      cond = c.requires.cond;
      own = subst (IsSorted c.insert.new.table) c.list.ensures c.insert.ensures.sorted;
      others = subst (OthersStaySorted c.args.table.now c.insert.new.table) c.list.ensures c.insert.ensures.others;
      apart = c.insert.ensures.apart;
    })
    (record { cond = c.args.c; target = c.args.m }) (record { prio = c.args.prio; ticket = c.args.ticket }) refl
    c.requires.node
    (c.insert.ensures.put
    ∙ (λ i. table_after_insert c.args.table.now (c.list.ensures i) (c.node-node.ensures i)
    (record { prio = c.get.ensures.value i; ticket = c.args.ticket })))
    (λ m. c.insert.ensures.holders m
    ∙ (λ i. cond (eqb m (c.node-node.ensures i)) (Some (c.list.ensures i)) (holder c.args.table.now m))) v

pub returns-clause-holds : goal.returns-clause-holds
returns-clause-holds c =
    let p : ParkedLists = c.args.self.now in
    let now : NodeLists = c.insert.new.table in
    let x : Place = record { cond = c.args.c; target = c.args.m } in
    let next : ParkedLists = with_place_at c.args.t (Some x) p in
    let count : ℕ = differences (target_of next) (list_at now (variable_list p c.args.c)) in
    let is : c.count_in.new.self ≡ with_differing c.args.c count next =
    c.count_in.ensures
    ∙ ap (λ (q : ParkedLists). with_differing c.args.c (differences (target_of q) (list_at now (variable_list q c.args.c))) q)
    c.set_place.ensures in
    subst (λ (q : ParkedLists). HoldsParked q now) (sym is)
    (park-holds p c.args.table.now now c.args.c c.args.t
    (record {
      holds = c.requires.holds;
      thread = c.requires.thread;
      cond = c.requires.cond;
      own = subst (IsSorted now) c.list.ensures c.insert.ensures.sorted;
      others = subst (OthersStaySorted c.args.table.now now) c.list.ensures c.insert.ensures.others;
      apart = c.insert.ensures.apart;
    })
    x (record { prio = c.args.prio; ticket = c.args.ticket }) refl c.requires.node
    (c.insert.ensures.put
    ∙ (λ i. table_after_insert c.args.table.now (c.list.ensures i) (c.node-node.ensures i)
    (record { prio = c.get.ensures.value i; ticket = c.args.ticket })))
    (λ m. c.insert.ensures.holders m
    ∙ (λ i. cond (eqb m (c.node-node.ensures i)) (Some (c.list.ensures i)) (holder c.args.table.now m))) count refl)
