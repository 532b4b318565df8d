use Rattle.std.proofs.Common.{◌∙◌, Some, ap, sym, subst, arith}
use Rattle.pif_nodes_model.specs.declared.keys.Key.{Key}
use Rattle.pif_nodes_model.specs.Table.{NodeLists}
use Rattle.pif_nodes_model.specs.Order.{table_after_insert}
use Rattle.pif_kernel_model.specs.Owners.{with_wait}
use Rattle.pif_kernel_model.specs.States.{States, owners_in}
use Rattle.pif_kernel_model.proofs.ViewLemmas.{length-seats}
use Rattle.pif_rtmutex.specs.Steps.{IsStep}
use Rattle.pif_rtmutex.proofs.ReadLemmas.{row-below}
use Rattle.pif_rtmutex.proofs.CallLemmas.{enqueued}
use Rattle.pif_rtmutex.proofs.rt_mutexes.RtMutexes.put_waiter.Goals as goal

pub wait_node-node-requires : goal.wait_node-node-requires
wait_node-node-requires c =
    omega (arith, c.requires.row, length-seats c.args.self.now c.args.table.now, c.requires.holds.waiters.rows)

pub waiters-requires : goal.waiters-requires
waiters-requires c =
    row-below c.args.self.now c.args.table.now c.args.key c.args.state.row c.requires.holds.waiters c.requires.state.row

pub insert-requires-clause-node_in : goal.insert-requires-clause-node_in
insert-requires-clause-node_in c =
    omega (
      arith,
      c.requires.row,
      length-seats c.args.self.now c.args.table.now,
      c.requires.holds.waiters.rows,
      c.requires.holds.waiters.nodes,
      c.wait_node-node.ensures,
    )

pub returns : goal.returns
returns c =
    let m : States = c.args.self.now in
    let t : NodeLists = c.args.table.now in
    let rank : Key = record { prio = c.args.prio; ticket = c.args.ticket } in
    let put =
    c.insert.ensures.put
    ∙ ap (λ p. table_after_insert t c.waiters.result c.wait_node-node.result
    (record { prio = p; ticket = c.args.ticket })) c.get.ensures.value in
    subst (λ (n : States). IsStep m n t c.insert.new.table c.args.key c.args.state.owner c.args.t
    (with_wait c.args.t (Some (record { state = c.args.key; rank = rank })) (owners_in m t))) (sym c.set_wait.ensures)
    (enqueued m t c.insert.new.table c.args.key c.args.t c.waiters.result c.wait_node-node.result c.args.state
    (record {
      holds = c.requires.holds;
      stored = c.requires.state;
      list = c.waiters.ensures;
      node = c.wait_node-node.ensures.node;
      own = c.insert.ensures.sorted;
      others = c.insert.ensures.others;
      apart = c.insert.ensures.apart;
    })
    rank (omega (arith, c.get.ensures.low, c.get.ensures.value)) (omega (arith, c.get.ensures.high, c.get.ensures.value))
    (c.wait_node-node.ensures.thread, omega (arith, c.requires.row, length-seats m t, c.requires.holds.waiters.rows))
    c.requires.free c.requires.node c.requires.no_cycle put c.insert.ensures.holders)
