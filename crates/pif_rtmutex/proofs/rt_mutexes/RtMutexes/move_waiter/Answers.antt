use Rattle.std.proofs.Common.{◌∙◌, ap, sym, Some, arith}
use Rattle.pif_nodes_model.specs.Table.{NodeLists, holder}
use Rattle.pif_nodes_model.specs.Order.{table_after_insert, table_after_remove, key_with_prio}
use Rattle.pif_kernel_model.specs.States.{States}
use Rattle.pif_kernel_model.proofs.ViewLemmas.{waits_on-owners_in}
use Rattle.pif_kernel_model.proofs.WaiterLemmas.{waits-thread}
use Rattle.pif_rtmutex.proofs.ReadLemmas.{row-below}
use Rattle.pif_rtmutex.proofs.CallLemmas.{rekeyed}
use Rattle.pif_rtmutex.proofs.rt_mutexes.RtMutexes.move_waiter.Goals as goal

pub wait_node-node-requires : goal.wait_node-node-requires
wait_node-node-requires c =
    (waits-thread c.args.self.now c.args.table.now c.args.t c.args.key c.requires.holds.waiters
    (sym (waits_on-owners_in c.args.self.now c.args.table.now c.args.t) ∙ c.requires.queued)).1

pub waiters-requires : goal.waiters-requires
waiters-requires c =
    row-below c.args.self.now c.args.table.now c.args.key c.args.state.row c.requires.holds.waiters c.requires.state.row

pub rekey-requires-clause-held : goal.rekey-requires-clause-held
rekey-requires-clause-held c =
    ap (holder c.args.table.now) c.wait_node-node.ensures.node
    ∙ c.requires.holds.waiters.queued c.args.t c.args.key c.args.state.row
    (sym (waits_on-owners_in c.args.self.now c.args.table.now c.args.t) ∙ c.requires.queued) c.requires.state.row
    ∙ ap Some (sym c.waiters.ensures)

pub returns : goal.returns
returns c =
    let m : States = c.args.self.now in
    let t : NodeLists = c.args.table.now in
    let moved =
    c.rekey.ensures.moved
    ∙ ap (λ p. table_after_insert (table_after_remove t c.waiters.result c.wait_node-node.result) c.waiters.result
    c.wait_node-node.result (key_with_prio t c.wait_node-node.result p)) c.get.ensures.value in
    rekeyed m t c.rekey.new.table c.args.key c.args.t c.waiters.result c.wait_node-node.result c.args.state
    (record {
      holds = c.requires.holds;
      stored = c.requires.state;
      list = c.waiters.ensures;
      node = c.wait_node-node.ensures.node;
      own = c.rekey.ensures.sorted;
      others = c.rekey.ensures.others;
      apart = c.rekey.ensures.apart;
    })
    c.requires.queued c.args.prio (omega (arith, c.get.ensures.low, c.get.ensures.value))
    (omega (arith, c.get.ensures.high, c.get.ensures.value)) moved c.rekey.ensures.holders
