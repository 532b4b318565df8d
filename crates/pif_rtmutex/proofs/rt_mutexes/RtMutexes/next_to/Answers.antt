use Rattle.std.proofs.Common.{◌∙◌, ap, sym, arith}
use Rattle.pif_nodes_model.specs.Table.{next_node}
use Rattle.pif_kernel_model.specs.States.{States}
use Rattle.pif_rtmutex.proofs.BehindLemmas.{waits-at, node_range}
use Rattle.pif_kernel_model.proofs.WaiterLemmas.{waits-thread}
use Rattle.pif_rtmutex.proofs.rt_mutexes.RtMutexes.next_to.Goals as goal

pub wait_node-requires : goal.wait_node-requires
wait_node-requires c =
    let w = waits-at c.args.self.now c.args.table.now c.args.t c.requires.queued in
    (waits-thread c.args.self.now c.args.table.now c.args.t w.0 c.requires.holds w.1).1

pub next-requires : goal.next-requires
next-requires c =
    let w = waits-at c.args.self.now c.args.table.now c.args.t c.requires.queued in
    let is = waits-thread c.args.self.now c.args.table.now c.args.t w.0 c.requires.holds w.1 in
    omega (arith, c.wait_node.ensures.node, is.0, is.1, c.requires.holds.nodes)

pub overflow_sub-get : goal.overflow_sub-get
overflow_sub-get c =
    let w = waits-at c.args.self.now c.args.table.now c.args.t c.requires.queued in
    let range = node_range c.args.self.now c.args.table.now c.args.t w.0 c.requires.holds w.1 c.in_ok-node.node
    (ap (next_node c.args.table.now) (sym c.wait_node.ensures.node) ∙ sym c.next.ensures.neighbour ∙ c.in_ok-node.was) in
    omega (arith, range.0, c.get.ensures, ap (λ (m : States). m.first_node) c.self.view_is)

pub overflow_add-get : goal.overflow_add-get
overflow_add-get c =
    let w = waits-at c.args.self.now c.args.table.now c.args.t c.requires.queued in
    let range = node_range c.args.self.now c.args.table.now c.args.t w.0 c.requires.holds w.1 c.in_ok-node.node
    (ap (next_node c.args.table.now) (sym c.wait_node.ensures.node) ∙ sym c.next.ensures.neighbour ∙ c.in_ok-node.was) in
    record {
      fits =
          omega (
            arith,
            range.1,
            c.get.ensures,
            c.self.invariant.most,
            ap (λ (m : States). m.first_node) c.self.view_is,
            ap (λ (m : States). m.threads) c.self.view_is,
          );
    }
