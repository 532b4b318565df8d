use Rattle.std.proofs.Common.{◌∙◌, ap, sym, arith}
use Rattle.pif_nodes_model.specs.Table.{list_at}
use Rattle.pif_nodes_model.specs.Lists.{first_of}
use Rattle.pif_kernel_model.specs.States.{States}
use Rattle.pif_rtmutex.proofs.ReadLemmas.{first-node}
use Rattle.pif_rtmutex.proofs.rt_mutexes.RtMutexes.first_in.Goals as goal

pub overflow_sub-get : goal.overflow_sub-get
overflow_sub-get c =
    let at = first-node c.args.self.now c.args.table.now c.args.key c.args.state.row c.in_ok-node.node c.requires.holds
    c.requires.row
    (sym (c.top.ensures.first ∙ ap (λ l. first_of (list_at c.args.table.now l)) c.waiters.ensures)
    ∙ c.in_ok-node.was) in
    omega (arith, at.1, c.get.ensures, ap (λ (m : States). m.first_node) c.self.view_is)

pub overflow_add-get : goal.overflow_add-get
overflow_add-get c =
    let at = first-node c.args.self.now c.args.table.now c.args.key c.args.state.row c.in_ok-node.node c.requires.holds
    c.requires.row
    (sym (c.top.ensures.first ∙ ap (λ l. first_of (list_at c.args.table.now l)) c.waiters.ensures)
    ∙ c.in_ok-node.was) in
    record {
      fits =
          omega (
            arith,
            at.2,
            c.get.ensures,
            c.self.invariant.most,
            ap (λ (m : States). m.first_node) c.self.view_is,
            ap (λ (m : States). m.threads) c.self.view_is,
          );
    }
