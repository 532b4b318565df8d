use Rattle.std.proofs.Common.{◌∙◌, sym}
use Rattle.pif_kernel_model.specs.Parked.{IsNodeOfThread}
use Rattle.pif_kernel_model.proofs.Firsts.{all-if}
use Rattle.pif_queue.proofs.ParkedLemmas.{own-next, own-prev}
use Rattle.pif_queue.proofs.parked_lists.ParkedLists.across.Goals as goal

pub step-requires-clause-one : goal.step-requires-clause-one
step-requires-clause-one c =
    all-if c.prev.result (IsNodeOfThread c.args.self.now)
    (λ m e. own-prev c.args.self.now c.args.table.now c.requires.stand c.args.c c.args.node m c.requires.cond
    c.requires.held (sym c.prev.ensures.neighbour ∙ e))

pub step-requires-clause-other : goal.step-requires-clause-other
step-requires-clause-other c =
    all-if c.next.result (IsNodeOfThread c.args.self.now)
    (λ m e. own-next c.args.self.now c.args.table.now c.requires.stand c.args.c c.args.node m c.requires.cond
    c.requires.held (sym c.next.ensures.neighbour ∙ e))
