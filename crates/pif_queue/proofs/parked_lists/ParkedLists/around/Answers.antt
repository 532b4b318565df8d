use Rattle.std.proofs.Common.{◌∙◌, sym}
use Rattle.pif_kernel_model.specs.Parked.{IsNodeOfThread, variable_list}
use Rattle.pif_kernel_model.proofs.Firsts.{all-if}
use Rattle.pif_queue.proofs.ParkedLemmas.{own-node, own-next, own-prev}
use Rattle.pif_queue.proofs.parked_lists.ParkedLists.around.Goals as goal

pub step-requires-clause-one : goal.step-requires-clause-one
step-requires-clause-one c =
    all-if c.prev-before.result (IsNodeOfThread c.args.self.now)
    (λ m e. own-prev c.args.self.now c.args.table.now c.requires.stand c.args.c c.args.node m c.requires.cond
    c.requires.held (sym c.prev-before.ensures.neighbour ∙ e))

pub step-requires-clause-other : goal.step-requires-clause-other
step-requires-clause-other c =
    own-node c.args.self.now c.args.table.now c.requires.stand c.args.c c.args.node c.requires.cond
    (c.requires.stand.apart.listed (variable_list c.args.self.now c.args.c) c.args.node c.requires.held)

pub step-requires-2-clause-one : goal.step-requires-2-clause-one
step-requires-2-clause-one c =
    own-node c.args.self.now c.args.table.now c.requires.stand c.args.c c.args.node c.requires.cond
    (c.requires.stand.apart.listed (variable_list c.args.self.now c.args.c) c.args.node c.requires.held)

pub step-requires-2-clause-other : goal.step-requires-2-clause-other
step-requires-2-clause-other c =
    all-if c.next-behind.result (IsNodeOfThread c.args.self.now)
    (λ m e. own-next c.args.self.now c.args.table.now c.requires.stand c.args.c c.args.node m c.requires.cond
    c.requires.held (sym c.next-behind.ensures.neighbour ∙ e))
