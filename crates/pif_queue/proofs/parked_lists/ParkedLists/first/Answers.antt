use Rattle.std.proofs.Common.{◌≡◌, ◌∙◌, ap, arith}
use Rattle.pif_nodes_model.specs.Lists.{first_of}
use Rattle.pif_nodes_model.specs.Table.{list_at}
use Rattle.pif_kernel_model.specs.Parked.{ParkedLists, HasNoParked}
use Rattle.pif_kernel_model.proofs.Firsts.{none-if}
use Rattle.pif_queue.proofs.ParkedLemmas.{none-parked, none-past}
use Rattle.pif_queue.proofs.parked_lists.ParkedLists.first.Goals as goal

pub returns-then-get-self-clause-none : goal.returns-then-get-self-clause-none
returns-then-get-self-clause-none c =
    let conds : c.self.inside.conds ≡ c.args.self.now.conds = ap (λ (p : ParkedLists). p.conds) c.self.view_is in
    none-past c.args.self.now c.args.table.now c.requires.stand c.args.c
    (omega (arith, conds, c.get.ensures.value, c.if-get-self.true))

pub returns-clause-none : goal.returns-clause-none
returns-clause-none c =
    none-if c.top.result (HasNoParked c.args.self.now c.args.table.now c.args.c)
    (λ e. none-parked c.args.self.now c.args.table.now c.requires.stand c.args.c
    (e ∙ c.top.ensures.first ∙ ap (λ l. first_of (list_at c.args.table.now l)) c.list.ensures))
