use Rattle.std.proofs.Common.{ℕ, Option, sym, subst}
use Rattle.std.specs.Prelude.{IfSome}
use Rattle.pif_kernel_model.specs.Parked.{IsTopParked}
use Rattle.pif_queue.proofs.ParkedLemmas.{top-first}
use Rattle.pif_queue.proofs.parked_lists.ParkedLists.top_parked.Goals as goal

pub returns-clause-top : goal.returns-clause-top
returns-clause-top c =
    subst (λ (o : Option ℕ). IfSome o (λ t. IsTopParked c.args.self.now c.args.table.now c.args.c t)) (sym c.thread.ensures)
    (top-first c.args.self.now c.args.table.now c.requires.stand c.args.c c.in_ok-node.node c.in_ok-node.ensures.cond
    c.in_ok-node.ensures.first c.in_ok-node.ensures.least)
