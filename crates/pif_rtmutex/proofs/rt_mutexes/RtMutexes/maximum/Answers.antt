use Rattle.std.proofs.Common.{◌≡◌, ◌∙◌, ap, sym, unwrap_or, max, arith}
use Rattle.pif_kernel_model.specs.Owners.{Task, task_at}
use Rattle.pif_kernel_model.specs.States.{Row, row_at, owners_in}
use Rattle.pif_kernel_model.proofs.ViewLemmas.{length-seats, task_at-owners_in}
use Rattle.pif_rtmutex.proofs.rt_mutexes.RtMutexes.maximum.Goals as goal

pub greatest_top-requires-clause-row : goal.greatest_top-requires-clause-row
greatest_top-requires-clause-row c =
    omega (arith, c.requires.row, length-seats c.args.self.now c.args.table.now, c.requires.holds.waiters.rows)

pub returns : goal.returns
returns c =
    let number : unwrap_or c.base.result 0 ≡ (task_at (owners_in c.args.self.now c.args.table.now) c.args.t).base =
    c.base.ensures.number
    ∙ ap (λ (x : Row). x.base) (c.row.view_is ∙ c.row_of-row.ensures ∙ ap (row_at c.args.self.now) c.get.ensures.value)
    ∙ ap (λ (x : Task). x.base) (sym (task_at-owners_in c.args.self.now c.args.table.now c.args.t)) in
    c.greater.ensures ∙ (λ i. max (number i) (c.greatest_top.ensures i))
