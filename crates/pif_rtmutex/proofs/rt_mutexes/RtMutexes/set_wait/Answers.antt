use Rattle.std.proofs.Common.{◌∙◌, ap}
use Rattle.pif_kernel_model.specs.States.{Row, row_at, with_row}
use Rattle.pif_rtmutex.proofs.rt_mutexes.RtMutexes.set_wait.Goals as goal

pub returns : goal.returns
returns c =
    c.put.ensures.row
    ∙ ap (λ (x : Row). with_row c.args.t (record x { wait = c.args.wait }) c.args.self.now)
    (c.row.view_is ∙ c.row_of-row.ensures ∙ ap (row_at c.args.self.now) c.get.ensures.value)
