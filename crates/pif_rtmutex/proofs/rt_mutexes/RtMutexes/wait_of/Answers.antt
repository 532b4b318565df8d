use Rattle.std.proofs.Common.{◌∙◌, ap}
use Rattle.pif_kernel_model.specs.States.{Row, row_at}
use Rattle.pif_rtmutex.proofs.rt_mutexes.RtMutexes.wait_of.Goals as goal

pub returns : goal.returns
returns c =
    ap (λ (x : Row). x.wait) (c.result.view_is ∙ c.row_of.ensures ∙ ap (row_at c.args.self.now) c.get.ensures.value)
