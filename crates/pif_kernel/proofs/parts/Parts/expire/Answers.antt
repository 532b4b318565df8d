use Rattle.std.proofs.Common.{◌≡◌, ap, ◌∙◌, sym}
use Rattle.pif_model.specs.declared.lines.Status.TheVariants.{Stopped}
use Rattle.pif_model.specs.declared.lines.Woken.TheVariants.{Expired}
use Rattle.pif_model.specs.PiKernel.{Kernel, seat_at, has_seat, is_ready, queued_on, kernel_after_waking}
use Rattle.pif_model_lemmas.proofs.kernel.Facts.{living-added}
use Rattle.pif_model_lemmas.proofs.kernel.Left.{has-left, status-left_same}
use Rattle.pif_model_lemmas.proofs.kernel.Expired.{expired-as_woken}
use Rattle.pif_kernel_model.specs.Inside.{kernel_of}
use Rattle.pif_kernel.proofs.parts.Parts.expire.Goals.{After-leave_as}
use Rattle.pif_kernel.proofs.parts.Parts.expire.Goals as goal

-- it has stopped then
stopped : (g : _) (c : After-leave_as g) → (seat_at (kernel_of c.leave_as.new.self) c.args.t).status ≡ Stopped
stopped g c =
    let k : Kernel = kernel_of c.args.self.now in
    ap (λ (x : Kernel). (seat_at x c.args.t).status) c.leave_as.ensures.after
    ∙ status-left_same Stopped c.args.t k (living-added k c.args.t c.requires.living)

pub wake-requires-clause-added : goal.wake-requires-clause-added
wake-requires-clause-added g c =
    let k : Kernel = kernel_of c.args.self.now in
    ap (λ (x : Kernel). has_seat x c.args.t) c.leave_as.ensures.after ∙ has-left Stopped c.args.t k c.args.t
    ∙ living-added k c.args.t c.requires.living

pub wake-requires-clause-unready : goal.wake-requires-clause-unready
wake-requires-clause-unready g c = ap is_ready (stopped g (goal.at.wake-requires-clause-unready g c).After-leave_as)

pub wake-requires-clause-unqueued : goal.wake-requires-clause-unqueued
wake-requires-clause-unqueued g c = ap queued_on (stopped g (goal.at.wake-requires-clause-unqueued g c).After-leave_as)

pub returns-clause-after : goal.returns-clause-after
returns-clause-after g c =
    c.wake.ensures.after ∙ ap (kernel_after_waking c.args.t Expired) c.leave_as.ensures.after
    ∙ sym (expired-as_woken c.args.t (kernel_of c.args.self.now))
