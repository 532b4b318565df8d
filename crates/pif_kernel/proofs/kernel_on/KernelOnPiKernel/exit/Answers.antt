use Rattle.std.proofs.Common.{◌≡◌, true, subst, sym, ap, ◌∙◌}
use Rattle.pif_model.specs.declared.lines.Status.TheVariants.{Ended}
use Rattle.pif_model.specs.PiKernel.{Kernel, seat_at, is_living}
use Rattle.pif_model_lemmas.proofs.kernel.Left.{status-left_same}
use Rattle.pif_model_lemmas.proofs.kernel.Facts.{living-added}
use Rattle.pif_kernel_model.specs.Inside.{Inside, kernel_of}
use Rattle.pif_kernel.proofs.kernel_on.KernelOnPiKernel.exit.Goals as goal

pub pass_all_on-requires-clause-ended : goal.pass_all_on-requires-clause-ended
pass_all_on-requires-clause-ended g c =
    let k : Kernel = kernel_of c.self.inside.parts in
    let living : is_living k c.args.t ≡ true
    = subst (λ (x : Inside). is_living (kernel_of x) c.args.t ≡ true) (sym c.self.view_is) c.requires.living in
    ap (λ (x : Kernel). (seat_at x c.args.t).status) c.leave_as.ensures.after
    ∙ status-left_same Ended c.args.t k (living-added k c.args.t living)
