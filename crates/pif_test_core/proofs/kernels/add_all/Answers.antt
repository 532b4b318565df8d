use Rattle.std.proofs.Common.{◌≡◌, ◌+◌, length, ap, ◌∙◌, arith}
use Rattle.std.proofs.lemmas.List.{length_push}
use Rattle.pif_model.specs.PiKernel.{Kernel}
use Rattle.pif_kernel_model.specs.Inside.{kernel_of}
use Rattle.pif_test_core.proofs.kernels.add_all.Goals as goal

pub loop-level-preserved : goal.loop-level-preserved
loop-level-preserved g c =
    let seats : length (kernel_of c.add.new.self).seats ≡ length (kernel_of c.loop-level.kernel).seats + 1
    = ap (λ (k : Kernel). length k.seats) c.add.ensures.after ∙ length_push (kernel_of c.loop-level.kernel).seats _ in
    let threads : (kernel_of c.add.new.self).limits.threads ≡ (kernel_of c.loop-level.kernel).limits.threads
    = ap (λ (k : Kernel). k.limits.threads) c.add.ensures.after in
    omega (arith, seats, threads, c.loop-level.invariant)
