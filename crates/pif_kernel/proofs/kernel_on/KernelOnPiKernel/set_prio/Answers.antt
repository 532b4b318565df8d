use Rattle.pif_kernel_model.specs.Inside.{kernel_of}
use Rattle.pif_kernel.proofs.Answering.{set_prio_lives}
use Rattle.pif_kernel.proofs.kernel_on.KernelOnPiKernel.set_prio.Goals as goal

pub set_base-requires-clause-living : goal.set_base-requires-clause-living
set_base-requires-clause-living g c =
    set_prio_lives c.args.t c.args.p (kernel_of c.self.inside.parts) c.in_ok-prio.ensures.answer
