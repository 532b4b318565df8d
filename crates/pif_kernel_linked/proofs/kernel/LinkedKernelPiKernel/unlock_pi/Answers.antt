-- The word after an unlock is the one that the kernel inside writes.
use Rattle.std.proofs.Common.{sym}
use Rattle.pif_kernel_linked.proofs.kernel.LinkedKernelPiKernel.unlock_pi.Goals as goal

pub returns-clause-words : goal.returns-clause-words
returns-clause-words c = rw (sym c.self.view_is) c.unlock_pi.ensures.words
