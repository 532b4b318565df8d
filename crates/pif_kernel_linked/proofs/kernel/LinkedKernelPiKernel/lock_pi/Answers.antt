-- The word after a lock is the one that the kernel inside writes.
use Rattle.pif_kernel_linked.proofs.kernel.LinkedKernelPiKernel.lock_pi.Goals as goal

pub returns-clause-words : goal.returns-clause-words
returns-clause-words c = c.lock_pi.ensures.words
