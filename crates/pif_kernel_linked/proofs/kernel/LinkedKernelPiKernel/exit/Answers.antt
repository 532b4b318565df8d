-- What the end of a thread comes to is what the kernel inside says.
use Rattle.std.proofs.Common.{sym}
use Rattle.pif_kernel_linked.proofs.kernel.LinkedKernelPiKernel.exit.Goals as goal

pub returns-clause-words : goal.returns-clause-words
returns-clause-words c = rw (sym c.self.view_is) c.exit.ensures.words

pub returns-clause-after : goal.returns-clause-after
returns-clause-after c = rw (sym c.self.view_is) c.exit.ensures.after

pub returns-clause-lists : goal.returns-clause-lists
returns-clause-lists c = c.exit.ensures.lists
