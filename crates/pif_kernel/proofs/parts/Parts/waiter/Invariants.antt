use Rattle.std.proofs.Common.{◌≡◌, Some}
use Rattle.std.specs.List.{slice_get}
use Rattle.pif_model.specs.PiKernel.{waiters_in}
use Rattle.pif_kernel_model.specs.Inside.{kernel_of}
use Rattle.pif_kernel.proofs.parts.Parts.waiter.Given as goal

-- the waiter that was come to stands behind as many
abbrev pub invariant-loop-passed : goal.invariant-loop-passed
invariant-loop-passed g l = slice_get (waiters_in (kernel_of l.self) l.fn.m) l._passed ≡ Some l.at
