use Rattle.std.proofs.Common.{◌+◌, ◌≤◌, length}
use Rattle.pif_kernel_model.specs.Inside.{kernel_of}
use Rattle.pif_test_core.proofs.kernels.add_all.Given as goal

-- there is room for those that are still to be added
abbrev pub invariant-loop-level : goal.invariant-loop-level
invariant-loop-level g l =
    length (kernel_of l.kernel).seats + length l.levels ≤ (kernel_of l.kernel).limits.threads + 1 + l.level-index
