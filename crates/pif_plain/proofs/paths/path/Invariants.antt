use Rattle.std.proofs.Common.{◌-◌, length}
use Rattle.std.specs.Prelude.{unwrap_or}
use Rattle.pif_kernel_model.proofs.Ways.{IsPathing}
use Rattle.pif_plain.proofs.paths.path.Given as goal

-- what was passed, and the thread that is next
abbrev pub invariant-loop-next : goal.invariant-loop-next
invariant-loop-next l = IsPathing l.owners l.fn.start l.passed.items (unwrap_or l.next 0)

abbrev pub decreases-loop-next : goal.decreases-loop-next
decreases-loop-next l = 1024 - length l.passed.items
