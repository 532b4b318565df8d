use Rattle.std.proofs.Common.{◌≤◌, drop, length}
use Rattle.pif_history_told.specs.Ways.{HasCome}
use Rattle.pif_history_told.specs.Unlisted.{HasFirst}
use Rattle.pif_history_told.proofs.unlisted.walked.Given as goal

abbrev pub invariant-loop-left : goal.invariant-loop-left
invariant-loop-left c =
    HasCome c.fn.rules c.fn.limits c.fn.labels c.chosen.items c.left c.position × (c.left ≤ length c.labels)
    × HasFirst c.fn.rules c.fn.limits (drop c.left c.labels) c.position c.sought

abbrev pub decreases-loop-left : goal.decreases-loop-left
decreases-loop-left c = c.left
