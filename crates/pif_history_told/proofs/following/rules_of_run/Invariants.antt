use Rattle.std.proofs.Common.{◌≤◌, length}
use Rattle.pif_history_told.specs.Ways.{HasCome}
use Rattle.pif_history_told.proofs.following.rules_of_run.Given as goal

abbrev pub invariant-loop-left : goal.invariant-loop-left
invariant-loop-left c =
    HasCome c.fn.rules c.fn.limits c.fn.witness c.chosen.items c.left c.position × (c.left ≤ length c.witness)

abbrev pub decreases-loop-left : goal.decreases-loop-left
decreases-loop-left c = c.left
