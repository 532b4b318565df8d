use Rattle.std.proofs.Common.{length}
use Rattle.pif_history_told.proofs.sets.+push_sets.Given as goal

abbrev pub decreases-push_sets : goal.decreases-push_sets
decreases-push_sets l = length l.rules.now
