use Rattle.std.proofs.Common.{◌≡◌}
use Rattle.pif_history_told.specs.Sets.{sets_below}
use Rattle.pif_history_told.proofs.sets.sets_but_all.Given as goal

abbrev pub invariant-loop-size : goal.invariant-loop-size
invariant-loop-size l = l.sets.items ≡ sets_below l.asked l.size l.base l.rules.items
