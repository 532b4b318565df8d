use Rattle.std.proofs.Common.{◌≡◌, length}
use Rattle.pif_model.specs.RobustList.{robust_at, without_robust}
use Rattle.pif_robust.proofs.lists.RobustLists.forget.Given as goal

-- once the list is forgotten, all is as if it had been forgotten at once
abbrev pub invariant-loop-m : goal.invariant-loop-m
invariant-loop-m l = without_robust l.t l.self ≡ without_robust l.t l.initial.self

abbrev pub decreases-loop-m : goal.decreases-loop-m
decreases-loop-m l = length (robust_at l.self l.t).listed
