use Rattle.std.proofs.Common.{◌≡◌, ◌++◌, length}
use Rattle.pif_model.specs.RobustList.{robust_at, walk_of}
use Rattle.pif_model_lemmas.specs.RobustWalks.{ahead}
use Rattle.pif_robust.proofs.lists.RobustLists.walk.Given as goal

-- what was found and what is ahead are all
abbrev pub invariant-loop-next : goal.invariant-loop-next
invariant-loop-next l = l.found.items ++ ahead l.next (walk_of (robust_at l.self l.t)) ≡ walk_of (robust_at l.self l.t)

abbrev pub decreases-loop-next : goal.decreases-loop-next
decreases-loop-next l = length (ahead l.next (walk_of (robust_at l.self l.t)))
