use Rattle.std.proofs.Common.{◌≡◌, ◌++◌, ◌-◌}
use Rattle.std.specs.List.{flat_map}
use Rattle.pif_posix_steps.specs.Doing.{inherited, passed_on_by_death, owns_robust, passing, robust_of}
use Rattle.pif_posix.proofs.state.State.+inherit.Given as goal

abbrev pub decreases-inherit : goal.decreases-inherit
decreases-inherit l = l.left

abbrev pub invariant-loop-mutex : goal.invariant-loop-mutex
invariant-loop-mutex l =
    l.all.items ++ flat_map (λ m. inherited (l.left - 1) l.thread (passed_on_by_death m l.self)) (passing (owns_robust l.self l.thread) l.mutex)
    ≡ l.initial.all.items ++ flat_map (λ m. inherited (l.left - 1) l.thread (passed_on_by_death m l.self)) (robust_of l.self l.thread)
