use Rattle.std.proofs.Common.{◌≡◌, ◌++◌}
use Rattle.std.specs.List.{flat_map}
use Rattle.pif_posix_steps.specs.Doing.{owns_robust, passing, robust_of}
use Rattle.pif_rules_model.specs.Ruled.{passed_by_death}
use Rattle.pif_posix.proofs.ruled_ends.passed_once.Given as goal

abbrev pub invariant-loop-mutex : goal.invariant-loop-mutex
invariant-loop-mutex l =
    l.all.items ++ flat_map (passed_by_death l.rules l.state) (passing (owns_robust l.state l.thread) l.mutex)
    ≡ flat_map (passed_by_death l.rules l.state) (robust_of l.state l.thread)
