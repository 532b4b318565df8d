use Rattle.std.proofs.Common.{◌≡◌, ◌++◌}
use Rattle.std.specs.List.{flat_map}
use Rattle.pif_posix_steps.specs.Doing.{owns_robust, passing}
use Rattle.pif_rules_model.specs.Ruled.{revived_if, found_by}
use Rattle.pif_posix.proofs.ruled_ends.found_by.Given as goal

abbrev pub invariant-loop-mutex : goal.invariant-loop-mutex
invariant-loop-mutex l =
    l.all.items ++ flat_map (revived_if l.rules l.thread l.state) (passing (owns_robust l.state l.thread) l.mutex) ≡ found_by l.rules l.thread l.state
