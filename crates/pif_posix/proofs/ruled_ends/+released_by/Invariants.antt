use Rattle.std.proofs.Common.{◌≡◌, ◌++◌, ◌-◌}
use Rattle.std.specs.List.{flat_map}
use Rattle.pif_rules_model.specs.Ruled.{released_by}
use Rattle.pif_posix.proofs.ruled_ends.+released_by.Given as goal

abbrev pub decreases-released_by : goal.decreases-released_by
decreases-released_by l = l.left

abbrev pub invariant-loop-next : goal.invariant-loop-next
invariant-loop-next l =
    l.all.items ≡ l.initial.all.items ++ flat_map (released_by l.rules (l.left - 1) l.thread) l.yielded
