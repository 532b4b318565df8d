use Rattle.std.proofs.Common.{◌≡◌}
use Rattle.std.specs.List.{flat_map}
use Rattle.pif_rules_model.specs.Ruled.{ended_found}
use Rattle.pif_posix.proofs.ruled_ends.each_ended.Given as goal

abbrev pub invariant-loop-state : goal.invariant-loop-state
invariant-loop-state l = l.all.items ≡ flat_map (ended_found l.rules l.thread) l.yielded
