use Rattle.std.proofs.Common.{◌≡◌, map}
use Rattle.pif_model.specs.Posix.{after_end}
use Rattle.pif_posix.proofs.ruled_ends.each_left.Given as goal

abbrev pub invariant-loop-state : goal.invariant-loop-state
invariant-loop-state l = l.all.items ≡ map (after_end l.thread) l.yielded
