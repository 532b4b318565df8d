use Rattle.std.proofs.Common.{◌≡◌, take, map}
use Rattle.std.specs.List.{filter}
use Rattle.pif_model.specs.Posix.{effective_of, is_still_blocked}
use Rattle.pif_posix.proofs.state.State.priorities_left.Given as goal

abbrev pub invariant-loop-i : goal.invariant-loop-i
invariant-loop-i l = l.all.items ≡ map (effective_of l.self) (filter (is_still_blocked l.self l.thread l.variable) (take l.i l.blocked))
