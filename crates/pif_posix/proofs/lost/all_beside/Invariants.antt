use Rattle.std.proofs.Common.{◌≡◌, map}
use Rattle.pif_posix.specs.Beside.{with_lists}
use Rattle.pif_posix.proofs.lost.all_beside.Given as goal

abbrev pub invariant-loop-state : goal.invariant-loop-state
invariant-loop-state l = l.all.items ≡ map (with_lists l.lost l.apart l.prio_none l.given) l.yielded
