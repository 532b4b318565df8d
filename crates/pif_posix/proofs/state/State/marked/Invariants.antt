use Rattle.std.proofs.Common.{◌≡◌, take, map}
use Rattle.pif_model.specs.Posix.{is_still_blocked}
use Rattle.pif_posix.proofs.state.State.marked.Given as goal

abbrev pub invariant-loop-i : goal.invariant-loop-i
invariant-loop-i l = l.all.items ≡ map (λ u. (u, is_still_blocked l.self l.thread l.variable u)) (take l.i l.blocked)
