use Rattle.std.proofs.Common.{◌≡◌, ◌≤◌, length}
use Rattle.pif_posix_steps.specs.Doing.{owns_robust, passing}
use Rattle.pif_posix.proofs.state.State.robust_count.Given as goal

abbrev pub invariant-loop-mutex : goal.invariant-loop-mutex
invariant-loop-mutex l = (l.count ≡ length (passing (owns_robust l.self l.thread) l.mutex)) × (l.count ≤ l.mutex)
