use Rattle.std.proofs.Common.{◌≡◌, ◌++◌, length}
use Rattle.pif_model.specs.Posix.{blocked_below}
use Rattle.pif_posix.proofs.state.State.blocked.Given as goal

abbrev pub invariant-loop-u : goal.invariant-loop-u
invariant-loop-u l = l.all.items ++ blocked_below l.self l.variable l.u ≡ blocked_below l.self l.variable (length l.self.threads)
