use Rattle.std.proofs.Common.{◌≡◌, ◌++◌}
use Rattle.pif_model.specs.Posix.{is_blocked_on}
use Rattle.pif_posix_steps.specs.Doing.{passing, all_blocked}
use Rattle.pif_posix.proofs.state.State.all_blocked.Given as goal

abbrev pub invariant-loop-u : goal.invariant-loop-u
invariant-loop-u l = l.all.items ++ passing (is_blocked_on l.self l.variable) l.u ≡ all_blocked l.self l.variable
