use Rattle.std.proofs.Common.{◌≡◌}
use Rattle.pif_model.specs.Posix.{is_blocked_on}
use Rattle.pif_posix_steps.specs.Doing.{passing, all_blocked}
use Rattle.pif_rules_model.specs.Ruled.{is_some_of}
use Rattle.pif_posix.proofs.state.State.is_anyone_blocked.Given as goal

abbrev pub invariant-loop-u : goal.invariant-loop-u
invariant-loop-u l = is_some_of (passing (is_blocked_on l.self l.variable) l.u) ≡ is_some_of (all_blocked l.self l.variable)
