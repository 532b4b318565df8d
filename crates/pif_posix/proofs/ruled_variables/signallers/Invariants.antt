use Rattle.std.proofs.Common.{◌≡◌, ◌++◌}
use Rattle.pif_posix_steps.specs.Doing.{passing}
use Rattle.pif_rules_model.specs.Rules.{of_call, signalling_by}
use Rattle.pif_rules_model.specs.Ruled.{is_mutex_of, signallers}
use Rattle.pif_posix.proofs.ruled_variables.signallers.Given as goal

abbrev pub invariant-loop-u : goal.invariant-loop-u
invariant-loop-u l =
    l.all.items ++ passing (λ u. is_mutex_of (of_call signalling_by l.state u) l.variable) l.u ≡ signallers l.state l.variable
