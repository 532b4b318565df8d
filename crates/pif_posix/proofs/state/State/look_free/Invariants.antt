use Rattle.std.proofs.Common.{◌≡◌, take}
use Rattle.pif_rules_model.specs.Lending.{looking_free}
use Rattle.pif_posix.proofs.state.State.look_free.Given as goal

abbrev pub invariant-loop-i : goal.invariant-loop-i
invariant-loop-i l = l.self ≡ looking_free (take l.i l.mutexes) l.initial.self
