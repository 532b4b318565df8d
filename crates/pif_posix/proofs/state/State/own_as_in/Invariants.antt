use Rattle.std.proofs.Common.{◌≡◌, take}
use Rattle.pif_rules_model.specs.Lending.{owned_as_in}
use Rattle.pif_posix.proofs.state.State.own_as_in.Given as goal

abbrev pub invariant-loop-i : goal.invariant-loop-i
invariant-loop-i l = l.self ≡ owned_as_in l.other (take l.i l.mutexes) l.initial.self
