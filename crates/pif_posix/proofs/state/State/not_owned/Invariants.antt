use Rattle.std.proofs.Common.{◌≡◌, take}
use Rattle.pif_rules_model.specs.Lending.{not_owned}
use Rattle.pif_posix.proofs.state.State.not_owned.Given as goal

abbrev pub invariant-loop-i : goal.invariant-loop-i
invariant-loop-i l = l.all.items ≡ not_owned l.self l.thread (take l.i l.mutexes)
