use Rattle.std.proofs.Common.{◌≡◌, take}
use Rattle.std.specs.List.{filter}
use Rattle.pif_model.specs.World.{thread_at}
use Rattle.pif_rules_model.specs.Rules.{looks_free_by}
use Rattle.pif_posix.proofs.state.State.hidden_from.Given as goal

abbrev pub invariant-loop-i : goal.invariant-loop-i
invariant-loop-i l = l.all.items ≡ filter (looks_free_by l.rule (thread_at l.self l.thread).call) (take l.i l.mutexes)
