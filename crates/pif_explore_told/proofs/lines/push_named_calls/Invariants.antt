use Rattle.std.proofs.Common.{◌≡◌}
use Rattle.pif_explore_told.specs.OutcomeLines.{with_calls}
use Rattle.pif_explore_told.proofs.lines.push_named_calls.Given as goal

abbrev pub invariant-loop-at : goal.invariant-loop-at
invariant-loop-at l = l.line.items ≡ with_calls l.points l.answers l.from l.initial.line.items l.at
