use Rattle.std.proofs.Common.{◌≡◌, ◌++◌}
use Rattle.pif_history_text.specs.Tellings.{others_below}
use Rattle.pif_history_text.proofs.tellings.push_others.Given as goal

abbrev pub invariant-loop-number : goal.invariant-loop-number
invariant-loop-number l = l.out.items ≡ l.initial.out.items ++ others_below l.number l.moving l.from l.to
