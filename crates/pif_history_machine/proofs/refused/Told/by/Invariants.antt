use Rattle.std.proofs.Common.{reverse, take}
use Rattle.pif_history_machine.specs.Told.{IsTold}
use Rattle.pif_history_machine.proofs.refused.Told.by.Given as goal

abbrev pub invariant-loop-line : goal.invariant-loop-line
invariant-loop-line l = IsTold l.thread (reverse (take l.line-index l.lines)) l.told
