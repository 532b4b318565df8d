use Rattle.std.proofs.Common.{◌≡◌, take}
use Rattle.pif_history_machine.proofs.dying.are_same.Given as goal

abbrev pub invariant-loop-i : goal.invariant-loop-i
invariant-loop-i l = take l.i l.threads ≡ take l.i l.others
