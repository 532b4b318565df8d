use Rattle.std.proofs.Common.{reverse, take}
use Rattle.pif_history_machine.specs.Wakeups.{AreCalls}
use Rattle.pif_history_machine.proofs.wakeups.first_unwoken.Given as goal

abbrev pub invariant-loop-place : goal.invariant-loop-place
invariant-loop-place l = AreCalls (reverse (take l.place l.lines)) l.calls.items
