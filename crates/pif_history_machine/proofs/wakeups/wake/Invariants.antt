use Rattle.std.proofs.Common.{◌≡◌, ◌++◌, take, drop, map}
use Rattle.pif_history_machine.specs.Wakeups.{once_used}
use Rattle.pif_history_machine.proofs.wakeups.wake.Given as goal

abbrev pub invariant-loop-call : goal.invariant-loop-call
invariant-loop-call l =
    l.calls ≡ map (once_used l.variable) (take l.call-index l.initial.calls)
    ++ drop l.call-index l.initial.calls
