use Rattle.std.proofs.Common.{◌≡◌, ◌++◌, take, drop, map}
use Rattle.pif_model.specs.Posix.{after_use}
use Rattle.pif_posix.proofs.changes.see_use.Given as goal

abbrev pub invariant-loop-task : goal.invariant-loop-task
invariant-loop-task l = l.threads ≡ map (after_use l.variable) (take l.task-index l.initial.threads) ++ drop l.task-index l.initial.threads
