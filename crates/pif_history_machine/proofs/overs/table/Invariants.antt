use Rattle.pif_history_machine.proofs.Places.{IsTableBelow}
use Rattle.pif_history_machine.proofs.overs.table.Given as goal

abbrev pub invariant-loop-thread : goal.invariant-loop-thread
invariant-loop-thread l = IsTableBelow l.lines l.rows.items l.thread
