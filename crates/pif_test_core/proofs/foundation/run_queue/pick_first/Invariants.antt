use Rattle.pif_nodes_model.specs.Levels.{Holds}
use Rattle.pif_test_core.proofs.foundation.run_queue.pick_first.Given as goal

abbrev pub invariant-loop-level : goal.invariant-loop-level
invariant-loop-level g l = Holds l.queue l.table
