use Rattle.pif_bench.specs.Filling.{IsReady, IsFilled}
use Rattle.pif_bench.proofs.layers.lists.insert_all.Given as goal

abbrev pub invariant-loop-number : goal.invariant-loop-number
invariant-loop-number l = IsReady l.table × IsFilled l.priorities l.number l.table
