use Rattle.pif_bench.specs.Filling.{IsReady, IsEmptied}
use Rattle.pif_bench.proofs.layers.lists.remove_all.Given as goal

abbrev pub invariant-loop-number : goal.invariant-loop-number
invariant-loop-number l = IsReady l.table × IsEmptied l.number l.table
