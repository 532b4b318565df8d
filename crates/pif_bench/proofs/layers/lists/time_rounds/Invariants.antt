use Rattle.pif_bench.specs.Filling.{IsReady, IsEmptied}
use Rattle.pif_bench.proofs.layers.lists.time_rounds.Given as goal

abbrev pub invariant-loop-round : goal.invariant-loop-round
invariant-loop-round g l = IsReady l.table × IsEmptied 1000 l.table
