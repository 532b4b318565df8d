use Rattle.pif_quick.specs.Quick.{IsPassOf}
use Rattle.pif_bench.proofs.quick.pairs.measure_by.Given as goal

abbrev pub invariant-loop-round : goal.invariant-loop-round
invariant-loop-round g l = IsPassOf l.quick l.pass
