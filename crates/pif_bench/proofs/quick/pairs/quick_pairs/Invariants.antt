use Rattle.pif_quick.specs.Quick.{IsPassOf}
use Rattle.pif_bench.proofs.quick.pairs.quick_pairs.Given as goal

abbrev pub invariant-loop : goal.invariant-loop
invariant-loop l = IsPassOf l.quick l.pass
