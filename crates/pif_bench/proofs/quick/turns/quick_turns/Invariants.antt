use Rattle.pif_quick.specs.Quick.{IsPassOf}
use Rattle.pif_bench.proofs.quick.turns.quick_turns.Given as goal

abbrev pub invariant-loop : goal.invariant-loop
invariant-loop g l = IsPassOf l.quick l.pass
