use Rattle.pif_quick.specs.Quick.{IsPassOf}
use Rattle.pif_test_core.proofs.quick.tries.give_up_always.Given as goal

abbrev pub invariant-loop-round : goal.invariant-loop-round
invariant-loop-round g l = IsPassOf l.quick l.pass
