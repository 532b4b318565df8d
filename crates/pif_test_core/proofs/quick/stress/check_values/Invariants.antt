use Rattle.pif_quick.specs.Quick.{IsPassOf}
use Rattle.pif_test_core.proofs.quick.stress.check_values.Given as goal

abbrev pub invariant-loop-m : goal.invariant-loop-m
invariant-loop-m g l = IsPassOf l.quick l.pass
