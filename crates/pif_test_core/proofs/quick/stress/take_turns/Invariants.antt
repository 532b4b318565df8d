use Rattle.pif_quick.specs.Quick.{IsPassOf, IsIdle}
use Rattle.pif_test_core.proofs.quick.stress.take_turns.Given as goal

abbrev pub invariant-loop : goal.invariant-loop
invariant-loop g l = record {
  own : IsPassOf l.quick l.pass;
  idle : IsIdle l.pass;
}
