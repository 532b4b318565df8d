use Rattle.pif_quick.specs.Quick.{IsPassOf, IsUnchanged}
use Rattle.pif_test_core.proofs.quick.turns.wait_for_mark.Given as goal

abbrev pub invariant-loop-look : goal.invariant-loop-look
invariant-loop-look l = record {
  own : IsPassOf l.quick l.pass;
  kept : IsUnchanged l.fn.pass l.pass;
}
