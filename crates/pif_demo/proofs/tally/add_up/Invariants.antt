use Rattle.pif_quick.specs.Quick.{IsPassOf, IsIdle}
use Rattle.pif_demo.proofs.tally.add_up.Given as goal

abbrev pub invariant-loop-number : goal.invariant-loop-number
invariant-loop-number g l = record {
  own : IsPassOf l.quick l.pass;
  idle : IsIdle l.pass;
}
