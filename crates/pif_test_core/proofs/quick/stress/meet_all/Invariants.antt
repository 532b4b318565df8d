use Rattle.std.proofs.Common.{◌≡◌, All, vec_len}
use Rattle.pif_quick.specs.Quick.{IsPassOf, IsIdle}
use Rattle.pif_test_core.proofs.quick.stress.meet_all.Given as goal

abbrev pub invariant-loop-k : goal.invariant-loop-k
invariant-loop-k l = record {
  counted : vec_len l.others ≡ vec_len l.fn.others;
  own : IsPassOf l.quick l.one × IsIdle l.one;
  others : All (λ p. IsPassOf l.quick p × IsIdle p) l.others.items;
}
