use Rattle.std.proofs.Common.{All, vec_len}
use Rattle.pif_quick.specs.Quick.{IsPassOf, IsIdle}
use Rattle.pif_test_core.proofs.quick.stress.settle.Given as goal

abbrev pub invariant-loop-one : goal.invariant-loop-one
invariant-loop-one g l = All (λ p. IsPassOf l.quick p × IsIdle p) l.others.items

abbrev pub decreases-loop-one : goal.decreases-loop-one
decreases-loop-one g l = vec_len l.others
