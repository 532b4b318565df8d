use Rattle.std.proofs.Common.{IsSome, refl, sym, subst}
use Rattle.pif_test_core.proofs.foundation.buckets.one_word.Goals as goal

pub put-requires-clause-none : goal.put-requires-clause-none
put-requires-clause-none g c = c.requires.empty 3

pub forget-requires-clause-some : goal.forget-requires-clause-some
forget-requires-clause-some g c = subst IsSome (sym (c.put.ensures.put 3)) refl
