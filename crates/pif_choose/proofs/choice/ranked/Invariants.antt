use Rattle.std.specs.List.{IsFirstMaxByKey}
use Rattle.pif_choose.specs.declared.choice.Candidate.{Candidate}
use Rattle.pif_choose.proofs.choice.ranked.Given as goal

abbrev pub invariant-loop-place : goal.invariant-loop-place
invariant-loop-place l = IsFirstMaxByKey (λ (c : Candidate). c.rank) l.can l.place l.best
