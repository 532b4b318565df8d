use Rattle.pif_components.specs.Judging.{AreJudged, IsTold}
use Rattle.pif_components.proofs.judging.judge_each.Given as goal

abbrev pub invariant-loop-number : goal.invariant-loop-number
invariant-loop-number g l = IsTold l.limits l.lines l.groups l.fn.illegal → AreJudged l.limits l.lines l.groups l.number l.standing
