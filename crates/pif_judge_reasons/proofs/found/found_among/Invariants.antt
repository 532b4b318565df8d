use Rattle.pif_judge_reasons.specs.Found.{AreFound}
use Rattle.pif_judge_reasons.proofs.found.found_among.Given as goal

abbrev pub invariant-loop-number : goal.invariant-loop-number
invariant-loop-number g l = AreFound l.terms.rules l.terms.limits l.before l.line l.found.items
