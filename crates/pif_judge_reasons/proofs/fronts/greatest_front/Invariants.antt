use Rattle.std.specs.Prelude.{IfSome}
use Rattle.pif_judge_reasons.specs.Fronts.{IsFront}
use Rattle.pif_judge_reasons.proofs.fronts.greatest_front.Given as goal

abbrev pub invariant-loop : goal.invariant-loop
invariant-loop g l = IfSome l.front (IsFront l.terms.rules l.terms.limits l.lines)
