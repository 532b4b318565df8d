use Rattle.std.proofs.Common.{Option, Vec, Global, IfSome, arith, subst, take}
use Rattle.pif_history_model.specs.declared.labels.Label.{Label}
use Rattle.pif_history_model.specs.Verdicts.{IsLegal}
use Rattle.pif_judge_reasons.proofs.fronts.front_of.Goals as goal

pub returns-in-Some : goal.returns-in-Some
returns-in-Some g c =
    let legal = subst (λ (o : Option (Vec Label Global)). IfSome o (λ v. IsLegal c.args.terms.now.rules c.args.terms.now.limits (take c.args.count c.args.lines.now) v.items))
    c.in-Some.is c.in_ok-labels.ensures in (
      omega (arith, c.if-count-eq0.false),
      omega (arith, c.if-count-lines.false),
      legal,
    )
