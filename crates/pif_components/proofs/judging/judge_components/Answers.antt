use Rattle.std.proofs.Common.{reverse, subst, sym}
use Rattle.std.specs.Prelude.{IfSome}
use Rattle.pif_components.specs.Groups.{AreGroupsOf}
use Rattle.pif_parts.specs.Parts.{IsOf}
use Rattle.pif_components.proofs.JudgingLemmas.{all_judged}
use Rattle.pif_components.proofs.judging.judge_components.Goals as goal

pub returns : goal.returns
returns g c =
    subst (λ v. IsOf c.args.limits c.args.lines.now v) (sym c.verdict_of.ensures)
    (all_judged c.args.limits c.args.lines.now c.in-Some.groups
    (subst (λ o. IfSome o (λ x. AreGroupsOf (reverse c.args.lines.now) x)) c.in-Some.is c.in_ok-groups.ensures)
    c.in_ok-standing.standing c.in_ok-standing.ensures)
