use Rattle.std.proofs.Common.{List, ◌++◌, refl, reverse, subst}
use Rattle.std.proofs.lemmas.Result.{IfOk-weaker}
use Rattle.std.specs.Prelude.{IfSome}
use Rattle.pif_history_model.specs.declared.lines.Line.{Line}
use Rattle.pif_parts.specs.Standing.{IsPast, StandFor}
use Rattle.pif_parts_judged.specs.Following.{lines_most}
use Rattle.pif_parts_judged.proofs.following.Judged.judge_part.Goals as goal

pub returns : goal.returns
returns g c =
    IfOk-weaker c.settle.result _ _
    (λ s x front h. x c.args.limits front c.args.later.now h refl (c.in_ok-verdict.ensures front h)
    ((subst (λ o. IfSome o (λ v. (lines : List Line) → IsPast lines c.args.self.now.past → StandFor c.args.limits lines_most (reverse v.items) lines))
    c.in-Some.is c.in_ok-before.ensures) (reverse (front ++ c.args.later.now)) h.past))
    c.settle.ensures
