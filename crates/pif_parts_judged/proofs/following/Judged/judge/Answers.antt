use Rattle.std.proofs.Common.{◌∙◌, List, ap, arith, refl, subst}
use Rattle.pif_history_model.specs.declared.lines.Line.{Line}
use Rattle.pif_parts.specs.Parts.{IsOf}
use Rattle.pif_parts_judged.specs.Following.{both}
use Rattle.pif_parts_judged.proofs.following.Judged.judge.Goals as goal

pub returns : goal.returns
returns g c = λ front h.
    c.whole.ensures c.args.limits front c.args.later.now h refl (omega (arith, c.if-later-gt-LINES_MOST.false))
    (subst (λ (ys : List Line). IsOf c.args.limits ys c.in_ok-verdict.verdict)
    (c.as_slice-2.ensures.value ∙ c.in_ok-all.ensures
    ∙ ap (λ (ys : List Line). both ys c.args.later.now) c.as_slice.ensures.value)
    c.in_ok-verdict.ensures)
