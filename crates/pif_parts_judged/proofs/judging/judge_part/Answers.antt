use Rattle.std.proofs.Common.{List, ◌∙◌, subst}
use Rattle.std.proofs.lemmas.Result.{IfOk-weaker}
use Rattle.pif_history_model.specs.declared.lines.Line.{Line}
use Rattle.pif_parts.specs.Parts.{IsOf}
use Rattle.pif_parts_judged.proofs.judging.judge_part.Goals as goal

pub returns : goal.returns
returns g c =
    IfOk-weaker c.judge_components.result _ _
    (λ v x. subst (λ (ys : List Line). IsOf c.args.limits ys v) (c.as_slice.ensures.value ∙ c.in_ok-all.ensures) x)
    c.judge_components.ensures
