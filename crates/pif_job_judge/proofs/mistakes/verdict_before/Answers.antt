use Rattle.std.proofs.Common.{List, IfOk, ap, subst, take}
use Rattle.pif_types.specs.Bounds.{Bounds}
use Rattle.pif_history_model.specs.declared.lines.Line.{Line}
use Rattle.pif_history_machine.specs.Verdicts.{IsVerdictOf}
use Rattle.pif_history_text.specs.Histories.{limits_of}
use Rattle.pif_history_text.specs.Reading.{heard_of}
use Rattle.pif_job_judge.proofs.mistakes.verdict_before.Goals as goal

pub returns : goal.returns
returns g c =
    let h = c.args.history.now in
    subst (λ (ls : List Line). IfOk c.judge_lines.result (λ v. IsVerdictOf h.allowed (limits_of (heard_of h)) ls v))
    (ap (λ (ls : List Line). take c.args.before ls) c.as_slice.ensures.value)
    (subst (λ (l : Bounds). IfOk c.judge_lines.result (λ v. IsVerdictOf h.allowed l (take c.args.before c.as_slice.result.now) v))
    c.limits-limits.ensures c.judge_lines.ensures)
