use Rattle.std.proofs.Common.{List, subst, IfOk}
use Rattle.pif_types.specs.Bounds.{Bounds}
use Rattle.pif_history_model.specs.declared.lines.Line.{Line}
use Rattle.pif_history_machine.specs.Verdicts.{IsVerdictOf}
use Rattle.pif_job_judge.proofs.judging.verdict_on.Goals as goal

pub returns : goal.returns
returns g c =
    subst (λ (l : Bounds). IfOk c.judge_lines.result (λ v. IsVerdictOf c.args.history.now.allowed l c.args.history.now.shown.items v)) c.limits.ensures
    (subst (λ (ls : List Line). IfOk c.judge_lines.result (λ v. IsVerdictOf c.args.history.now.allowed c.limits.result ls v)) c.as_slice.ensures.value
    c.judge_lines.ensures)
