use Rattle.std.proofs.Common.{IfOk, List, subst}
use Rattle.pif_types.specs.Bounds.{Bounds}
use Rattle.pif_history_model.specs.declared.lines.Line.{Line}
use Rattle.pif_history_text.specs.Histories.{limits_of}
use Rattle.pif_history_text.specs.Reading.{heard_of}
use Rattle.pif_job_judge.specs.LeastRules.{IsLeast}
use Rattle.pif_job_judge.proofs.least.needed_of.Goals as goal

pub returns : goal.returns
returns g c =
    let h = c.args.history.now in
    let a = c.args.asked.now in
    let found = c.least.result in
    subst (λ (lines : List Line). IfOk found (IsLeast h.allowed a (limits_of (heard_of h)) lines)) c.as_slice-lines.ensures.value
    (subst (λ (l : Bounds). IfOk found (IsLeast h.allowed a l c.as_slice-lines.result.now)) c.limits-limits.ensures c.least.ensures)
