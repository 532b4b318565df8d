use Rattle.std.proofs.Common.{◌∙◌, List, ap, sym}
use Rattle.pif_history_model.specs.declared.lines.Line.{Line}
use Rattle.pif_job_judge.specs.OpenCalls.{all_ended}
use Rattle.pif_job_judge.proofs.OpenCallLemmas.{some_calls}
use Rattle.pif_job_judge.proofs.JudgingLemmas.{if_ok}
use Rattle.pif_job_judge.proofs.open_calls.is_deadlock.Goals as goal

pub returns : goal.returns
returns g c =
    if_ok c.are_stuck.result _ _
    (λ b stuck. λ yes. record {
      some = some_calls c.args.calls.now (sym c.is_empty.ensures ∙ c.if-is_empty.false);
      timeless = sym c.any_deadline.ensures ∙ c.if-any_deadline.false;
      ended = ap (λ (ls : List Line). all_ended ls) (sym c.as_slice.ensures.value) ∙ (sym c.all_ended.ensures ∙ c.if-not-all_ended.false);
      stuck = stuck yes;
    })
    c.are_stuck.ensures
