use Rattle.std.proofs.Common.{[], arith}
use Rattle.pif_history_model.specs.Verdicts.{ArePossibleAnswers}
use Rattle.pif_history_text.specs.Histories.{limits_of}
use Rattle.pif_history_text.specs.Reading.{heard_of}
use Rattle.pif_history_told.specs.declared.verdicts.Began.{Began}
use Rattle.pif_job_judge.proofs.LeastRulesLemmas.{all_more, all_read}
use Rattle.pif_job_judge.proofs.open_calls.are_stuck.Goals as goal

pub loop-call-preserved : goal.loop-call-preserved
loop-call-preserved g c =
    let h = heard_of c.args.history.now in
    all_more (λ (x : Began). ArePossibleAnswers h.allowed (limits_of h) h.shown x.thread []) c.args.calls.now c.loop-call.call-index
    c.call-item.result c.loop-call-test.true c.call-item.is (c.in_ok-is_stuck_in.ensures c.if-not-branch.false) c.loop-call.invariant

pub returns : goal.returns
returns g c =
    λ yes.
    let h = heard_of c.args.history.now in
    all_read (λ (x : Began). ArePossibleAnswers h.allowed (limits_of h) h.shown x.thread []) c.args.calls.now c.loop-call.call-index
    (omega (arith, c.loop-call-test.false)) c.loop-call.invariant
