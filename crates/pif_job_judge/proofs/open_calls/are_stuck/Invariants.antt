use Rattle.std.proofs.Common.{[], take}
use Rattle.std.specs.Prelude.{All}
use Rattle.pif_history_model.specs.Verdicts.{ArePossibleAnswers}
use Rattle.pif_history_text.specs.Histories.{limits_of}
use Rattle.pif_history_text.specs.Reading.{heard_of}
use Rattle.pif_job_judge.proofs.open_calls.are_stuck.Given as goal

abbrev pub invariant-loop-call : goal.invariant-loop-call
invariant-loop-call g l =
    All (λ x. ArePossibleAnswers l.history.allowed (limits_of (heard_of l.history)) l.history.shown.items x.thread [])
    (take l.call-index l.calls)
