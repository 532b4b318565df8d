use Rattle.std.proofs.Common.{List, subst}
use Rattle.pif_history_text.specs.Reading.{heard_of}
use Rattle.pif_history_told.specs.declared.verdicts.Began.{Began}
use Rattle.pif_job_judge.specs.OpenCalls.{IsDeadlock}
use Rattle.pif_job_judge.proofs.open_calls.at_end_of.Goals as goal

pub returns : goal.returns
returns g c = record {
  calls = c.in_ok-calls.ensures;
  deadlock = λ e. subst (λ (bs : List Began). IsDeadlock (heard_of c.args.history.now) bs) c.as_slice.ensures.value (c.in_ok-deadlock.ensures e);
}
