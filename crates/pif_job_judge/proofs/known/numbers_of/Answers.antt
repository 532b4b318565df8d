use Rattle.std.proofs.Common.{List, take, ap}
use Rattle.pif_history_model.specs.declared.lines.Line.{Line}
use Rattle.pif_history_text.specs.Reading.{heard_of}
use Rattle.pif_job_judge.proofs.JudgingLemmas.{answers_known, priorities_known}
use Rattle.pif_job_judge.proofs.known.numbers_of.Goals as goal

pub returns-in_ok-answers-in-Answer : goal.returns-in_ok-answers-in-Answer
returns-in_ok-answers-in-Answer g c =
    answers_known (heard_of c.args.history.now) c.args.before c.args.line.now c.in-Answer.thread c.in-Answer.field-1 _ _ c.in_ok-answers-in-Answer.answers
    c.in-Answer.is c.limits-limits.ensures (ap (λ (ls : List Line). take c.args.before ls) c.as_slice.ensures.value) c.requires.refused c.in_ok-answers-in-Answer.ensures

pub returns-in_ok-priorities-in-Prio : goal.returns-in_ok-priorities-in-Prio
returns-in_ok-priorities-in-Prio g c =
    priorities_known (heard_of c.args.history.now) c.args.before c.args.line.now c.in-Prio.thread c.in-Prio.field-1 _ _ c.in_ok-priorities-in-Prio.priorities
    c.in-Prio.is c.limits-limits.ensures (ap (λ (ls : List Line). take c.args.before ls) c.as_slice.ensures.value) c.requires.refused
    c.in_ok-priorities-in-Prio.ensures
