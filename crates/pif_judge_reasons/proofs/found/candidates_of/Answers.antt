use Rattle.pif_judge_reasons.proofs.Candidates.{priorities_may_stand}
use Rattle.pif_judge_reasons.proofs.found.candidates_of.Goals as goal

pub returns-in_ok-numbers_of-in-Prio : goal.returns-in_ok-numbers_of-in-Prio
returns-in_ok-numbers_of-in-Prio c =
    priorities_may_stand c.args.line.now c.in-Prio.thread c.in-Prio.field-1 c.in_ok-labels-in-Prio.labels.items
    c.as_slice-in-Prio.result.now c.in_ok-numbers_of-in-Prio.field-0.items c.in-Prio.is c.in_ok-labels-in-Prio.ensures
    c.as_slice-in-Prio.ensures.value c.in_ok-numbers_of-in-Prio.ensures
