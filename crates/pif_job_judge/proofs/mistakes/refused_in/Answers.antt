use Rattle.pif_history_text.specs.Histories.{limits_of}
use Rattle.pif_history_text.specs.Reading.{heard_of}
use Rattle.pif_job_judge.proofs.BeforeLemmas.{each_of, first_of}
use Rattle.pif_job_judge.proofs.mistakes.refused_in.Goals as goal

pub returns-clause-first : goal.returns-clause-first
returns-clause-first c =
    let h = heard_of c.args.history.now in
    first_of c.limits.result (limits_of h) c.as_slice.result.now h.shown c.first_refused.result c.limits.ensures
    c.as_slice.ensures.value c.first_refused.ensures

pub returns-clause-each : goal.returns-clause-each
returns-clause-each c =
    let h = heard_of c.args.history.now in
    each_of (limits_of h) h.shown c.first_refused.result
    (first_of c.limits.result (limits_of h) c.as_slice.result.now h.shown c.first_refused.result c.limits.ensures
    c.as_slice.ensures.value c.first_refused.ensures)
