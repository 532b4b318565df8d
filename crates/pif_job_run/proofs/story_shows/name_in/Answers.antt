use Rattle.std.proofs.Common.{sym}
use Rattle.pif_job_run.proofs.NameLemmas.{name_is_text}
use Rattle.pif_job_run.proofs.story_shows.name_in.Goals as goal

pub returns-in-Err : goal.returns-in-Err
returns-in-Err c =
    absurd (c.in-Err.ensures.cases.0 (name_is_text c.args.names.now c.in-Some.thread c.in-Some-name_of.name.now
    (sym c.in-Some-name_of.ensures)))
