use Rattle.pif_job_run.proofs.showing.write_core.Goals as goal

pub returns-in-Changes-clause-told : goal.returns-in-Changes-clause-told
returns-in-Changes-clause-told g c =
    let told = rw (c.core.ensures, c.before-in-Changes.ensures) at c.write_since.ensures.told in
    rw c.in-Changes.is told

pub returns-in-All-clause-told : goal.returns-in-All-clause-told
returns-in-All-clause-told g c =
    let told = rw c.core-in-All.ensures at c.write_state.ensures.told in
    rw c.in-All.is told
