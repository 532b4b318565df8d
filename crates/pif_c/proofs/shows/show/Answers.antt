use Rattle.pif_c.proofs.shows.show.Goals as goal

pub returns-in-Ok : goal.returns-in-Ok
returns-in-Ok g c = ((_, c.in-Ok.ensures.noted), c.in-Ok.ensures.told)

pub returns-in-Err : goal.returns-in-Err
returns-in-Err g c = c.in-Err.ensures.failed
