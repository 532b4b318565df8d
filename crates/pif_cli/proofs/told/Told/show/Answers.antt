use Rattle.std.proofs.Common.{Ok, Err, refl}
use Rattle.pif_cli.proofs.NotesLemmas.{shown_failing, shown_noting}
use Rattle.pif_cli.proofs.told.Told.show.Goals as goal

pub returns-in-Ok-clause-did : goal.returns-in-Ok-clause-did
returns-in-Ok-clause-did g c = (Ok tt, shown_noting _ _ _ _ _ c.in-Ok.ensures.noted, refl)

pub returns-in-Err-clause-did : goal.returns-in-Err-clause-did
returns-in-Err-clause-did g c =
    (Err c.in-Err.fault, shown_failing _ _ _ _ _ c.in-Err.ensures.failed, refl)
