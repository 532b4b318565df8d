use Rattle.std.proofs.Common.{Ok, Err, refl}
use Rattle.pif_script_model.specs.Checks.{check_telling}
use Rattle.pif_cli.specs.Names.{shown_name}
use Rattle.pif_cli.proofs.NotesLemmas.{told_noting, told_under}
use Rattle.pif_cli.proofs.told.Told.check.Goals as goal

pub returns-in-Ok-clause-did : goal.returns-in-Ok-clause-did
returns-in-Ok-clause-did g c =
    let noted = rw c.shown.ensures at c.in-Ok.ensures.noted in
    (Ok tt, told_noting _ (check_telling (shown_name c.args.name.now)) _ _ _ _ noted, refl)

pub returns-in-Err-clause-did : goal.returns-in-Err-clause-did
returns-in-Err-clause-did g c =
    (Err c.in-Err.fault, told_under _ _ _ _ _ _ _ c.shown.ensures c.in-Err.ensures.failed, refl)
