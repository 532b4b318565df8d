use Rattle.pif_cli.proofs.PartsLemmas.{names_written, no_names}
use Rattle.pif_cli.proofs.parts.save_parts.Goals as goal

pub returns-in-Ok : goal.returns-in-Ok
returns-in-Ok g c =
    names_written c.args.parts.now c.args.folder.now c.as_slice.result.now _ _ c.write_names.result
    (rw c.as_slice.ensures.value c.in-Ok.ensures) c.write_names.ensures

pub returns-in-Err : goal.returns-in-Err
returns-in-Err g c = no_names c.args.parts.now _ c.in-Err.fault
