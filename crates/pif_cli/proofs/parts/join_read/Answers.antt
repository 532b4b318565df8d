use Rattle.pif_cli.proofs.PartsLemmas.{join_done, no_index}
use Rattle.pif_cli.proofs.parts.join_read.Goals as goal

pub returns-in-Ok : goal.returns-in-Ok
returns-in-Ok g c =
    join_done c.args.verdicts.now c.as_slice.result.now _ _ c.join.result c.as_parted.result c.join.ensures
    c.as_parted.ensures

pub returns-in-Err : goal.returns-in-Err
returns-in-Err g c = no_index c.args.verdicts.now _ c.in-Err.fault
