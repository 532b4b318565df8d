use Rattle.std.proofs.Common.{refl}
use Rattle.pif_cli.proofs.PartsLemmas.{split_done, split_refused}
use Rattle.pif_cli.proofs.parts.split_input.Goals as goal

pub returns-in-Ok : goal.returns-in-Ok
returns-in-Ok g c =
    split_done _ _ _ _ c.in-Ok.parts c.save_parts.result c.in-Ok.ensures c.save_parts.ensures

pub returns-in-Err : goal.returns-in-Err
returns-in-Err g c = split_refused _ _ _ c.in-Err.fault _ (rw c.parted_fault.ensures refl) c.in-Err.ensures
