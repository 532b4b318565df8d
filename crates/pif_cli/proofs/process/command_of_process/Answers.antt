use Rattle.std.proofs.Common.{Ok, Err, map, rules}
use Rattle.std.specs.Prelude.{string_bytes}
use Rattle.std.proofs.KnownBytes.{Keeps-refl}
use Rattle.pif_cli.proofs.process.command_of_process.Goals as goal

pub returns-in-Ok : goal.returns-in-Ok
returns-in-Ok g c =
    let ends = c.command_over_files.ensures.ends in
    (Ok (map string_bytes c.as_slice.result.now), rw c.new.ensures (search rules))

pub returns-in-Err : goal.returns-in-Err
returns-in-Err g c = (Err c.kind.result, (Keeps-refl _, Keeps-refl _, rw c.new-in-Err.ensures c.refuse.ensures))
