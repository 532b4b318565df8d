use Rattle.pif_cli_messages.specs.declared.statuses.JobFault.TheVariants.{Cli}
use Rattle.pif_cli.proofs.PartsLemmas.{no_verdicts, read_and_joined}
use Rattle.pif_cli.proofs.parts.join_input.Goals as goal

pub returns-in-Ok : goal.returns-in-Ok
returns-in-Ok g c =
    read_and_joined _ _ _ _ c.as_slice.result.now c.join_read.result
    (rw c.as_slice.ensures.value c.in-Ok.ensures.read) c.join_read.ensures

pub returns-in-Err : goal.returns-in-Err
returns-in-Err g c = no_verdicts _ _ _ (Cli c.in-Err.fault)
