use Rattle.std.proofs.Common.{◌∙◌}
use Rattle.pif_script_model.proofs.RunLemmas.{Stops-unwritten}
use Rattle.pif_script.proofs.script.stop.Goals as goal

pub returns-in-Err : goal.returns-in-Err
returns-in-Err g c =
    Stops-unwritten _ _ c.as_slice.result.now c.args.output.now.items (g.L.Listener.hearing.said_of c.args.end) c.args.end c.in-Err.failed (c.as_slice.ensures.value ∙ c.report.ensures) c.in-Err.ensures
