use Rattle.pif_script_model.proofs.DifferenceLemmas.{RunsTo-from}
use Rattle.pif_script_core.proofs.runs.run_noting.Goals as goal

pub returns : goal.returns
returns g c = RunsTo-from _ _ _ _ _ c.read_script.ensures
