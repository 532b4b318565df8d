use Rattle.pif_model_simulation.proofs.runs.Fated.{time_never_falls}
use Rattle.pif_model_simulation.proofs.laws.time_never_falls.Goals as goal

pub returns : goal.returns
returns c = time_never_falls
