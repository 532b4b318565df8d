use Rattle.pif_model_simulation.proofs.runs.Fated.{expiry_mutexes}
use Rattle.pif_model_simulation.proofs.laws.expiry_leaves_mutexes.Goals as goal

pub returns : goal.returns
returns c = expiry_mutexes
