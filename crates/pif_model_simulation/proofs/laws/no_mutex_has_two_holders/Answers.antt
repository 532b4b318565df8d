use Rattle.pif_model_simulation.proofs.runs.Holders.{one_holder}
use Rattle.pif_model_simulation.proofs.laws.no_mutex_has_two_holders.Goals as goal

pub returns : goal.returns
returns c = one_holder
