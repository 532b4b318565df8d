use Rattle.pif_model_inversion.proofs.Chains.{runs_no_lower}
use Rattle.pif_model_inversion.proofs.laws.who_runs_is_no_lower.Goals as goal

pub returns : goal.returns
returns c = runs_no_lower
