use Rattle.pif_model_simulation.proofs.Bound.{open_ends_within_24}
use Rattle.pif_model_simulation.proofs.laws.call_closes_or_waits_within_24_steps.Goals as goal

pub returns : goal.returns
returns c = open_ends_within_24
