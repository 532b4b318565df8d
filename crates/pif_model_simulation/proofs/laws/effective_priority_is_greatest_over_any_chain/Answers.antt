use Rattle.pif_model_simulation.proofs.runs.Priority.{effective_is_greatest}
use Rattle.pif_model_simulation.proofs.laws.effective_priority_is_greatest_over_any_chain.Goals as goal

pub returns : goal.returns
returns c = effective_is_greatest
