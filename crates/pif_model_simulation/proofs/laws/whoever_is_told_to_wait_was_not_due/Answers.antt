use Rattle.pif_model_simulation.proofs.runs.Fated.{only_undue_wait}
use Rattle.pif_model_simulation.proofs.laws.whoever_is_told_to_wait_was_not_due.Goals as goal

pub returns : goal.returns
returns c = only_undue_wait
