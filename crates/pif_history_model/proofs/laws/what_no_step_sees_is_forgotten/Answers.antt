use Rattle.pif_history_model.proofs.Taking.{enough_needed}
use Rattle.pif_history_model.proofs.laws.what_no_step_sees_is_forgotten.Goals as goal

pub returns : goal.returns
returns c = enough_needed
