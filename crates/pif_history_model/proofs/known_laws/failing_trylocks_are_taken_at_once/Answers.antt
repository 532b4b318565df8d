use Rattle.pif_history_model.proofs.Settling.{enough_at_once}
use Rattle.pif_history_model.proofs.known_laws.failing_trylocks_are_taken_at_once.Goals as goal

pub returns : goal.returns
returns c = λ l all lines. enough_at_once l all lines
