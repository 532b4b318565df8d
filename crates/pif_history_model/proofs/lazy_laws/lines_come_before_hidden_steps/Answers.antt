use Rattle.pif_history_model.proofs.Lazily.{enough_lazily}
use Rattle.pif_history_model.proofs.lazy_laws.lines_come_before_hidden_steps.Goals as goal

pub returns : goal.returns
returns c = λ l all lines. enough_lazily l all lines
