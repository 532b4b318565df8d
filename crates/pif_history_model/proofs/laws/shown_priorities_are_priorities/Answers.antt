use Rattle.pif_history_model.proofs.Fitting.{priority-from_shown}
use Rattle.pif_history_model.proofs.laws.shown_priorities_are_priorities.Goals as goal

pub returns : goal.returns
returns c = priority-from_shown
