use Rattle.pif_history_model.proofs.Fitting.{answer-from_shown}
use Rattle.pif_history_model.proofs.laws.shown_answers_are_answers.Goals as goal

pub returns : goal.returns
returns c = answer-from_shown
