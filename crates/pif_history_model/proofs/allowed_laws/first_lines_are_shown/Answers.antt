use Rattle.pif_history_model.proofs.Fronts.{front-shown_with, front-shown_by}
use Rattle.pif_history_model.proofs.allowed_laws.first_lines_are_shown.Goals as goal

pub returns-clause-searched : goal.returns-clause-searched
returns-clause-searched c = front-shown_with

pub returns-clause-judged : goal.returns-clause-judged
returns-clause-judged c = front-shown_by
