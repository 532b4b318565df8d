use Rattle.pif_history_model.proofs.Widening.{shown_widely, shown_plainly}
use Rattle.pif_history_model.proofs.allowed_laws.without_rules_lines_are_plain.Goals as goal

pub returns-clause-shown : goal.returns-clause-shown
returns-clause-shown c = shown_widely

pub returns-clause-no_others : goal.returns-clause-no_others
returns-clause-no_others c = shown_plainly
