use Rattle.std.proofs.Common.{◌-◌}
use Rattle.pif_components_model.proofs.Placing.{legal_first, legal_before}
use Rattle.pif_components_model.proofs.laws.verdicts_on_sides_tell_of_earlier_lines.Goals as goal

pub returns-clause-legal : goal.returns-clause-legal
returns-clause-legal c = λ l x lines place legal. legal_first l x lines (place - 1) legal

pub returns-clause-illegal : goal.returns-clause-illegal
returns-clause-illegal c = legal_before
