use Rattle.pif_history_model.proofs.RefusedByRules.{refused_by_rules}
use Rattle.pif_history_model.proofs.laws.refused_lines_are_not_shown_by_rules.Goals as goal

pub returns : goal.returns
returns c = refused_by_rules
