use Rattle.pif_history_model.proofs.RefusedLines.{refused_not_shown}
use Rattle.pif_history_model.proofs.laws.refused_lines_are_not_shown.Goals as goal

pub returns : goal.returns
returns c = refused_not_shown
