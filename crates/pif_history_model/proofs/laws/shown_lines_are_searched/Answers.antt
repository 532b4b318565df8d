use Rattle.pif_history_model.proofs.Completeness.{reached-from_shown}
use Rattle.pif_history_model.proofs.laws.shown_lines_are_searched.Goals as goal

pub returns : goal.returns
returns c = reached-from_shown
