use Rattle.pif_history_model.proofs.Soundness.{shown-from_search}
use Rattle.pif_history_model.proofs.laws.searched_lines_are_shown.Goals as goal

pub returns : goal.returns
returns c = shown-from_search
