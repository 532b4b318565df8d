use Rattle.pif_history_model.proofs.Needed.{shown_by_needed}
use Rattle.pif_history_model.proofs.laws.notes_show_nothing_more.Goals as goal

pub returns : goal.returns
returns c = shown_by_needed
