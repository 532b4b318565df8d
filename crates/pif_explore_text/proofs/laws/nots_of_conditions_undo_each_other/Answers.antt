use Rattle.pif_explore_text.proofs.ConditionsBack.{nots-condition}
use Rattle.pif_explore_text.proofs.laws.nots_of_conditions_undo_each_other.Goals as goal

pub returns : goal.returns
returns c = nots-condition
