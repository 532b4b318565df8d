use Rattle.pif_components_model.proofs.Placing.{joined_by}
use Rattle.pif_components_model.proofs.laws.lines_join_names_one_by_one.Goals as goal

pub returns : goal.returns
returns c = joined_by
