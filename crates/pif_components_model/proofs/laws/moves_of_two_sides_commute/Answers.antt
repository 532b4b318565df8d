use Rattle.pif_components_model.proofs.Others.{moves_commute}
use Rattle.pif_components_model.proofs.laws.moves_of_two_sides_commute.Goals as goal

pub returns : goal.returns
returns c = moves_commute
