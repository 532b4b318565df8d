use Rattle.pif_components_model.proofs.Legal.{legal_on_side}
use Rattle.pif_components_model.proofs.laws.components_of_legal_histories_are_legal.Goals as goal

pub returns : goal.returns
returns c = legal_on_side
