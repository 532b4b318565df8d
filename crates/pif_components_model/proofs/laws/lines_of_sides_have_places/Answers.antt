use Rattle.pif_components_model.proofs.Placing.{last_place}
use Rattle.pif_components_model.proofs.laws.lines_of_sides_have_places.Goals as goal

pub returns-clause-last : goal.returns-clause-last
returns-clause-last c = last_place
