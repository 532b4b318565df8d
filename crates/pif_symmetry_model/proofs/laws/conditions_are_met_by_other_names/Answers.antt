use Rattle.pif_symmetry_model.proofs.Conditions.{meets_there}
use Rattle.pif_symmetry_model.proofs.laws.conditions_are_met_by_other_names.Goals as goal

pub returns : goal.returns
returns c = λ f g p s n final x y a e. meets_there f g p y s n a final x e
