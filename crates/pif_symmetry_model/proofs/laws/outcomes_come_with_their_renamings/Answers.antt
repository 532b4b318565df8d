use Rattle.pif_symmetry_model.proofs.Outcomes.{too_outcome}
use Rattle.pif_symmetry_model.proofs.laws.outcomes_come_with_their_renamings.Goals as goal

pub returns : goal.returns
returns c = λ f g p s n o y none a x. too_outcome f g p y none s n a o x
