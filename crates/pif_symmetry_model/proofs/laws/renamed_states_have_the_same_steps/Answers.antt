use Rattle.pif_symmetry_model.proofs.Schedules.{too_steps}
use Rattle.pif_symmetry_model.proofs.laws.renamed_states_have_the_same_steps.Goals as goal

pub returns : goal.returns
returns c = λ f g p s n k l y none a x. let m = too_steps f g p y s n a none l k x in (m.after, m.step, m.mirrors)
