use Rattle.std.proofs.Common.{map}
use Rattle.pif_symmetry_model.specs.Symmetry.{renamed_label}
use Rattle.pif_symmetry_model.proofs.Back.{too_run, final_there}
use Rattle.pif_symmetry_model.proofs.laws.renamed_states_reach_the_same.Goals as goal

pub returns-clause-reached : goal.returns-clause-reached
returns-clause-reached c = λ f g p s n k y none a x. let m = too_run f g p y none s n a x.steps k x.run in (m.0, record { steps = map (renamed_label f) x.steps; run = m.1 }, m.2)

pub returns-clause-stay_final : goal.returns-clause-stay_final
returns-clause-stay_final c = λ f g p s n y none a x. final_there f g p y s n a none x
