use Rattle.pif_components_model.proofs.Connected.{together}
use Rattle.pif_components_model.proofs.laws.components_stay_together.Goals as goal

pub returns-clause-sides : goal.returns-clause-sides
returns-clause-sides c side lines closed a b = together side lines closed a b

pub returns-clause-numbers : goal.returns-clause-numbers
returns-clause-numbers c lines n number numbered a b = together number lines numbered.joined a b
