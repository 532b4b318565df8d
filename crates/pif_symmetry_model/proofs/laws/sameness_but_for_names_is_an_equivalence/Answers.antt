use Rattle.pif_symmetry_model.proofs.Classes.{mirrors_itself, mirrors_back, mirrors_on}
use Rattle.pif_symmetry_model.proofs.laws.sameness_but_for_names_is_an_equivalence.Goals as goal

pub returns-clause-itself : goal.returns-clause-itself
returns-clause-itself c = mirrors_itself

pub returns-clause-back : goal.returns-clause-back
returns-clause-back c = mirrors_back

pub returns-clause-on : goal.returns-clause-on
returns-clause-on c = mirrors_on
