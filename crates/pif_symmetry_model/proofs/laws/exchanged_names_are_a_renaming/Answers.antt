use Rattle.pif_symmetry_model.proofs.Swaps.{swapped_mirrors}
use Rattle.pif_symmetry_model.proofs.laws.exchanged_names_are_a_renaming.Goals as goal

pub returns : goal.returns
returns c = swapped_mirrors
