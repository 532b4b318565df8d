use Rattle.pif_symmetry_model.proofs.Representatives.{reached_by_class}
use Rattle.pif_symmetry_model.proofs.laws.one_state_of_each_class_is_enough.Goals as goal

pub returns : goal.returns
returns c = λ p taken s k steps none one run. reached_by_class p none taken one s (taken s) (one s) steps k run
