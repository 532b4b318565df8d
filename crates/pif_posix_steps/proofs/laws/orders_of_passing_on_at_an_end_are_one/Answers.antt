use Rattle.pif_posix_steps.proofs.Ending.{ends_in_one_state}
use Rattle.pif_posix_steps.proofs.laws.orders_of_passing_on_at_an_end_are_one.Goals as goal

pub returns : goal.returns
returns c = ends_in_one_state
