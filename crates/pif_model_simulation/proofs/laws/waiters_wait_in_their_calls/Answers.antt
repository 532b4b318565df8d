use Rattle.pif_model_simulation.proofs.runs.Waiters.{waits_in_its_call}
use Rattle.pif_model_simulation.proofs.laws.waiters_wait_in_their_calls.Goals as goal

pub returns : goal.returns
returns c = waits_in_its_call
