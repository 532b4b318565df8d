use Rattle.pif_model_simulation.proofs.runs.Fated.{timed_out_expired}
use Rattle.pif_model_simulation.proofs.laws.timed_out_call_has_expired.Goals as goal

pub returns : goal.returns
returns c = timed_out_expired
