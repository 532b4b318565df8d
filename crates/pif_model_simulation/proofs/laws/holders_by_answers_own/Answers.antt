use Rattle.pif_model_simulation.proofs.runs.Holders.{holder_owns}
use Rattle.pif_model_simulation.proofs.laws.holders_by_answers_own.Goals as goal

pub returns : goal.returns
returns c = holder_owns
