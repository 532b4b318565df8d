use Rattle.pif_posix_steps.proofs.Splits.{moves-from_hidden}
use Rattle.pif_posix_steps.proofs.laws.hidden_steps_are_moves.Goals as goal

pub returns : goal.returns
returns c = moves-from_hidden
