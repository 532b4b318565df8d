use Rattle.pif_posix_steps.proofs.Singles.{step-from_move}
use Rattle.pif_posix_steps.proofs.laws.single_moves_are_steps.Goals as goal

pub returns : goal.returns
returns c = step-from_move
