use Rattle.pif_components_model.proofs.FramedMoves.{passes_move}
use Rattle.pif_components_model.proofs.laws.moves_stay_on_their_side.Goals as goal

pub returns-clause-split : goal.returns-clause-split
returns-clause-split c = λ x t w v s move. (passes_move x t w s move).split

pub returns-clause-frame : goal.returns-clause-frame
returns-clause-frame c = λ x t w v s off move. (passes_move x t w s move).frame off
