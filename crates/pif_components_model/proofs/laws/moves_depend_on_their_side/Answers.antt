use Rattle.pif_components_model.proofs.Echoes.{echo_move}
use Rattle.pif_components_model.proofs.laws.moves_depend_on_their_side.Goals as goal

pub returns : goal.returns
returns c = λ x t w v u s r a on move. (let e = echo_move x w v s r a t on move in (e.after, e.step, e.agrees))
