use Rattle.pif_uses_model.proofs.Counted.{follows_without_uses}
use Rattle.pif_uses_model.proofs.ToCome.{lowered_by_move}
use Rattle.pif_uses_model.proofs.laws.moves_tell_no_uses.Goals as goal

pub returns-clause-same : goal.returns-clause-same
returns-clause-same c = follows_without_uses

pub returns-clause-to_come : goal.returns-clause-to_come
returns-clause-to_come c = λ t w v x. (lowered_by_move t w v x).less
