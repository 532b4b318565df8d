use Rattle.pif_parts_model.proofs.Cutting.{cut_there, join_there}
use Rattle.pif_parts_model.proofs.laws.quiet_lines_cut_a_history.Goals as goal

pub returns : goal.returns
returns c = λ l before later q. (cut_there l before q later, λ x. join_there l before q later x.0 x.1)
