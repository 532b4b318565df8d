use Rattle.pif_history_model.proofs.Gated.{shown_extra}
use Rattle.pif_history_model.proofs.allowed_laws.only_extra_lines_are_gated.Goals as goal

pub returns : goal.returns
returns c = shown_extra
