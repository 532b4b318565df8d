use Rattle.pif_history_model.proofs.Gated.{shown_gated}
use Rattle.pif_history_model.proofs.allowed_laws.only_what_lends_nothing_is_gated.Goals as goal

pub returns : goal.returns
returns c = shown_gated
