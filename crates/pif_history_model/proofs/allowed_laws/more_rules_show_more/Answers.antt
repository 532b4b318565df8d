use Rattle.pif_history_model.proofs.Widening.{shown_more}
use Rattle.pif_history_model.proofs.allowed_laws.more_rules_show_more.Goals as goal

pub returns : goal.returns
returns c = shown_more
