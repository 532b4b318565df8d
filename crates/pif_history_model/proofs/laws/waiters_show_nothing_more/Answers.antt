use Rattle.pif_history_model.proofs.Queues.{shown_without_waiters}
use Rattle.pif_history_model.proofs.laws.waiters_show_nothing_more.Goals as goal

pub returns : goal.returns
returns c = shown_without_waiters
