use Rattle.pif_history_model.proofs.Returning.{woken-from_shown}
use Rattle.pif_history_model.proofs.wakeups_laws.waits_return_once_woken.Goals as goal

pub returns : goal.returns
returns c = λ l before t k q. woken-from_shown l before t k q
