use Rattle.pif_text_core.proofs.TellingLemmas.{then}
use Rattle.pif_text_core.proofs.threads.show_wait.Goals as goal

pub returns : goal.returns
returns g c = then c.mutex.ensures c.show_owner.ensures
