use Rattle.pif_text_core.proofs.TellingLemmas.{then}
use Rattle.pif_text_core.proofs.mutexes.show_ownership.Goals as goal

pub returns : goal.returns
returns g c = then c.show_owner.ensures c.show_count.ensures
