use Rattle.pif_text_core.proofs.TellingLemmas.{then}
use Rattle.pif_text_core.proofs.threads.show_parking.Goals as goal

pub returns : goal.returns
returns g c = then c.cond.ensures c.show_bound.ensures
