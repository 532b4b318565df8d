use Rattle.pif_text_core.proofs.TellingLemmas.{then}
use Rattle.pif_text_core.proofs.mutexes.show_state.Goals as goal

pub returns : goal.returns
returns g c =
    let state = rw (c.health_word.ensures.items, c.state_of.ensures.state) at c.words-2.ensures in
    then (then c.words.ensures state) c.show_lag.ensures
