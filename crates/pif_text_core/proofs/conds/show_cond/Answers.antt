use Rattle.pif_text_core.specs.Texts.{cond_line}
use Rattle.pif_text_core.proofs.TellingLemmas.{then}
use Rattle.pif_text_core.proofs.conds.show_cond.Goals as goal

pub returns : goal.returns
unfolding cond_line
returns g c =
    let uses = rw (c.unwrap_or.ensures, c.cond_word.ensures.value) at c.number.ensures in
    then (then (then (then c.cond.ensures c.show_bound.ensures) uses) c.show_queue.ensures) c.words.ensures
