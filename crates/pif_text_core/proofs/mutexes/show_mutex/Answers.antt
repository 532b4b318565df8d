use Rattle.pif_text_core.specs.Texts.{mutex_line}
use Rattle.pif_text_core.proofs.TellingLemmas.{then}
use Rattle.pif_text_core.proofs.mutexes.show_mutex.Goals as goal

pub returns : goal.returns
unfolding mutex_line
returns g c =
    let died = rw c.word_in-word.ensures at c.owner_died-died.ensures in
    let kind = rw (c.health_at-health.ensures, died) at c.show_kind.ensures in
    let front = rw (c.front_of_word.ensures, c.health_at-health.ensures, died) at c.words.ensures in
    let word = rw c.word_in-word.ensures at c.show_word.ensures in
    then (then (then (then (then (then c.mutex.ensures kind) front) word) c.show_ownership.ensures)
    c.show_queue.ensures) c.words-2.ensures
