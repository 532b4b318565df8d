use Rattle.pif_text_core.specs.Texts.{thread_line}
use Rattle.pif_text_core.proofs.TellingLemmas.{then}
use Rattle.pif_text_core.proofs.threads.show_thread.Goals as goal

pub returns : goal.returns
unfolding thread_line
returns g c =
    then (then (then (then (then (then c.thread.ensures c.words.ensures)
    c.show_priority.ensures) c.show_doing.ensures) c.show_open_call.ensures) c.show_held.ensures) c.words-2.ensures
