use Rattle.std.specs.Prelude.{option_copied}
use Rattle.pif_text_core.specs.Changes.{thread_stays, was_there}
use Rattle.pif_text_core.specs.Texts.{thread_line}
use Rattle.pif_text_core.proofs.ChangeLemmas.{told_new, told_old}
use Rattle.pif_text_core.proofs.TellingLemmas.{nothing, same}
use Rattle.pif_text_core.proofs.threads.show_thread_if_new.Goals as goal

pub returns-then-not-was_thread_there : goal.returns-then-not-was_thread_there
returns-then-not-was_thread_there g c =
    same (told_new (thread_line c.args.names.now c.args.core.now) (was_there thread_stays (option_copied c.args.before) c.args.core.now)
    c.was_thread_there.result c.in-Some.thread c.args.number c.was_thread_there.ensures c.in-Some.ensures.value c.if-not-was_thread_there.true)
    c.show_thread.ensures

pub returns-else-not-was_thread_there : goal.returns-else-not-was_thread_there
returns-else-not-was_thread_there g c =
    same (told_old (thread_line c.args.names.now c.args.core.now) (was_there thread_stays (option_copied c.args.before) c.args.core.now)
    c.was_thread_there.result c.in-Some.thread c.args.number c.was_thread_there.ensures c.in-Some.ensures.value c.if-not-was_thread_there.false)
    (nothing _ _)
