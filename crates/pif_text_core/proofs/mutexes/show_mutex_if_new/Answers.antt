use Rattle.std.specs.Prelude.{option_copied}
use Rattle.pif_text_core.specs.Changes.{mutex_stays, was_there}
use Rattle.pif_text_core.specs.Texts.{mutex_line}
use Rattle.pif_text_core.proofs.ChangeLemmas.{told_new, told_old}
use Rattle.pif_text_core.proofs.TellingLemmas.{nothing, same}
use Rattle.pif_text_core.proofs.mutexes.show_mutex_if_new.Goals as goal

pub returns-then-not-was_mutex_there : goal.returns-then-not-was_mutex_there
returns-then-not-was_mutex_there g c =
    same (told_new (mutex_line c.args.names.now c.args.core.now) (was_there mutex_stays (option_copied c.args.before) c.args.core.now)
    c.was_mutex_there.result c.in-Some.mutex c.args.number c.was_mutex_there.ensures c.in-Some.ensures.value c.if-not-was_mutex_there.true)
    c.show_mutex.ensures

pub returns-else-not-was_mutex_there : goal.returns-else-not-was_mutex_there
returns-else-not-was_mutex_there g c =
    same (told_old (mutex_line c.args.names.now c.args.core.now) (was_there mutex_stays (option_copied c.args.before) c.args.core.now)
    c.was_mutex_there.result c.in-Some.mutex c.args.number c.was_mutex_there.ensures c.in-Some.ensures.value c.if-not-was_mutex_there.false)
    (nothing _ _)
