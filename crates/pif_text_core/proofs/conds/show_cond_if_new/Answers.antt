use Rattle.std.specs.Prelude.{option_copied}
use Rattle.pif_text_core.specs.Changes.{cond_stays, was_there}
use Rattle.pif_text_core.specs.Texts.{cond_line}
use Rattle.pif_text_core.proofs.ChangeLemmas.{told_new, told_old}
use Rattle.pif_text_core.proofs.TellingLemmas.{nothing, same}
use Rattle.pif_text_core.proofs.conds.show_cond_if_new.Goals as goal

pub returns-then-not-was_cond_there : goal.returns-then-not-was_cond_there
returns-then-not-was_cond_there g c =
    same (told_new (cond_line c.args.names.now c.args.core.now) (was_there cond_stays (option_copied c.args.before) c.args.core.now)
    c.was_cond_there.result c.in-Some.cond c.args.number c.was_cond_there.ensures c.in-Some.ensures.value c.if-not-was_cond_there.true)
    c.show_cond.ensures

pub returns-else-not-was_cond_there : goal.returns-else-not-was_cond_there
returns-else-not-was_cond_there g c =
    same (told_old (cond_line c.args.names.now c.args.core.now) (was_there cond_stays (option_copied c.args.before) c.args.core.now)
    c.was_cond_there.result c.in-Some.cond c.args.number c.was_cond_there.ensures c.in-Some.ensures.value c.if-not-was_cond_there.false)
    (nothing _ _)
