use Rattle.std.specs.Prelude.{option_copied}
use Rattle.pif_text_core.specs.Changes.{chain_stays, was_there}
use Rattle.pif_text_core.specs.Texts.{chain_line_at}
use Rattle.pif_text_core.proofs.ChangeLemmas.{chain_begun, told_new, told_none, told_old}
use Rattle.pif_text_core.proofs.LinkLemmas.{no_chain}
use Rattle.pif_text_core.proofs.TellingLemmas.{nothing, same}
use Rattle.pif_text_core.proofs.chains.show_chain_if_new.Goals as goal

pub returns-then-not-begins_chain : goal.returns-then-not-begins_chain
returns-then-not-begins_chain g c =
    same (told_none (was_there chain_stays (option_copied c.args.before) c.args.core.now c.args.number)
    (chain_line_at c.args.names.now c.args.core.now c.args.number)
    (no_chain c.args.names.now c.args.core.now c.in-Some.thread c.args.number c.begins_chain.result c.begins_chain.ensures
    c.if-not-begins_chain.true c.in-Some.ensures.value)) (nothing _ _)

pub returns-then-not-was_chain_there : goal.returns-then-not-was_chain_there
returns-then-not-was_chain_there g c =
    same (told_new (chain_line_at c.args.names.now c.args.core.now) (was_there chain_stays (option_copied c.args.before) c.args.core.now)
    c.was_chain_there.result c.in-Some.thread c.args.number c.was_chain_there.ensures c.in-Some.ensures.value c.if-not-was_chain_there.true)
    (same (chain_begun c.args.names.now c.args.core.now c.in-Some.thread c.begins_chain.result c.begins_chain.ensures
    c.if-not-begins_chain.false) c.show_chain.ensures)

pub returns-else-not-was_chain_there : goal.returns-else-not-was_chain_there
returns-else-not-was_chain_there g c =
    same (told_old (chain_line_at c.args.names.now c.args.core.now) (was_there chain_stays (option_copied c.args.before) c.args.core.now)
    c.was_chain_there.result c.in-Some.thread c.args.number c.was_chain_there.ensures c.in-Some.ensures.value c.if-not-was_chain_there.false)
    (nothing _ _)
