use Rattle.std.proofs.Common.{◌∙◌, sym, arith}
use Rattle.pif_model.specs.Calls.{threads_answer}
use Rattle.pif_text_core.specs.Changes.{links_stay}
use Rattle.pif_text_core.proofs.LinkLemmas.{stays_first, stays_next, stays_no_more, stays_out, stays_to_end}
use Rattle.pif_text_core.proofs.chains.has_same_links.Goals as goal

pub loop-place-init : goal.loop-place-init
loop-place-init c = stays_first c.args.before.now c.args.core.now c.args.first (threads_answer c.args.core.now)

pub loop-place-preserved : goal.loop-place-preserved
loop-place-preserved c =
    let s = c.args.core.now in
    let n = threads_answer s in
    stays_next c.args.before.now s c.loop-place.next n c.loop-place.place (links_stay n c.args.before.now s c.args.first)
    c.loop-place.invariant (omega (arith, c.threads-place-end.ensures.value, c.loop-place-test.true))
    c.has_same_link.result c.has_same_link.ensures c.if-not-has_same_link.false c.in-Some.holder
    (sym c.awaited_holder.ensures ∙ c.in-Some.is)

pub returns-then-not-has_same_link : goal.returns-then-not-has_same_link
returns-then-not-has_same_link c =
    let s = c.args.core.now in
    let n = threads_answer s in
    stays_no_more c.args.before.now s c.loop-place.next n c.loop-place.place (links_stay n c.args.before.now s c.args.first)
    c.loop-place.invariant (omega (arith, c.threads-place-end.ensures.value, c.loop-place-test.true))
    c.has_same_link.result c.has_same_link.ensures c.if-not-has_same_link.true

pub returns-in-None : goal.returns-in-None
returns-in-None c =
    let s = c.args.core.now in
    let n = threads_answer s in
    stays_to_end c.args.before.now s c.loop-place.next n c.loop-place.place (links_stay n c.args.before.now s c.args.first)
    c.loop-place.invariant (omega (arith, c.threads-place-end.ensures.value, c.loop-place-test.true))
    c.has_same_link.result c.has_same_link.ensures c.if-not-has_same_link.false
    (sym c.awaited_holder.ensures ∙ c.in-None.is)

pub returns : goal.returns
returns c =
    let s = c.args.core.now in
    let n = threads_answer s in
    stays_out c.args.before.now s c.loop-place.next n c.loop-place.place (links_stay n c.args.before.now s c.args.first)
    c.loop-place.invariant (omega (arith, c.threads-place-end.ensures.value, c.loop-place-test.false))
