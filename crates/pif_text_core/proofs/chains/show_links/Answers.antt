use Rattle.std.proofs.Common.{[], ◌<◌, ◌++◌, ◌∙◌, sym, arith}
use Rattle.std.specs.Prelude.{codes}
use Rattle.pif_model.specs.Calls.{threads_answer}
use Rattle.pif_text_model.specs.Replies.{mutex_name}
use Rattle.pif_text_core.specs.Texts.{holder_text, links_text}
use Rattle.pif_text_core.proofs.LinkLemmas.{links_end, links_first, links_next, links_open, links_out}
use Rattle.pif_text_core.proofs.TellingLemmas.{nothing, same, then}
use Rattle.pif_text_core.proofs.chains.show_links.Goals as goal

pub loop-place-init : goal.loop-place-init
loop-place-init g c = ([], links_first c.args.names.now c.args.core.now c.args.first (threads_answer c.args.core.now), nothing _ _)

pub loop-place-preserved : goal.loop-place-preserved
loop-place-preserved g c =
    let s = c.args.core.now in
    let m = c.in-Some.mutex in
    let h = c.in-Some-holder_of.holder in
    let text = c.loop-place.invariant.0 in
    let within : c.loop-place.place < threads_answer s = omega (arith, c.threads-place-end.ensures.value, c.loop-place-test.true) in (
      text ++ (codes " -> " ++ mutex_name m) ++ (codes " -> " ++ holder_text c.args.names.now h),
      links_next c.args.names.now s c.loop-place.next (threads_answer s) c.loop-place.place (links_text c.args.names.now (threads_answer s) s c.args.first)
          text c.loop-place.invariant.1 m within (sym c.awaited.ensures ∙ c.in-Some.is) h
          (sym c.holder_of.ensures ∙ c.in-Some-holder_of.is),
      then (then c.loop-place.invariant.2 c.mutex.ensures) c.show_holder.ensures,
    )

pub returns-in_default : goal.returns-in_default
returns-in_default g c =
    let s = c.args.core.now in
    same (links_end c.args.names.now s c.loop-place.next (threads_answer s) c.loop-place.place (links_text c.args.names.now (threads_answer s) s c.args.first)
    c.loop-place.invariant.0 c.loop-place.invariant.1
    (omega (arith, c.threads-place-end.ensures.value, c.loop-place-test.true)) (sym c.awaited.ensures ∙ c.in_default.is))
    c.loop-place.invariant.2

pub returns-in_default-holder_of : goal.returns-in_default-holder_of
returns-in_default-holder_of g c =
    let s = c.args.core.now in
    same (links_open c.args.names.now s c.loop-place.next (threads_answer s) c.loop-place.place (links_text c.args.names.now (threads_answer s) s c.args.first)
    c.loop-place.invariant.0 c.loop-place.invariant.1 c.in-Some.mutex
    (omega (arith, c.threads-place-end.ensures.value, c.loop-place-test.true)) (sym c.awaited.ensures ∙ c.in-Some.is)
    (sym c.holder_of.ensures ∙ c.in_default-holder_of.is))
    (then c.loop-place.invariant.2 c.mutex.ensures)

pub returns : goal.returns
returns g c =
    let s = c.args.core.now in
    same (links_out c.args.names.now s c.loop-place.next (threads_answer s) c.loop-place.place (links_text c.args.names.now (threads_answer s) s c.args.first)
    c.loop-place.invariant.0 c.loop-place.invariant.1
    (omega (arith, c.threads-place-end.ensures.value, c.loop-place-test.false)))
    c.loop-place.invariant.2
