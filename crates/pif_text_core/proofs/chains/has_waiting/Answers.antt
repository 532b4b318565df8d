use Rattle.std.proofs.Common.{◌≡◌, ◌∙◌, sym, ap, arith}
use Rattle.std.specs.List.{list_any}
use Rattle.pif_model.specs.Calls.{threads_answer}
use Rattle.pif_text.specs.Json.{numbers}
use Rattle.pif_text_core.specs.Changes.{has_waiting, is_waiting}
use Rattle.pif_text_core.proofs.ListLemmas.{any_found, any_next, any_none}
use Rattle.pif_text_core.proofs.chains.has_waiting.Goals as goal

pub loop-place-init : goal.loop-place-init
loop-place-init c = any_none (is_waiting c.args.core.now)

pub loop-place-preserved : goal.loop-place-preserved
loop-place-preserved c =
    any_next (is_waiting c.args.core.now) c.loop-place.place c.loop-place.invariant
    (sym c.is_waiting.ensures ∙ c.if-is_waiting.false)

pub returns-then-is_waiting : goal.returns-then-is_waiting
unfolding has_waiting
returns-then-is_waiting c =
    sym (any_found (is_waiting c.args.core.now) c.loop-place.place (threads_answer c.args.core.now)
    (omega (arith, c.threads-place-end.ensures.value, c.loop-place-test.true)) (sym c.is_waiting.ensures ∙ c.if-is_waiting.true))

pub returns : goal.returns
unfolding has_waiting
returns c =
    let end : c.loop-place.place ≡ threads_answer c.args.core.now
    = omega (arith, c.threads-place-end.ensures.value, c.loop-place.auto.place-end, c.loop-place-test.false) in
    sym c.loop-place.invariant ∙ ap (λ n. list_any (is_waiting c.args.core.now) (numbers n)) end
