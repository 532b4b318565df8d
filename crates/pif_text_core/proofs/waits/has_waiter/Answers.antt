use Rattle.std.proofs.Common.{◌≡◌, ◌∙◌, sym, ap, arith}
use Rattle.std.specs.List.{list_any}
use Rattle.pif_text.specs.Json.{numbers}
use Rattle.pif_text_core.specs.Waiting.{blocks, has_waiter, mutexes_added}
use Rattle.pif_text_core.proofs.AnyLemmas.{any_found, any_next, any_none}
use Rattle.pif_text_core.proofs.waits.has_waiter.Goals as goal

pub loop-place-init : goal.loop-place-init
loop-place-init c = any_none (blocks c.args.thread c.args.core.now)

pub loop-place-preserved : goal.loop-place-preserved
loop-place-preserved c =
    any_next (blocks c.args.thread c.args.core.now) c.loop-place.place c.loop-place.invariant
    (sym c.blocks-in-loop-place.ensures ∙ c.if-blocks.false)

pub returns-then-blocks : goal.returns-then-blocks
unfolding has_waiter
returns-then-blocks c =
    sym (any_found (blocks c.args.thread c.args.core.now) c.loop-place.place (mutexes_added c.args.core.now)
    (omega (arith, c.mutexes_added-place-end.ensures, c.loop-place-test.true)) (sym c.blocks-in-loop-place.ensures ∙ c.if-blocks.true))

pub returns : goal.returns
unfolding has_waiter
returns c =
    let end : c.loop-place.place ≡ mutexes_added c.args.core.now
    = omega (arith, c.mutexes_added-place-end.ensures, c.loop-place.auto.place-end, c.loop-place-test.false) in
    sym c.loop-place.invariant ∙ ap (λ n. list_any (blocks c.args.thread c.args.core.now) (numbers n)) end
