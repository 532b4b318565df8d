use Rattle.std.proofs.Common.{◌∙◌, ap, not, refl, sym, arith}
use Rattle.std.specs.Prelude.{is_some}
use Rattle.pif_model.specs.Calls.{threads_answer}
use Rattle.pif_text_core.specs.Waiting.{all_in}
use Rattle.pif_text_core.proofs.OrderLemmas.{differs_at, same_all, same_ended, same_next}
use Rattle.pif_text_core.proofs.queues.is_same_queue.Goals as goal

pub loop-place-init : goal.loop-place-init
loop-place-init c = refl

pub loop-place-preserved : goal.loop-place-preserved
loop-place-preserved c =
    same_next (all_in c.args.order.now c.args.before.now) (all_in c.args.order.now c.args.core.now) c.loop-place.place
    c.loop-place.invariant (sym c.is_same_at.ensures ∙ c.if-not-is_same_at.false)
    (ap is_some (sym c.nth.ensures) ∙ c.is_none.ensures ∙ ap not c.if-is_none.false)

pub returns-then-not-is_same_at : goal.returns-then-not-is_same_at
returns-then-not-is_same_at c =
    differs_at (all_in c.args.order.now c.args.before.now) (all_in c.args.order.now c.args.core.now)
    (threads_answer c.args.core.now) c.loop-place.place
    (omega (arith, c.threads-place-end.ensures.value, c.loop-place-test.true))
    (sym c.is_same_at.ensures ∙ c.if-not-is_same_at.true)

pub returns-then-is_none : goal.returns-then-is_none
returns-then-is_none c =
    same_ended (all_in c.args.order.now c.args.before.now) (all_in c.args.order.now c.args.core.now) c.loop-place.place
    c.loop-place.invariant (threads_answer c.args.core.now) (sym c.is_same_at.ensures ∙ c.if-not-is_same_at.false)
    (ap is_some (sym c.nth.ensures) ∙ c.is_none.ensures ∙ ap not c.if-is_none.true)

pub returns : goal.returns
returns c =
    same_all (all_in c.args.order.now c.args.before.now) (all_in c.args.order.now c.args.core.now)
    (threads_answer c.args.core.now) c.loop-place.place
    (omega (arith, c.threads-place-end.ensures.value, c.loop-place.auto.place-end, c.loop-place-test.false))
    c.loop-place.invariant
