use Rattle.std.proofs.Common.{◌≡◌, ◌∙◌, sym, ap, not, arith}
use Rattle.std.specs.List.{list_any}
use Rattle.pif_text.specs.Json.{numbers}
use Rattle.pif_text_core.specs.Waiting.{mutexes_added}
use Rattle.pif_text_core.specs.Changes.{hold_changes, holds_stay}
use Rattle.pif_text_core.proofs.ListLemmas.{any_found, any_next, any_none}
use Rattle.pif_text_core.proofs.changes.holds_the_same.Goals as goal

pub loop-place-init : goal.loop-place-init
loop-place-init c = any_none (hold_changes c.args.thread c.args.before.now c.args.core.now)

pub loop-place-preserved : goal.loop-place-preserved
loop-place-preserved c =
    any_next (hold_changes c.args.thread c.args.before.now c.args.core.now) c.loop-place.place c.loop-place.invariant
    (sym c.holds_otherwise.ensures ∙ c.if-holds_otherwise.false)

pub returns-then-holds_otherwise : goal.returns-then-holds_otherwise
unfolding holds_stay
returns-then-holds_otherwise c =
    sym (ap not (any_found (hold_changes c.args.thread c.args.before.now c.args.core.now) c.loop-place.place (mutexes_added c.args.core.now)
    (omega (arith, c.mutexes_added-place-end.ensures, c.loop-place-test.true)) (sym c.holds_otherwise.ensures ∙ c.if-holds_otherwise.true)))

pub returns : goal.returns
unfolding holds_stay
returns c =
    let end : c.loop-place.place ≡ mutexes_added c.args.core.now
    = omega (arith, c.mutexes_added-place-end.ensures, c.loop-place.auto.place-end, c.loop-place-test.false) in
    sym (ap not c.loop-place.invariant)
    ∙ ap (λ n. not (list_any (hold_changes c.args.thread c.args.before.now c.args.core.now) (numbers n))) end
