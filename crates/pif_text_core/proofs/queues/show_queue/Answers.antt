use Rattle.std.proofs.Common.{◌++◌, ◌∙◌, ap, sym}
use Rattle.std.specs.Prelude.{◌==◌}
use Rattle.std.proofs.lemmas.Option.{get_or_from_slice_get, slice_get_within}
use Rattle.pif_text_core.specs.Waiting.{all_in}
use Rattle.pif_text_core.specs.Texts.{front_of, person_text}
use Rattle.pif_text_core.proofs.ListLemmas.{listed_next}
use Rattle.pif_text_core.proofs.TellingLemmas.{nothing, same, then}
use Rattle.pif_text_core.proofs.queues.show_queue.Goals as goal

pub loop-place-init : goal.loop-place-init
loop-place-init g c = nothing _ _

pub loop-place-preserved : goal.loop-place-preserved
loop-place-preserved g c =
    let us = all_in c.args.order.now c.args.core.now in
    let at = sym c.nth.ensures ∙ c.in-Some.is in
    let same_one = get_or_from_slice_get us c.loop-place.place c.in-Some.thread 0 at in
    let within = slice_get_within us c.loop-place.place c.in-Some.thread at in
    let named = same (ap (λ t. front_of c.args.head.now (c.loop-place.place == 0) ++ person_text c.args.names.now t) (sym same_one)) c.show_place.ensures in
    same (listed_next (person_text c.args.names.now) c.args.head.now us c.loop-place.place within) (then c.loop-place.invariant named)
