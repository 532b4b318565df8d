use Rattle.std.proofs.Common.{◌∙◌, arith}
use Rattle.std.proofs.lemmas.Option.{slice_get-get_or}
use Rattle.pif_quick.proofs.Idle.{dealt_idle}
use Rattle.pif_quick.proofs.Opening.{opened_values, dealt_own, dealt_sound, dealt_fresh}
use Rattle.pif_quick.proofs.quick.Quick.open.Goals as goal

pub deal_all-requires-clause-opened : goal.deal_all-requires-clause-opened
deal_all-requires-clause-opened g c =
    opened_values c.in_ok-board.board.shared.key.value.items c.args.values.items c.in_ok-board.count
    c.in_ok-board.ensures.key
    (c.in_ok-board.ensures.count.0 ∙ c.args.values.ok.0)

pub returns-clause-own : goal.returns-clause-own
returns-clause-own g c = λ k d lt.
    let o = c.in_ok-passes.passes.ok.0 in
    dealt_own _ c.in_ok-board.board.shared.key.value.items _ _
    (omega (arith, c.in_ok-passes.ensures.counted, c.in_ok-handed.ensures, o))
    (c.in_ok-passes.ensures.dealt k _ (slice_get-get_or _ k d lt))

pub returns-clause-sound : goal.returns-clause-sound
returns-clause-sound g c = λ k d lt. dealt_sound _ _ _ _ _
    (c.in_ok-passes.ensures.dealt k _ (slice_get-get_or _ k d lt))

pub returns-clause-fresh : goal.returns-clause-fresh
returns-clause-fresh g c = λ k d lt. dealt_fresh _ _ _ _ _ c.args.values.items
    (c.in_ok-passes.ensures.dealt k _ (slice_get-get_or _ k d lt))
    c.in_ok-board.ensures.key (c.in_ok-board.ensures.count.0 ∙ c.args.values.ok.0)

pub returns-clause-idle : goal.returns-clause-idle
returns-clause-idle g c = λ k d lt. dealt_idle _ _ _ _ _ c.args.values.items
    (c.in_ok-passes.ensures.dealt k _ (slice_get-get_or _ k d lt))
    c.in_ok-board.ensures.key (c.in_ok-board.ensures.count.0 ∙ c.args.values.ok.0)

pub returns-clause-numbered : goal.returns-clause-numbered
returns-clause-numbered g c = λ k d lt.
    let o = c.in_ok-passes.passes.ok.0 in
    (c.in_ok-passes.ensures.dealt k _ (slice_get-get_or _ k d
    (omega (arith, c.in_ok-passes.ensures.counted, o)))).number_is
