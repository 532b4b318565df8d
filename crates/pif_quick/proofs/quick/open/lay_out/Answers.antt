use Rattle.std.proofs.Common.{◌≡◌, ℕ, ◌*◌, List, length, get_or, Option, arith, ap, ◌∙◌}
use Rattle.std.proofs.lemmas.List.{length-replicate}
use Rattle.pif_quick.proofs.Opening.{length-spread, starts_well, zeros}
use Rattle.pif_quick.proofs.quick.open.lay_out.Goals as goal

pub new-requires : goal.new-requires
new-requires g c =
    let words = c.as_slice.ensures.value ∙ c.in_ok-words.ensures in
    let long : length c.as_slice.result.now ≡ c.len.result = ap (λ (l : List ℕ). length l) words
    ∙ length-replicate c.len.result 0 in
    let o = c.in_ok-slots.slots.ok.0 in
    starts_well c.of-key.result.value.items c.in_ok-slots.slots.items c.as_slice.result.now
    (ap (λ v. v.items) c.of-key.ensures)
    (omega (arith, long, c.len.ensures, o)) (λ i. ap (λ (l : List ℕ). get_or l i 0) words ∙ zeros c.len.result i)

pub returns-in-Ok-clause-count : goal.returns-in-Ok-clause-count
returns-in-Ok-clause-count g c =
    let total : length c.in_ok-slots.slots.items ≡ 8 * length c.args.values.items =
    ap (λ (l : List (Option g.row.T.Denot)). length l) c.in_ok-slots.ensures ∙ length-spread c.args.values.items in
    let o = c.in_ok-slots.slots.ok.0 in
    let v = c.args.values.ok.0 in
    let r = c.len-count.ensures in
    let t = c.len-count.type_inv in
    (omega (arith, total, o, v, r), omega (arith, total, o, v, r, t))

pub returns-in-Ok-clause-sized : goal.returns-in-Ok-clause-sized
returns-in-Ok-clause-sized g c =
    let total : length c.in_ok-slots.slots.items ≡ 8 * length c.args.values.items =
    ap (λ (l : List (Option g.row.T.Denot)). length l) c.in_ok-slots.ensures ∙ length-spread c.args.values.items in
    let words = c.as_slice.ensures.value ∙ c.in_ok-words.ensures in
    let long : length c.as_slice.result.now ≡ c.len.result = ap (λ (l : List ℕ). length l) words
    ∙ length-replicate c.len.result 0 in
    let o = c.in_ok-slots.slots.ok.0 in
    let r = c.len-count.ensures in
    let l = c.len.ensures in
    let made = c.in-Ok.ensures.ok in
    (omega (arith, total, long, o, r, l, made.0), omega (arith, total, o, r, made.1))
