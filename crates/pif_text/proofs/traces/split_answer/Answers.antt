use Rattle.std.proofs.Common.{◌≡◌, ◌+◌, drop, take, true, sym, ◌∙◌, bytes_eq, codes, arith}
use Rattle.std.proofs.lemmas.List.{take_rest}
use Rattle.pif_text_model.proofs.Marks.{parts_of-marked, parts_of-unmarked}
use Rattle.pif_text.proofs.traces.split_answer.Goals as goal

pub returns-then-starts_with : goal.returns-then-starts_with
returns-then-starts_with c =
    let line = c.args.line.now in
    let place = c.loop-place.place in
    let begins : bytes_eq (codes "= ") (take 2 (drop (place + 1) line)) ≡ true =
    rw take_rest at (sym c.starts_with.ensures.value ∙ c.if-starts_with.true) in
    rw take_rest (sym (parts_of-marked line place c.loop-place-test.true c.if-byte-eq32.true begins c.loop-place.invariant))

pub returns : goal.returns
returns c = sym (parts_of-unmarked c.args.line.now (λ k h. c.loop-place.invariant k (omega arith)))
