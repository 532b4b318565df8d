use Rattle.std.proofs.Common.{◌≡◌, true, false, sym, ◌∙◌, arith}
use Rattle.pif_model.specs.Word.{word_at}
use Rattle.pif_word.specs.WordMap.{words_of}
use Rattle.pif_kernel.proofs.Answering.{number_seen, some_word, no_word, try_fault, try_own, try_held, try_free, try_disagrees}
use Rattle.pif_kernel_model.proofs.CallFacts.{state_keyed, state_keyless}
use Rattle.pif_kernel.proofs.refusals.test_try_lock.Goals.{After-get}
use Rattle.pif_kernel.proofs.refusals.test_try_lock.Goals as goal

-- the number in the word
number : (g : _) (c : After-get g) → (word_at (words_of c.args.words.now) c.args.m).number ≡ c.number-owner.result
number g c =
    number_seen c.args.words.now c.args.m c.load-word.result c.number-owner.result c.load-word.ensures.value
    c.number-owner.ensures.value

pub returns-then-not-has-clause-answer : goal.returns-then-not-has-clause-answer
returns-then-not-has-clause-answer g c =
    let e : c.has.result ≡ false = grind arith in
    try_fault _ _ _ _ (no_word c.args.words.now c.args.m c.has.result c.has.ensures e)

pub returns-then-owner-get-clause-answer : goal.returns-then-owner-get-clause-answer
returns-then-owner-get-clause-answer g c =
    let e : c.has.result ≡ true = grind arith in
    let n = number g (goal.at.returns-then-owner-get-clause-answer g c).After-get in
    try_own _ _ _ _ (some_word c.args.words.now c.args.m (c.has.ensures.0 e))
    (n ∙ c.if-owner-get.true ∙ c.get.ensures.value)

pub returns-then-owner-ne0-clause-answer : goal.returns-then-owner-ne0-clause-answer
returns-then-owner-ne0-clause-answer g c =
    let e : c.has.result ≡ true = grind arith in
    let n = number g (goal.at.returns-then-owner-ne0-clause-answer g c).After-get in
    try_held _ _ _ _ (some_word c.args.words.now c.args.m (c.has.ensures.0 e))
    (λ z. c.if-owner-get.false (sym n ∙ z ∙ sym c.get.ensures.value)) (λ z. c.if-owner-ne0.true (sym n ∙ z))

pub returns-then-is_some-clause-answer : goal.returns-then-is_some-clause-answer
returns-then-is_some-clause-answer g c =
    let e : c.has.result ≡ true = grind arith in
    let n = number g (goal.at.returns-then-is_some-clause-answer g c).After-get in
    try_disagrees _ _ _ _ (some_word c.args.words.now c.args.m (c.has.ensures.0 e))
    (λ z. c.if-owner-get.false (sym n ∙ z ∙ sym c.get.ensures.value)) (n ∙ c.if-owner-ne0.false)
    (state_keyed c.args.parts.now c.requires c.args.m c.key.result c.key.ensures
    (sym c.is_some.ensures ∙ c.if-is_some.true))

pub returns-clause-answer : goal.returns-clause-answer
returns-clause-answer g c =
    let e : c.has.result ≡ true = grind arith in
    let n = number g (goal.at.returns-clause-answer g c).After-get in
    try_free _ _ _ _ (some_word c.args.words.now c.args.m (c.has.ensures.0 e))
    (λ z. c.if-owner-get.false (sym n ∙ z ∙ sym c.get.ensures.value)) (n ∙ c.if-owner-ne0.false)
    (state_keyless c.args.parts.now c.args.m c.key.result c.key.ensures (sym c.is_some.ensures ∙ c.if-is_some.false))
