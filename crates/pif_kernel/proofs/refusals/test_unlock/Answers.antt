use Rattle.std.proofs.Common.{◌≡◌, ◌≢◌, true, false, Some, inl, inr, sym, ap, ◌∙◌, arith}
use Rattle.std.proofs.lemmas.Bool.Decides.{nat_tests}
use Rattle.pif_model.specs.Word.{word_at}
use Rattle.pif_model.specs.PiKernel.{state_at}
use Rattle.pif_word.specs.WordMap.{words_of}
use Rattle.pif_kernel_model.specs.Inside.{kernel_of, state_key_at}
use Rattle.pif_kernel.proofs.Answering.{number_seen, some_word, no_word, unlock_fault, unlock_other, unlock_done, unlock_disagrees}
use Rattle.pif_kernel_model.proofs.CallFacts.{some_state, no_state, state_named, named_or_none, named_other}
use Rattle.pif_kernel.proofs.refusals.test_unlock.Goals.{After-get}
use Rattle.pif_kernel.proofs.refusals.test_unlock.Goals as goal

-- the number in the word
number : (g : _) (c : After-get g) → (word_at (words_of c.args.words.now) c.args.m).number ≡ c.number.result
number g c =
    number_seen c.args.words.now c.args.m c.load.result c.number.result c.load.ensures.value c.number.ensures.value

pub returns-then-not-has-clause-answer : goal.returns-then-not-has-clause-answer
returns-then-not-has-clause-answer g c =
    let e : c.has.result ≡ false = grind arith in
    unlock_fault _ _ _ _ (no_word c.args.words.now c.args.m c.has.result c.has.ensures e)

pub returns-then-number-get-clause-answer : goal.returns-then-number-get-clause-answer
returns-then-number-get-clause-answer g c =
    let e : c.has.result ≡ true = grind arith in
    let n = number g (goal.at.returns-then-number-get-clause-answer g c).After-get in
    unlock_other _ _ _ _ (some_word c.args.words.now c.args.m (c.has.ensures.0 e))
    (λ z. c.if-number-get.true (sym n ∙ z ∙ sym c.get.ensures.value))

pub returns-in-None-clause-answer : goal.returns-in-None-clause-answer
returns-in-None-clause-answer g c =
    let e : c.has.result ≡ true = grind arith in
    let n = number g (goal.at.returns-in-None-clause-answer g c).After-get in
    unlock_done _ _ _ _ (some_word c.args.words.now c.args.m (c.has.ensures.0 e))
    (n ∙ c.if-number-get.false ∙ c.get.ensures.value)
    (named_or_none _ _ (inl (no_state c.args.parts.now c.args.m (sym c.key.ensures ∙ c.in-None.is))))

pub returns-in-Some-clause-answer : goal.returns-in-Some-clause-answer
returns-in-Some-clause-answer g c =
    let e : c.has.result ≡ true = grind arith in
    let n = number g (goal.at.returns-in-Some-clause-answer g c).After-get in
    let same : c.owner.result ≡ c.args.t = grind (arith, nat_tests, c.eq.ensures, c.if-eq.true) in
    let at : state_key_at c.args.parts.now c.args.m ≡ Some c.in-Some.key
    = sym c.key.ensures ∙ c.in-Some.is in
    let s
    = state_named c.args.parts.now c.args.m c.in-Some.key c.owner.result at c.owner.ensures in
    unlock_done _ _ _ _ (some_word c.args.words.now c.args.m (c.has.ensures.0 e))
    (n ∙ c.if-number-get.false ∙ c.get.ensures.value) (named_or_none _ _ (inr (s ∙ same)))

pub returns-in-Some-2-clause-answer : goal.returns-in-Some-2-clause-answer
returns-in-Some-2-clause-answer g c =
    let e : c.has.result ≡ true = grind arith in
    let n = number g (goal.at.returns-in-Some-2-clause-answer g c).After-get in
    let other : c.owner.result ≢ c.args.t = λ z. absurd (grind (arith, nat_tests, c.eq.ensures, c.if-eq.false)) in
    let at : state_key_at c.args.parts.now c.args.m ≡ Some c.in-Some.key
    = sym c.key.ensures ∙ c.in-Some.is in
    let s
    = state_named c.args.parts.now c.args.m c.in-Some.key c.owner.result at c.owner.ensures in
    unlock_disagrees _ _ _ _ (some_word c.args.words.now c.args.m (c.has.ensures.0 e))
    (n ∙ c.if-number-get.false ∙ c.get.ensures.value)
    (named_other _ _ (some_state c.args.parts.now c.requires c.args.m c.in-Some.key (sym c.key.ensures ∙ c.in-Some.is))
    (λ z. other (sym s ∙ z)))
