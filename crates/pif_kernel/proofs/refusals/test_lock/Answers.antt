use Rattle.std.proofs.Common.{◌≡◌, ℕ, true, false, is_some, not, sym, ap, ◌∙◌, arith, rules}
use Rattle.pif_model.specs.Word.{word_at}
use Rattle.pif_model.specs.PiKernel.{state_at, wait_answer, lock_answer}
use Rattle.pif_word.specs.WordMap.{words_of}
use Rattle.pif_kernel.specs.Answers.{wait_test_answer}
use Rattle.pif_kernel.specs.Found.{lock_test_answer}
use Rattle.pif_kernel_model.specs.Inside.{kernel_of, owner_under}
use Rattle.pif_kernel_model.proofs.Seats.{states_seen}
use Rattle.pif_kernel.proofs.Answering.{number_seen, some_word, no_word, none_zero, some_value, lock_fault, lock_own, lock_free, lock_disagrees, lock_waits}
use Rattle.pif_kernel_model.proofs.CallFacts.{state_keyed, state_keyless}
use Rattle.pif_kernel.proofs.refusals.test_lock.Goals.{After-get, After-test_wait}
use Rattle.pif_kernel.proofs.refusals.test_lock.Goals as goal

-- the number in the word
number : (g : _) (c : After-get g) → (word_at (words_of c.args.words.now) c.args.m).number ≡ c.number.result
number g c =
    number_seen c.args.words.now c.args.m c.load-word.result c.number.result c.load-word.ensures.value
    c.number.ensures.value

pub returns-then-not-has-clause-answer : goal.returns-then-not-has-clause-answer
returns-then-not-has-clause-answer g c =
    let e : c.has.result ≡ false = grind arith in
    lock_fault _ _ _ _ (no_word c.args.words.now c.args.m c.has.result c.has.ensures e)

pub returns-then-number-get-clause-answer : goal.returns-then-number-get-clause-answer
returns-then-number-get-clause-answer g c =
    let e : c.has.result ≡ true = grind arith in
    let n = number g (goal.at.returns-then-number-get-clause-answer g c).After-get in
    lock_own _ _ _ _ (some_word c.args.words.now c.args.m (c.has.ensures.0 e))
    (n ∙ c.if-number-get.true ∙ c.get.ensures.value)

pub returns-in-None-clause-answer : goal.returns-in-None-clause-answer
returns-in-None-clause-answer g c =
    let e : c.has.result ≡ true = grind arith in
    let n = number g (goal.at.returns-in-None-clause-answer g c).After-get in
    let none : is_some c.key-key.result ≡ false = c.is_none.ensures ∙ ap not c.if-is_none.true in
    lock_free _ _ _ _ (some_word c.args.words.now c.args.m (c.has.ensures.0 e))
    (λ z. c.if-number-get.false (sym n ∙ z ∙ sym c.get.ensures.value))
    (n ∙ c.number.ensures.value ∙ sym c.number-2.ensures.value
    ∙ none_zero c.new.result c.number-2.result c.in-None.is c.new.ensures.valid)
    (state_keyless c.args.parts.now c.args.m c.key-key.result c.key-key.ensures none)

pub returns-in-None-2-clause-answer : goal.returns-in-None-2-clause-answer
returns-in-None-2-clause-answer g c =
    let e : c.has.result ≡ true = grind arith in
    let n = number g (goal.at.returns-in-None-2-clause-answer g c).After-get in
    let some : is_some c.key-key.result ≡ true = c.is_none.ensures ∙ ap not c.if-is_none.false in
    lock_disagrees _ _ _ _ (some_word c.args.words.now c.args.m (c.has.ensures.0 e))
    (λ z. c.if-number-get.false (sym n ∙ z ∙ sym c.get.ensures.value))
    (n ∙ c.number.ensures.value ∙ sym c.number-2.ensures.value
    ∙ none_zero c.new.result c.number-2.result c.in-None-2.is c.new.ensures.valid)
    (state_keyed c.args.parts.now c.requires c.args.m c.key-key.result c.key-key.ensures some)

-- the answer of a wait for the owner
waits : (g : _) (c : After-test_wait g)
    → wait_test_answer c.test_wait.result ≡ lock_answer c.args.t c.args.m (words_of c.args.words.now)
    (kernel_of c.args.parts.now)
waits g c =
    let e : c.has.result ≡ true = grind arith in
    let n : (word_at (words_of c.args.words.now) c.args.m).number ≡ c.number.result
    = number_seen c.args.words.now c.args.m c.load-word.result c.number.result c.load-word.ensures.value
    c.number.ensures.value in
    let v
    = some_value c.new.result c.number-2.result c.in-Some.owner c.in-Some.is c.new.ensures.valid c.new.ensures.value in
    let u : c.in-Some.owner ≡ (word_at (words_of c.args.words.now) c.args.m).number
    = v.0 ∙ c.number-2.ensures.value ∙ sym c.number.ensures.value ∙ sym n in
    let k = kernel_of c.args.parts.now in
    c.test_wait.ensures
    ∙ ap (λ (s : ℕ). wait_answer c.args.t c.in-Some.owner s k)
    (ap (owner_under c.args.parts.now.owners) c.key-key.ensures ∙ sym (states_seen c.args.parts.now c.args.m))
    ∙ ap (λ (x : ℕ). wait_answer c.args.t x (state_at k c.args.m) k) u
    ∙ lock_waits _ _ _ _ (some_word c.args.words.now c.args.m (c.has.ensures.0 e))
    (λ z. c.if-number-get.false (sym n ∙ z ∙ sym c.get.ensures.value)) (λ z. absurd (omega (arith, v.1, u, v.0, z)))

pub returns-in_err-test_wait-in-Some-clause-answer : goal.returns-in_err-test_wait-in-Some-clause-answer
returns-in_err-test_wait-in-Some-clause-answer g c =
    let e : lock_test_answer c.from_residual.result ≡ wait_test_answer c.test_wait.result = search rules in
    e ∙ waits g (goal.at.returns-in_err-test_wait-in-Some-clause-answer g c).After-test_wait

pub returns-in_ok-test_wait-in-Some-clause-answer : goal.returns-in_ok-test_wait-in-Some-clause-answer
returns-in_ok-test_wait-in-Some-clause-answer g c =
    sym (ap wait_test_answer c.in_ok-test_wait-in-Some.was)
    ∙ waits g (goal.at.returns-in_ok-test_wait-in-Some-clause-answer g c).After-test_wait
