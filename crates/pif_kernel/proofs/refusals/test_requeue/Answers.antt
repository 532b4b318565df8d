use Rattle.std.proofs.Common.{◌≡◌, ℕ, Bool, true, false, true≢false, Ok, not, Option, Some, None, is_some, if◌then◌else◌, sym, ap, ◌∙◌, arith}
use Rattle.pif_model.specs.Word.{word_at}
use Rattle.pif_model.specs.PiKernel.{has_parked, top_parked, state_at, fits_state}
use Rattle.pif_word.specs.WordMap.{words_of}
use Rattle.pif_kernel_model.specs.Inside.{kernel_of}
use Rattle.pif_kernel.specs.Systems.{system_of}
use Rattle.pif_kernel.proofs.Answering.{number_seen}
use Rattle.pif_kernel_model.proofs.RequeueAnswers.{requeue_fault, requeue_many, requeue_changed, requeue_other, requeue_nobody, requeue_unfit, requeue_goes, none_counted, fits_word}
use Rattle.pif_kernel.proofs.refusals.test_requeue.Goals.{After-is_none, After-fits_state}
use Rattle.pif_kernel.proofs.refusals.test_requeue.Goals as goal

-- whether there is a next one, by what is answered
some_next : (b : Bool) (u : ℕ) (r : Option ℕ) → r ≡ (if b then Some u else None) → b ≡ is_some r
some_next true u r e = sym (ap is_some e)
some_next false u r e = sym (ap is_some e)

-- whether somebody is parked on the variable
parked : (g : _) (c : After-is_none g) → has_parked (kernel_of c.args.parts.now) c.args.c ≡ not c.is_none.result
parked g c =
    some_next (has_parked (kernel_of c.args.parts.now) c.args.c) (top_parked (kernel_of c.args.parts.now) c.args.c)
    c.next_parked.result c.next_parked.ensures.next ∙ c.is_none.ensures

-- whether word and owner state fit together
fitting : (g : _) (c : After-fits_state g)
    → fits_state (word_at (words_of c.args.words.now) c.args.m).number (state_at (kernel_of c.args.parts.now) c.args.m)
    (kernel_of c.args.parts.now) ≡ c.fits_state.result
fitting g c =
    ap (λ (n : ℕ). fits_state n (state_at (kernel_of c.args.parts.now) c.args.m) (kernel_of c.args.parts.now))
    (number_seen c.args.words.now c.args.m c.load-2.result c.number.result c.load-2.ensures.value
    c.number.ensures.value)
    ∙ sym c.fits_state.ensures

pub returns-then-not-have_words-clause-answer : goal.returns-then-not-have_words-clause-answer
returns-then-not-have_words-clause-answer g c =
    let e : c.have_words.result ≡ false = grind arith in
    λ more. requeue_fault c.args.c c.args.m c.args.expected (words_of c.args.words.now) c.args.val more
    (kernel_of c.args.parts.now) (sym c.have_words.ensures.value ∙ e)

pub returns-then-val-ne1-clause-answer : goal.returns-then-val-ne1-clause-answer
returns-then-val-ne1-clause-answer g c =
    let e : c.have_words.result ≡ true = grind arith in
    λ more. requeue_many c.args.c c.args.m c.args.expected (words_of c.args.words.now) c.args.val more
    (kernel_of c.args.parts.now) (sym c.have_words.ensures.value ∙ e) c.if-val-ne1.true

pub returns-then-load-expected-clause-answer : goal.returns-then-load-expected-clause-answer
returns-then-load-expected-clause-answer g c =
    let e : c.have_words.result ≡ true = grind arith in
    λ more. requeue_changed c.args.c c.args.m c.args.expected (words_of c.args.words.now) c.args.val more
    (kernel_of c.args.parts.now) (sym c.have_words.ensures.value ∙ e) c.if-val-ne1.false
    (λ z. c.if-load-expected.true (c.load.ensures.value ∙ z))

pub returns-then-has_other_target-clause-answer : goal.returns-then-has_other_target-clause-answer
returns-then-has_other_target-clause-answer g c =
    let e : c.have_words.result ≡ true = grind arith in
    λ more. requeue_other c.args.c c.args.m c.args.expected (words_of c.args.words.now) c.args.val more
    (kernel_of c.args.parts.now) (sym c.have_words.ensures.value ∙ e) c.if-val-ne1.false
    (sym c.load.ensures.value ∙ c.if-load-expected.false)
    (sym c.has_other_target.ensures ∙ c.if-has_other_target.true)

pub returns-then-is_none-clause-answer : goal.returns-then-is_none-clause-answer
returns-then-is_none-clause-answer g c =
    let e : c.have_words.result ≡ true = grind arith in
    let none : has_parked (kernel_of c.args.parts.now) c.args.c ≡ false
    = parked g (goal.at.returns-then-is_none-clause-answer g c).After-is_none ∙ ap not c.if-is_none.true in
    λ more. requeue_nobody c.args.c c.args.m c.args.expected (words_of c.args.words.now) c.args.val more
    (kernel_of c.args.parts.now) (sym c.have_words.ensures.value ∙ e) c.if-val-ne1.false
    (sym c.load.ensures.value ∙ c.if-load-expected.false)
    (sym c.has_other_target.ensures ∙ c.if-has_other_target.false) none
    ∙ ap Ok (none_counted (kernel_of c.args.parts.now) c.args.c more none)

pub returns-then-is_none-clause-fits : goal.returns-then-is_none-clause-fits
returns-then-is_none-clause-fits g c =
    let none : has_parked (kernel_of c.args.parts.now) c.args.c ≡ false
    = parked g (goal.at.returns-then-is_none-clause-fits g c).After-is_none ∙ ap not c.if-is_none.true in
    λ some. absurd (true≢false (sym some ∙ none))

pub returns-then-not-fits_state-clause-answer : goal.returns-then-not-fits_state-clause-answer
returns-then-not-fits_state-clause-answer g c =
    let a = goal.at.returns-then-not-fits_state-clause-answer g c in
    let e : c.have_words.result ≡ true = grind arith in
    let f : c.fits_state.result ≡ false = grind arith in
    λ more. requeue_unfit c.args.c c.args.m c.args.expected (words_of c.args.words.now) c.args.val more
    (kernel_of c.args.parts.now) (sym c.have_words.ensures.value ∙ e) c.if-val-ne1.false
    (sym c.load.ensures.value ∙ c.if-load-expected.false)
    (sym c.has_other_target.ensures ∙ c.if-has_other_target.false)
    (parked g a.After-is_none ∙ ap not c.if-is_none.false) (fitting g a.After-fits_state ∙ f)

pub returns-clause-answer : goal.returns-clause-answer
returns-clause-answer g c =
    let a = goal.at.returns-clause-answer g c in
    let e : c.have_words.result ≡ true = grind arith in
    let f : c.fits_state.result ≡ true = grind arith in
    λ more. requeue_goes c.args.c c.args.m c.args.expected (words_of c.args.words.now) c.args.val more
    (kernel_of c.args.parts.now) (sym c.have_words.ensures.value ∙ e) c.if-val-ne1.false
    (sym c.load.ensures.value ∙ c.if-load-expected.false)
    (sym c.has_other_target.ensures ∙ c.if-has_other_target.false)
    (parked g a.After-is_none ∙ ap not c.if-is_none.false) (fitting g a.After-fits_state ∙ f)

pub returns-clause-fits : goal.returns-clause-fits
returns-clause-fits g c =
    let f : c.fits_state.result ≡ true = grind arith in
    λ some. fits_word c.args.m (system_of c.args.words.now c.args.parts.now)
    (fitting g (goal.at.returns-clause-fits g c).After-fits_state ∙ f)
