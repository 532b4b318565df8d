use Rattle.std.proofs.Common.{◌≡◌, true, false, ◌∙◌, sym, arith}
use Rattle.pif_word.specs.WordMap.{words_of}
use Rattle.pif_kernel_model.proofs.RequeueAnswers.{parking_fault, parking_changed, parking_goes}
use Rattle.pif_kernel.proofs.refusals.test_parking.Goals as goal

pub returns-then-not-have_words-clause-answer : goal.returns-then-not-have_words-clause-answer
returns-then-not-have_words-clause-answer c =
    let e : c.have_words.result ≡ false = grind arith in
    parking_fault c.args.c c.args.m c.args.expected (words_of c.args.words.now) (sym c.have_words.ensures.value ∙ e)

pub returns-then-load-expected-clause-answer : goal.returns-then-load-expected-clause-answer
returns-then-load-expected-clause-answer c =
    let e : c.have_words.result ≡ true = grind arith in
    parking_changed c.args.c c.args.m c.args.expected (words_of c.args.words.now) (sym c.have_words.ensures.value ∙ e)
    (λ z. c.if-load-expected.true (c.load.ensures.value ∙ z))

pub returns-clause-answer : goal.returns-clause-answer
returns-clause-answer c =
    let e : c.have_words.result ≡ true = grind arith in
    parking_goes c.args.c c.args.m c.args.expected (words_of c.args.words.now) (sym c.have_words.ensures.value ∙ e)
    (sym c.load.ensures.value ∙ c.if-load-expected.false)
