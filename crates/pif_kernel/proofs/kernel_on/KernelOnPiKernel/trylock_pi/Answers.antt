use Rattle.std.proofs.Common.{◌≡◌, ℕ, true, subst, sym, ap, ◌∙◌, arith}
use Rattle.pif_model.specs.Word.{Words, word_of, word_at, set_word, taken_word}
use Rattle.pif_model.specs.PiKernel.{has_seat}
use Rattle.pif_word.specs.WordMap.{words_of}
use Rattle.pif_kernel_model.specs.Inside.{Inside, kernel_of}
use Rattle.pif_kernel.proofs.Answering.{word_seen, words_stored}
use Rattle.pif_kernel_model.proofs.CallFacts.{number_below, words_tried}
use Rattle.pif_kernel.proofs.kernel_on.KernelOnPiKernel.trylock_pi.Goals as goal

pub taken_word-requires : goal.taken_word-requires
taken_word-requires g c =
    let known : has_seat (kernel_of c.self.inside.parts) c.args.t ≡ true
    = subst (λ (x : Inside). has_seat (kernel_of x) c.args.t ≡ true) (sym c.self.view_is) c.requires.added in
    omega (arith, c.get.ensures.value, number_below c.self.inside.parts c.self.invariant c.args.t known)

pub returns-clause-words : goal.returns-clause-words
returns-clause-words g c =
    let ws : Words = words_of c.args.words.now in
    let w : word_at ws c.args.m ≡ word_of c.in_ok-word.word
    = word_seen c.args.words.now c.args.m c.in_ok-word.word c.in_ok-word.ensures.word.bits in
    words_stored c.args.words.now c.store.new.self c.args.m c.taken_word.result c.store.ensures.stored
    ∙ ap (set_word ws c.args.m) (c.taken_word.ensures
    ∙ ap (λ (x : ℕ). taken_word x (word_of c.in_ok-word.word)) c.get.ensures.value ∙ ap (taken_word c.args.t) (sym w))
    ∙ sym (words_tried c.args.t c.args.m ws)
