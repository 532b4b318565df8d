use Rattle.std.proofs.Common.{◌≡◌, ℕ, true, subst, sym, ap, ◌∙◌, arith}
use Rattle.pif_model.specs.Word.{Words, word_of, word_at, set_word, taken_word, mark_word}
use Rattle.pif_model.specs.PiKernel.{has_seat, kernel_after_queueing}
use Rattle.pif_word.specs.WordMap.{words_of}
use Rattle.pif_kernel.specs.declared.refusals.Found.{Found}
use Rattle.pif_kernel.specs.Found.{IsWord, IsHeld, IsFound}
use Rattle.pif_kernel_model.specs.Inside.{Inside, kernel_of}
use Rattle.pif_kernel.proofs.Answering.{word_seen, words_stored}
use Rattle.pif_kernel_model.proofs.CallFacts.{number_below, words_owns, words_queued, kernel_queued}
use Rattle.pif_kernel.proofs.kernel_on.KernelOnPiKernel.lock_pi.Goals as goal

pub taken_word-requires : goal.taken_word-requires
taken_word-requires g c =
    let known : has_seat (kernel_of c.self.inside.parts) c.args.t ≡ true
    = subst (λ (x : Inside). has_seat (kernel_of x) c.args.t ≡ true) (sym c.self.view_is) c.requires.added in
    omega (arith, c.get.ensures.value, number_below c.self.inside.parts c.self.invariant c.args.t known)

pub returns-in-Free-clause-words : goal.returns-in-Free-clause-words
returns-in-Free-clause-words g c =
    let ws : Words = words_of c.args.words.now in
    let f : IsWord c.args.m c.in-Free.word c.args.words.now
    = subst (λ (x : Found). IsFound x c.args.t c.args.m c.args.words.now c.self.inside.parts) c.in-Free.is
    c.in_ok-word.ensures.found in
    let w : word_at ws c.args.m ≡ word_of c.in-Free.word = word_seen c.args.words.now c.args.m c.in-Free.word f.bits in
    words_stored c.args.words.now c.store.new.self c.args.m c.taken_word.result c.store.ensures.stored
    ∙ ap (set_word ws c.args.m) (c.taken_word.ensures
    ∙ ap (λ (x : ℕ). taken_word x (word_of c.in-Free.word)) c.get.ensures.value ∙ ap (taken_word c.args.t) (sym w))
    ∙ sym (words_owns c.args.t c.args.m ws)

pub returns-in-Held-clause-words : goal.returns-in-Held-clause-words
returns-in-Held-clause-words g c =
    let ws : Words = words_of c.args.words.now in
    let f : IsHeld c.args.t c.args.m c.in-Held.word c.in-Held.owner c.in-Held.key c.args.words.now c.self.inside.parts
    = subst (λ (x : Found). IsFound x c.args.t c.args.m c.args.words.now c.self.inside.parts) c.in-Held.is
    c.in_ok-word.ensures.found in
    let w : word_at ws c.args.m ≡ word_of c.in-Held.word
    = word_seen c.args.words.now c.args.m c.in-Held.word f.stored.bits in
    words_stored c.args.words.now c.store-in-Held.new.self c.args.m c.mark_word.result c.store-in-Held.ensures.stored
    ∙ ap (set_word ws c.args.m) (c.mark_word.ensures ∙ ap mark_word (sym w)) ∙ sym (words_queued c.args.t c.args.m ws)

pub returns-in-Held-clause-after : goal.returns-in-Held-clause-after
returns-in-Held-clause-after g c =
    let ws : Words = words_of c.args.words.now in
    let f : IsHeld c.args.t c.args.m c.in-Held.word c.in-Held.owner c.in-Held.key c.args.words.now c.self.inside.parts
    = subst (λ (x : Found). IsFound x c.args.t c.args.m c.args.words.now c.self.inside.parts) c.in-Held.is
    c.in_ok-word.ensures.found in
    let w : word_at ws c.args.m ≡ word_of c.in-Held.word
    = word_seen c.args.words.now c.args.m c.in-Held.word f.stored.bits in
    c.queue_on.ensures.after
    ∙ ap (λ (x : Inside). kernel_after_queueing c.args.t c.args.m c.in-Held.owner (kernel_of x)) c.self.view_is
    ∙ ap (λ (n : ℕ). kernel_after_queueing c.args.t c.args.m n (kernel_of c.args.self.now))
    (f.number ∙ ap (λ x. x.number) (sym w))
    ∙ sym (kernel_queued c.args.t c.args.m ws (kernel_of c.args.self.now))
