use Rattle.std.proofs.Common.{◌≡◌, ◌≢◌, ℕ, true, false, Some, sym, ap, ◌∙◌, arith}
use Rattle.std.proofs.lemmas.Bool.Decides.{nat_tests}
use Rattle.pif_model.specs.Word.{Words, word_at, set_word, orphan_word, inherit_word}
use Rattle.pif_model.specs.PiKernel.{Kernel, System, seat_at, state_at, after_death, kernel_after_hand_over, next_in}
use Rattle.pif_word.specs.WordMap.{words_of}
use Rattle.pif_model_lemmas.proofs.kernel.Exit.{death-no_word, death-other_number, death-other_owner, death-orphaned, death-inherited, death-ended}
use Rattle.pif_kernel_model.specs.Inside.{Inside, kernel_of, state_key_at}
use Rattle.pif_kernel.specs.Systems.{system_of}
use Rattle.pif_kernel.proofs.Answering.{word_seen, number_seen, some_word, no_word, words_stored}
use Rattle.pif_kernel_model.proofs.CallFacts.{some_state, no_state, state_named, next_below}
use Rattle.pif_kernel.proofs.dying.pass_on.Goals.{After-get, After-store-in-Some}
use Rattle.pif_kernel.proofs.dying.pass_on.Goals as goal

-- the number in the word
number : (g : _) (c : After-get g) → (word_at (words_of c.args.words.now) c.args.m).number ≡ c.number.result
number g c =
    number_seen c.args.words.now c.args.m c.load-word.result c.number.result c.load-word.ensures.value
    c.number.ensures.value

pub returns-then-not-has-clause-after : goal.returns-then-not-has-clause-after
returns-then-not-has-clause-after g c =
    let e : c.has.result ≡ false = grind arith in
    sym (death-no_word c.args.t c.args.m (system_of c.args.words.now c.args.parts.now)
    (no_word c.args.words.now c.args.m c.has.result c.has.ensures e))

pub returns-then-number-get-clause-after : goal.returns-then-number-get-clause-after
returns-then-number-get-clause-after g c =
    let n = number g (goal.at.returns-then-number-get-clause-after g c).After-get in
    sym (death-other_number c.args.t c.args.m (system_of c.args.words.now c.args.parts.now)
    (λ z. c.if-number-get.true (sym n ∙ z ∙ sym c.get.ensures.value)))

pub returns-in-None-clause-after : goal.returns-in-None-clause-after
returns-in-None-clause-after g c =
    let e : c.has.result ≡ true = grind arith in
    let n = number g (goal.at.returns-in-None-clause-after g c).After-get in
    let ws : Words = words_of c.args.words.now in
    let k : Kernel = kernel_of c.args.parts.now in
    let w : words_of c.store.new.self ≡ set_word ws c.args.m (orphan_word (word_at ws c.args.m))
    = words_stored c.args.words.now c.store.new.self c.args.m c.orphan_word.result c.store.ensures.stored
    ∙ ap (set_word ws c.args.m) (c.orphan_word.ensures ∙ ap orphan_word
    (sym (word_seen c.args.words.now c.args.m c.load-word.result c.load-word.ensures.value))) in
    let both : Words → System = λ x. record { words = x; kernel = k } in
    ap both w
    ∙ sym (death-orphaned c.args.t c.args.m (system_of c.args.words.now c.args.parts.now)
    (some_word c.args.words.now c.args.m (c.has.ensures.0 e)) (n ∙ c.if-number-get.false ∙ c.get.ensures.value)
    (no_state c.args.parts.now c.args.m (sym c.key.ensures ∙ c.in-None.is)))

-- the mutex is handed to its next waiter
inherited : (g : _) (c : After-store-in-Some g) → (word_at (words_of c.args.words.now) c.args.m).number ≡ c.number.result
    → system_of c.store-in-Some.new.self c.hand_over-next.new.self
    ≡ after_death c.args.t c.args.m (system_of c.args.words.now c.args.parts.now)
inherited g c n =
    let e : c.has.result ≡ true = grind arith in
    let same : c.owner.result ≡ c.args.t = grind (arith, nat_tests, c.eq.ensures, c.if-eq.true) in
    let at : state_key_at c.args.parts.now c.args.m ≡ Some c.in-Some.key = sym c.key.ensures ∙ c.in-Some.is in
    let s : state_at (kernel_of c.args.parts.now) c.args.m ≡ c.owner.result
    = state_named c.args.parts.now c.args.m c.in-Some.key c.owner.result at c.owner.ensures in
    let ws : Words = words_of c.args.words.now in
    let k : Kernel = kernel_of c.args.parts.now in
    let next : c.hand_over-next.result ≡ next_in k c.args.m = c.hand_over-next.ensures.next in
    let w : words_of c.store-in-Some.new.self ≡ set_word ws c.args.m (inherit_word (next_in k c.args.m))
    = words_stored c.args.words.now c.store-in-Some.new.self c.args.m c.inherit_word.result
    c.store-in-Some.ensures.stored
    ∙ ap (set_word ws c.args.m) (c.inherit_word.ensures
    ∙ ap inherit_word (c.get-in-Some.ensures.value ∙ next)) in
    let after : kernel_of c.hand_over-next.new.self ≡ kernel_after_hand_over (next_in k c.args.m) c.args.m k
    = c.hand_over-next.ensures.after ∙ ap (λ (u : ℕ). kernel_after_hand_over u c.args.m k) next in
    let both : Words → Kernel → System = λ x y. record { words = x; kernel = y } in
    (λ i. both (w i) (after i))
    ∙ sym (death-inherited c.args.t c.args.m (system_of c.args.words.now c.args.parts.now)
    (some_word c.args.words.now c.args.m (c.has.ensures.0 e)) (n ∙ c.if-number-get.false ∙ c.get.ensures.value)
    (some_state c.args.parts.now c.requires.sound c.args.m c.in-Some.key at) (s ∙ same))

pub inherit_word-requires : goal.inherit_word-requires
inherit_word-requires g c =
    omega (
      arith,
      c.get-in-Some.ensures.value,
      c.hand_over-next.ensures.next,
      next_below c.args.parts.now c.requires.sound c.args.m c.in-Some.key (sym c.key.ensures ∙ c.in-Some.is),
    )

pub returns-in-Some-clause-after : goal.returns-in-Some-clause-after
returns-in-Some-clause-after g c =
    let a = goal.at.returns-in-Some-clause-after g c in
    inherited g a.After-store-in-Some (number g a.After-get)

pub returns-in-Some-clause-ended : goal.returns-in-Some-clause-ended
returns-in-Some-clause-ended g c =
    let a = goal.at.returns-in-Some-clause-ended g c in
    ap (λ (x : System). (seat_at x.kernel c.args.t).status)
    (inherited g a.After-store-in-Some (number g a.After-get))
    ∙ death-ended c.args.t c.args.m (system_of c.args.words.now c.args.parts.now) c.requires.sound.kernel c.args.t
    c.requires.ended

pub returns-else-eq-clause-after : goal.returns-else-eq-clause-after
returns-else-eq-clause-after g c =
    let other : c.owner.result ≢ c.args.t = λ z. absurd (grind (arith, nat_tests, c.eq.ensures, c.if-eq.false)) in
    let at : state_key_at c.args.parts.now c.args.m ≡ Some c.in-Some.key = sym c.key.ensures ∙ c.in-Some.is in
    let s : state_at (kernel_of c.args.parts.now) c.args.m ≡ c.owner.result
    = state_named c.args.parts.now c.args.m c.in-Some.key c.owner.result at c.owner.ensures in
    sym (death-other_owner c.args.t c.args.m (system_of c.args.words.now c.args.parts.now)
    (some_state c.args.parts.now c.requires.sound c.args.m c.in-Some.key at) (λ z. other (sym s ∙ z)))
