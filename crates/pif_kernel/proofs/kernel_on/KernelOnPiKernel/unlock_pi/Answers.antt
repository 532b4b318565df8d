use Rattle.std.proofs.Common.{◌≡◌, ℕ, Ok, Some, subst, sym, ap, ◌∙◌, arith}
use Rattle.pif_model.specs.Word.{Words, word_of, set_word, hand_word}
use Rattle.pif_model.specs.PiKernel.{seat_at, queued_on, words_after_unlock, kernel_after_unlock, kernel_after_hand_over}
use Rattle.pif_word.specs.WordMap.{words_of}
use Rattle.pif_kernel_model.specs.Inside.{Inside, kernel_of, state_key_at}
use Rattle.pif_model_lemmas.proofs.kernel.Statuses.{ready-queued_on_nothing}
use Rattle.pif_kernel_model.proofs.Seats.{states_seen}
use Rattle.pif_kernel.proofs.Answering.{words_stored}
use Rattle.pif_kernel_model.proofs.CallFacts.{some_state, no_state, next_below, zero_word, words_freed, words_handed, kernel_freed, kernel_handed}
use Rattle.pif_kernel.proofs.kernel_on.KernelOnPiKernel.unlock_pi.Goals as goal
use Rattle.pif_kernel.proofs.kernel_on.KernelOnPiKernel.unlock_pi.Goals.{in-Some, in-None}

pub hand_over-requires-clause-owner : goal.hand_over-requires-clause-owner
hand_over-requires-clause-owner g c =
    let p : Inside = c.self.inside.parts in
    let at : state_key_at p c.args.m ≡ Some c.in-Some.key = sym c.in_ok-key.ensures.own.at ∙ c.in-Some.is in
    c.in_ok-key.ensures.own.state (λ z. some_state p c.self.invariant c.args.m c.in-Some.key at
    (states_seen p c.args.m ∙ z))

pub hand_over-requires-clause-idle : goal.hand_over-requires-clause-idle
hand_over-requires-clause-idle g c =
    subst (λ (x : Inside). queued_on (seat_at (kernel_of x) c.args.t).status ≡ 0) (sym c.self.view_is)
    (ready-queued_on_nothing (seat_at (kernel_of c.args.self.now) c.args.t).status c.requires.ready)

pub hand_word-bits-requires : goal.hand_word-bits-requires
hand_word-bits-requires g c =
    let p : Inside = c.self.inside.parts in
    let at : state_key_at p c.args.m ≡ Some c.in-Some.key = sym c.in_ok-key.ensures.own.at ∙ c.in-Some.is in
    omega (
      arith,
      c.get.ensures.value,
      c.hand_over.ensures.next,
      next_below p c.self.invariant c.args.m c.in-Some.key
          at,
    )

pub returns-clause-words : goal.returns-clause-words
returns-clause-words g c =
    let p : Inside = c.self.inside.parts in
    let ws : Words = words_of c.args.words.now in
    let bits : ℕ = c.match-branch-2.bits in
    words_stored c.args.words.now c.store.new.self c.args.m bits c.store.ensures.stored
    ∙ elim c.match-branch-2.branch [
      | in-Some w ↦
          let at : state_key_at p c.args.m ≡ Some w.in-Some.key = sym c.in_ok-key.ensures.own.at ∙ w.in-Some.is in
          ap (λ (b : ℕ). set_word ws c.args.m (word_of b)) w.bits-is
          ∙ ap (set_word ws c.args.m) (w.hand_word-bits.ensures
          ∙ ap hand_word (w.get.ensures.value ∙ w.hand_over.ensures.next))
          ∙ sym (words_handed c.args.m ws (kernel_of p) (some_state p c.self.invariant c.args.m w.in-Some.key at))
      | in-None w ↦
          ap (λ (b : ℕ). set_word ws c.args.m (word_of b)) w.bits-is ∙ ap (set_word ws c.args.m) zero_word
          ∙ sym (words_freed c.args.m ws (kernel_of p)
          (no_state p c.args.m (sym c.in_ok-key.ensures.own.at ∙ w.in-None.is)))
    ]
    ∙ ap (λ (x : Inside). words_after_unlock c.args.m (Ok (record {})) (kernel_of x) ws) c.self.view_is

pub returns-clause-after : goal.returns-clause-after
returns-clause-after g c =
    let p : Inside = c.self.inside.parts in
    elim c.match-branch-2.branch [
      | in-Some w ↦
          let at : state_key_at p c.args.m ≡ Some w.in-Some.key = sym c.in_ok-key.ensures.own.at ∙ w.in-Some.is in
          ap kernel_of w.self-is ∙ w.hand_over.ensures.after
          ∙ ap (λ (u : ℕ). kernel_after_hand_over u c.args.m (kernel_of p)) w.hand_over.ensures.next
          ∙ sym (kernel_handed c.args.m (kernel_of p) (some_state p c.self.invariant c.args.m w.in-Some.key at))
      | in-None w ↦
          ap kernel_of (w.self-is ∙ sym c.self.view_is)
          ∙ sym (kernel_freed c.args.m (kernel_of p)
          (no_state p c.args.m (sym c.in_ok-key.ensures.own.at ∙ w.in-None.is)))
    ]
    ∙ ap (λ (x : Inside). kernel_after_unlock c.args.m (Ok (record {})) (kernel_of x)) c.self.view_is
