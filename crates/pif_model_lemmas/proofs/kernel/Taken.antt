-- Threads are taken from a variable: the cases of one, what all of them keep, and what the kernel keeps.
use Rattle.std.proofs.Common.{◌≡◌, ◌≢◌, ◌⊎◌, ℕ, zero, suc, ◌<◌, Bool, true, false, ◌==◌, length, refl, sym, ap, ◌∙◌, subst, if◌then◌else◌, eqb-true, true≢false, inl, inr}
use Rattle.std.proofs.lemmas.Bool.{cases_eq, cases_Bool, eqb-false}
use Rattle.pif_model.specs.declared.lines.Status.TheVariants.{Parked}
use Rattle.pif_model.specs.declared.lines.Woken.{Woken}
use Rattle.pif_model.specs.declared.lines.Woken.TheVariants.{Owns as WokenOwns, Again as WokenAgain}
use Rattle.pif_model.specs.Graph.{reaches_within}
use Rattle.pif_model.specs.Word.{Word, Words, free_word, taken_word, mark_word, word_at, set_word}
use Rattle.pif_model.specs.PiKernel.{Kernel, Seat, System, IsKernel, seat_at, has_seat, has_ended, is_living, state_at, waits_for, has_parked, top_parked, fits_state, may_queue, without_parking, kernel_after_queueing, kernel_after_waking, after_taking, after_takings}
use Rattle.pif_model_lemmas.proofs.Places.{kept_at}
use Rattle.pif_model_lemmas.proofs.Waiting.{by_test}
use Rattle.pif_model_lemmas.proofs.kernel.Facts.{living-added}
use Rattle.pif_model_lemmas.proofs.kernel.Woken.{added-from_parked, woken_has, woken_seat_other, woken_seat_same, woken_state, kernel-woken, requeued_state_same, kernel-requeued}

-- ONE THREAD

module _ (u m : ℕ) (x : System) where
  -- the word of m
  abbrev pub word_before : Word
  word_before = word_at x.words m

  -- u owns m
  abbrev pub owned : System
  owned = record {
    words = set_word x.words m (taken_word u word_before);
    kernel = kernel_after_waking u WokenOwns x.kernel;
  }

  -- u is queued on m
  abbrev pub requeued : System
  requeued = record {
    words = set_word x.words m (mark_word word_before);
    kernel = kernel_after_queueing u m word_before.number (without_parking u x.kernel);
  }

  -- u is woken to lock m itself
  abbrev pub woken_again : System
  woken_again = record x { kernel = kernel_after_waking u WokenAgain x.kernel }

  -- a property of the system after, from its three cases
  pub taking-cases : (P : System → Type 0)
      → (word_before.number ≡ 0 → P owned)
      → (word_before.number ≢ 0 → may_queue u word_before.number x.kernel ≡ true → P requeued)
      → (word_before.number ≢ 0 → may_queue u word_before.number x.kernel ≡ false → P woken_again)
      → P (after_taking u m x)
  unfolding after_taking
  taking-cases P none queue again =
      by_test (λ b. P (if b then owned else
      (if may_queue u word_before.number x.kernel then requeued else woken_again)))
      (word_before.number == 0)
      (λ e. none (eqb-true word_before.number 0 e))
      (λ e. by_test (λ b. P (if b then requeued else woken_again)) (may_queue u word_before.number x.kernel)
      (queue (eqb-false word_before.number 0 e)) (again (eqb-false word_before.number 0 e)))

-- who may queue behind n: n lives, and no chain leads from n to u
pub may_queue-facts : (u n : ℕ) (k : Kernel) → may_queue u n k ≡ true
    → (is_living k n ≡ true) × (reaches_within (length k.seats) (waits_for k) n u ≡ false)
may_queue-facts u n k e = go (is_living k n) (reaches_within (length k.seats) (waits_for k) n u) e
  where
    go : (a b : Bool) → (if a then (if b then false else true) else false) ≡ true → (a ≡ true) × (b ≡ false)
    go true true e = absurd (true≢false (sym e))
    go true false e = (refl, refl)
    go false b e = absurd (true≢false (sym e))

-- word and owner state of m fit together: if there is an owner state, the word has a number, and if that is of a
-- living thread, the owner state names it
pub record FitsState (m : ℕ) (x : System) : Type 0 where
  pub some : state_at x.kernel m ≢ 0 → (word_at x.words m).number ≢ 0
  pub owner : state_at x.kernel m ≢ 0 → is_living x.kernel (word_at x.words m).number ≡ true
      → state_at x.kernel m ≡ (word_at x.words m).number

-- the same by the test of the call
pub fits-from_test : (m : ℕ) (x : System)
    → fits_state (word_at x.words m).number (state_at x.kernel m) x.kernel ≡ true → FitsState m x
fits-from_test m x e = record {
  some = λ d z. (go (state_at x.kernel m == 0) ((word_at x.words m).number == 0)
      (is_living x.kernel (word_at x.words m).number) refl refl refl e d).0 z;
  owner = λ d l. (go (state_at x.kernel m == 0) ((word_at x.words m).number == 0)
      (is_living x.kernel (word_at x.words m).number) refl refl refl e d).1 l;
}
  where
    go : (a b c : Bool) → (state_at x.kernel m == 0) ≡ a → ((word_at x.words m).number == 0) ≡ b
        → is_living x.kernel (word_at x.words m).number ≡ c
        → (if a then true else (if b then false else
        (if c then state_at x.kernel m == (word_at x.words m).number else true))) ≡ true
        → state_at x.kernel m ≢ 0
        → ((word_at x.words m).number ≢ 0) × (is_living x.kernel (word_at x.words m).number ≡ true
        → state_at x.kernel m ≡ (word_at x.words m).number)
    go true b c f g i t d = absurd (d (eqb-true (state_at x.kernel m) 0 f))
    go false true c f g i t d = absurd (true≢false (sym t))
    go false false true f g i t d =
        (eqb-false (word_at x.words m).number 0 g, λ l. eqb-true (state_at x.kernel m) (word_at x.words m).number t)
    go false false false f g i t d =
        (eqb-false (word_at x.words m).number 0 g, λ l. absurd (true≢false (sym l ∙ i)))

-- the number of a word that is marked is what it was
marked_number : (ws : Words) (m : ℕ)
    → (word_at (set_word ws m (mark_word (word_at ws m))) m).number ≡ (word_at ws m).number
marked_number ws m = kept_at (λ (w : Word). w.number) ws.mutexes m (mark_word (word_at ws m)) free_word refl m

module _ (u m c : ℕ) (x : System) (h : IsKernel x.kernel) (was : (seat_at x.kernel u).status ≡ Parked c) where
  -- u was added
  added : has_seat x.kernel u ≡ true
  added = added-from_parked x.kernel h u c was

  -- who lives lives, if u was woken
  pub woken_living : (w : Woken) (v : ℕ) → is_living (kernel_after_waking u w x.kernel) v ≡ is_living x.kernel v
  woken_living w v = λ i. if woken_has u w x.kernel v i then (if ended (cases_eq v u) i then false else true) else false
    where
      ended : (v ≡ u) ⊎ (v ≢ u)
          → has_ended (seat_at (kernel_after_waking u w x.kernel) v).status ≡ has_ended (seat_at x.kernel v).status
      ended (inl e) =
          subst (λ t. has_ended (seat_at (kernel_after_waking u w x.kernel) t).status
          ≡ has_ended (seat_at x.kernel t).status) (sym e)
          (ap (λ (y : Seat). has_ended y.status) (woken_seat_same u w x.kernel added) ∙ sym (ap has_ended was))
      ended (inr d) = ap (λ (y : Seat). has_ended y.status) (woken_seat_other u w x.kernel v d)

  module _ (some : m ≢ 0) (few : m < 1025) (fits : FitsState m x) where
    -- it is a kernel
    pub taking_kept : IsKernel (after_taking u m x).kernel
    taking_kept = taking-cases u m x (λ y. IsKernel y.kernel)
        (λ e. kernel-woken u WokenOwns x.kernel h c was)
        (λ d e. let r = may_queue-facts u (word_at x.words m).number x.kernel e in
        kernel-requeued u m (word_at x.words m).number x.kernel h c was some few
        (living-added x.kernel (word_at x.words m).number r.0) (λ z. fits.owner z r.0) r.1)
        (λ d e. kernel-woken u WokenAgain x.kernel h c was)

    -- word and owner state fit together
    pub taking_fits : FitsState m (after_taking u m x)
    taking_fits = taking-cases u m x (FitsState m)
        (λ e. record {
          some = λ z. absurd (fits.some (was_state WokenOwns z) e);
          owner = λ z l. absurd (fits.some (was_state WokenOwns z) e);
        })
        (λ d e. record {
          some = λ z y. d (sym (marked_number x.words m) ∙ y);
          owner = λ z l. requeued_state_same u m (word_at x.words m).number x.kernel h few
              ∙ sym (marked_number x.words m);
        })
        (λ d e. record {
          some = λ z y. d y;
          owner = λ z l. woken_state u WokenAgain x.kernel m ∙ fits.owner (was_state WokenAgain z)
              (sym (woken_living WokenAgain (word_at x.words m).number) ∙ l);
        })
      where
        was_state : (w : Woken) → state_at (kernel_after_waking u w x.kernel) m ≢ 0 → state_at x.kernel m ≢ 0
        was_state w z e = z (woken_state u w x.kernel m ∙ e)

-- ALL OF THEM

-- none is left to be taken
pub takings-none : (n c m : ℕ) (x : System) → has_parked x.kernel c ≡ false → after_takings n c m x ≡ x
unfolding after_takings
takings-none zero c m x e = refl
takings-none (suc n) c m x e =
    ap (λ b. elim b [ true ↦ after_takings n c m (after_taking (top_parked x.kernel c) m x) | false ↦ x ]) e

-- the next one, and then the rest
pub takings-more : (n c m : ℕ) (x : System) → has_parked x.kernel c ≡ true
    → after_takings (suc n) c m x ≡ after_takings n c m (after_taking (top_parked x.kernel c) m x)
unfolding after_takings
takings-more n c m x e =
    ap (λ b. elim b [ true ↦ after_takings n c m (after_taking (top_parked x.kernel c) m x) | false ↦ x ]) e

-- what each keeps, all keep
pub takings-keep : (P : System → Type 0) (c m : ℕ)
    → ((x : System) → has_parked x.kernel c ≡ true → P x → P (after_taking (top_parked x.kernel c) m x))
    → (n : ℕ) (x : System) → P x → P (after_takings n c m x)
unfolding after_takings
takings-keep P c m step zero x h = h
takings-keep P c m step (suc n) x h = go (takings-keep P c m step n) (cases_Bool (has_parked x.kernel c))
  where
    go : ((y : System) → P y → P (after_takings n c m y))
        → (has_parked x.kernel c ≡ true) ⊎ (has_parked x.kernel c ≡ false) → P (after_takings (suc n) c m x)
    go ih (inl e) = subst P (sym (takings-more n c m x e)) (ih (after_taking (top_parked x.kernel c) m x) (step x e h))
    go ih (inr e) = subst P (sym (takings-none (suc n) c m x e)) h
