-- The mutexes of a thread that has ended pass on: the cases of one, and which threads stay as they were.
use Rattle.std.proofs.Common.{◌≡◌, ◌≢◌, ℕ, Bool, true, false, ◌==◌, List, [], ◌∷◌, refl, sym, ap, ◌∙◌, if◌then◌else◌, eqb-true, eq-eqb, ne_eqb}
use Rattle.std.proofs.lemmas.Bool.{eqb-false}
use Rattle.pif_model.specs.declared.lines.Status.TheVariants.{Queued, Ended}
use Rattle.pif_model.specs.Word.{orphan_word, inherit_word, word_at, has_word, set_word}
use Rattle.pif_model.specs.PiKernel.{Seat, System, IsKernel, seat_at, state_at, next_in, kernel_after_hand_over, after_death, after_deaths}
use Rattle.pif_model_lemmas.proofs.kernel.Facts.{next-queued}
use Rattle.pif_model_lemmas.proofs.kernel.Places.{handed_seat_other}

-- ONE MUTEX

module _ (t m : ℕ) (x : System) where
  -- m without an owner
  abbrev pub orphaned : System
  orphaned = record x { words = set_word x.words m (orphan_word (word_at x.words m)) }

  -- m handed to its next waiter
  abbrev pub inherited : System
  inherited = record {
    words = set_word x.words m (inherit_word (next_in x.kernel m));
    kernel = kernel_after_hand_over (next_in x.kernel m) m x.kernel;
  }

  -- a property of the system after, from its three cases
  pub death-cases : (P : System → Type 0) → P x
      → (has_word x.words m ≡ true → (word_at x.words m).number ≡ t → state_at x.kernel m ≡ 0 → P orphaned)
      → (has_word x.words m ≡ true → (word_at x.words m).number ≡ t → state_at x.kernel m ≢ 0
      → state_at x.kernel m ≡ t → P inherited)
      → P (after_death t m x)
  unfolding after_death
  death-cases P same none next =
      go (has_word x.words m) ((word_at x.words m).number == t) (state_at x.kernel m == 0) (state_at x.kernel m == t)
      refl refl refl refl
    where
      go : (known own empty ours : Bool) → has_word x.words m ≡ known → ((word_at x.words m).number == t) ≡ own
          → (state_at x.kernel m == 0) ≡ empty → (state_at x.kernel m == t) ≡ ours
          → P (if (if known then own else false)
          then (if empty then orphaned else (if ours then inherited else x)) else x)
      go true true true ours e f g h = none e (eqb-true _ _ f) (eqb-true _ _ g)
      go true true false true e f g h = next e (eqb-true _ _ f) (eqb-false _ _ g) (eqb-true _ _ h)
      go true true false false e f g h = same
      go true false empty ours e f g h = same
      go false own empty ours e f g h = same

  -- without a word nothing changes
  pub death-no_word : has_word x.words m ≡ false → after_death t m x ≡ x
  unfolding after_death
  death-no_word e = rw e refl

  -- nor if the word has the number of another
  pub death-other_number : (word_at x.words m).number ≢ t → after_death t m x ≡ x
  death-other_number d = death-cases (λ y. y ≡ x) refl (λ e f g. absurd (d f)) (λ e f g h. absurd (d f))

  -- nor if the owner state names another
  pub death-other_owner : state_at x.kernel m ≢ 0 → state_at x.kernel m ≢ t → after_death t m x ≡ x
  death-other_owner some d = death-cases (λ y. y ≡ x) refl (λ e f g. absurd (some g)) (λ e f g h. absurd (d h))

  -- without an owner state it has no owner
  pub death-orphaned : has_word x.words m ≡ true → (word_at x.words m).number ≡ t → state_at x.kernel m ≡ 0
      → after_death t m x ≡ orphaned
  unfolding after_death
  death-orphaned e f g = rw (e, eq-eqb (word_at x.words m).number t f, eq-eqb (state_at x.kernel m) 0 g) refl

  -- with one of t it is handed to its next waiter
  pub death-inherited : has_word x.words m ≡ true → (word_at x.words m).number ≡ t → state_at x.kernel m ≢ 0
      → state_at x.kernel m ≡ t → after_death t m x ≡ inherited
  unfolding after_death
  death-inherited e f d g =
      rw (e, eq-eqb (word_at x.words m).number t f, ne_eqb (state_at x.kernel m) 0 d, eq-eqb (state_at x.kernel m) t g)
      refl

-- ALL OF THEM

-- none
pub deaths-none : (t : ℕ) (x : System) → after_deaths t [] x ≡ x
unfolding after_deaths
deaths-none t x = refl

-- the first, and then the rest
pub deaths-more : (t m : ℕ) (ms : List ℕ) (x : System)
    → after_deaths t (m ∷ ms) x ≡ after_deaths t ms (after_death t m x)
unfolding after_deaths
deaths-more t m ms x = refl

-- WHAT STAYS

-- which threads are as they were after one
module _ (t m : ℕ) (x : System) where
  -- the system after
  abbrev later : System
  later = after_death t m x

  module _ (h : IsKernel x.kernel) where
    -- who is not queued on m is as it was
    pub death-seat_other : (u : ℕ) → (seat_at x.kernel u).status ≢ Queued m
        → seat_at later.kernel u ≡ seat_at x.kernel u
    death-seat_other u n = death-cases t m x (λ y. seat_at y.kernel u ≡ seat_at x.kernel u) refl (λ e f g. refl)
        (λ e f d g. handed_seat_other (next_in x.kernel m) m x.kernel u
        (λ z. n (ap (λ v. (seat_at x.kernel v).status) z ∙ next-queued x.kernel h m d)))

    -- who has ended has ended
    pub death-ended : (u : ℕ) → (seat_at x.kernel u).status ≡ Ended → (seat_at later.kernel u).status ≡ Ended
    death-ended u e =
        ap (λ (y : Seat). y.status)
        (death-seat_other u (λ q. let both : Ended ≡ Queued m = sym e ∙ q in absurd (cc))) ∙ e
