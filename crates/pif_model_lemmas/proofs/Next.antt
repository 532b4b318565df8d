-- The law that the next waiter is the next: the first in arrival among the waiters of greatest effective priority.
use Rattle.std.proofs.Common.{◌≡◌, ◌≢◌, ◌⊎◌, ◌<◌, ◌≤◌, ℕ, true, false, nat_lt, List, [], ◌∷◌, refl, ap, inl, inr, arith}
use Rattle.std.proofs.lemmas.Bool.{cases_Bool, cases_eq, cond_both, ltb-true, ltb-false}
use Rattle.std.proofs.lemmas.Bool.Decides.{nat_tests}
use Rattle.pif_model.specs.Graph.{has_waiter, first_greatest, waiters_with, next_waiter, IsNextWaiter}
use Rattle.pif_model_lemmas.proofs.Among.{is_among, is_among_cons}

module _ (effective : ℕ → ℕ) where
  -- what the head adds to the waiters of m, if it is one
  waiters_with_yes : (w : ℕ × ℕ) (ws : List (ℕ × ℕ)) (m : ℕ) → w.1 ≡ m → waiters_with effective (w ∷ ws) m ≡ (w.0, effective w.0) ∷ waiters_with effective ws m
  waiters_with_yes w ws m e = grind (arith, nat_tests)

  -- and if it is none
  waiters_with_no : (w : ℕ × ℕ) (ws : List (ℕ × ℕ)) (m : ℕ) → w.1 ≢ m → waiters_with effective (w ∷ ws) m ≡ waiters_with effective ws m
  waiters_with_no w ws m e = grind (arith, nat_tests)

  -- if nobody waits for m, its waiters are none
  waiters_with_none : (ws : List (ℕ × ℕ)) (m : ℕ) → has_waiter ws m ≡ false → waiters_with effective ws m ≡ []
  waiters_with_none [] m h = refl
  waiters_with_none (w ∷ ws) m h = grind (arith, nat_tests, waiters_with_none ws m, waiters_with_no w ws m)

  -- no waiter of m is above the first greatest
  greatest_above : (ws : List (ℕ × ℕ)) (m v : ℕ) → is_among ws v m ≡ true → effective v ≤ (first_greatest (waiters_with effective ws m)).1
  unfolding first_greatest
  greatest_above [] m v h = grind arith
  greatest_above (w ∷ ws) m v h = grind (arith, nat_tests, greatest_above ws m v, h)

  -- the first greatest stands with its effective priority
  greatest_own : (ws : List (ℕ × ℕ)) (m : ℕ) → has_waiter ws m ≡ true
      → (first_greatest (waiters_with effective ws m)).1 ≡ effective (first_greatest (waiters_with effective ws m)).0
  unfolding first_greatest
  greatest_own [] m h = grind arith
  greatest_own (w ∷ ws) m h = grind (arith, nat_tests, greatest_own ws m, waiters_with_none ws m, h)

  -- the next waiter, one pair further: the head is no waiter of m, or a lower one
  next_further : (w : ℕ × ℕ) (ws : List (ℕ × ℕ)) (m u : ℕ) → (w.1 ≡ m → effective w.0 < effective u) → IsNextWaiter effective ws m u → IsNextWaiter effective (w ∷ ws) m u
  next_further w ws m u lower next =
      record {
        earlier = w ∷ next.earlier;
        later = next.later;
        place = ap (λ (l : List (ℕ × ℕ)). w ∷ l) next.place;
        above_earlier = λ v h. by_place v (is_among_cons w next.earlier v m h);
        above_later = next.above_later;
      }
    where
      by_place : (v : ℕ) → ((w.0 ≡ v) × (w.1 ≡ m)) ⊎ (is_among next.earlier v m ≡ true) → effective v < effective u
      by_place v (inl e) = grind (arith, lower e.1, e.0)
      by_place v (inr h) = next.above_earlier v h

  -- the head is the next waiter
  next_here : (w : ℕ × ℕ) (ws : List (ℕ × ℕ)) (m : ℕ) → w.1 ≡ m → ((v : ℕ) → is_among ws v m ≡ true → effective v ≤ effective w.0) → IsNextWaiter effective (w ∷ ws) m w.0
  next_here w ws m e above =
      record {
        earlier = [];
        later = ws;
        place = ap (λ (n : ℕ). (w.0, n) ∷ ws) e;
        above_earlier = λ v h. grind arith;
        above_later = above;
      }

  -- the first of one more pair is the next
  first_step : (w : ℕ × ℕ) (ws : List (ℕ × ℕ)) (m : ℕ) → w.1 ≡ m
      → (has_waiter ws m ≡ true → IsNextWaiter effective ws m (first_greatest (waiters_with effective ws m)).0)
      → IsNextWaiter effective (w ∷ ws) m (first_greatest ((w.0, effective w.0) ∷ waiters_with effective ws m)).0
  unfolding first_greatest
  first_step w ws m e ih =
      cond_both (nat_lt (effective w.0) (first_greatest (waiters_with effective ws m)).1) (first_greatest (waiters_with effective ws m)) (w.0, effective w.0)
      (λ (x : ℕ × ℕ). IsNextWaiter effective (w ∷ ws) m x.0)
      (λ y. rest_is y (cases_Bool (has_waiter ws m)))
      (λ n. next_here w ws m e (λ v h. omega (arith, greatest_above ws m v h, ltb-false (effective w.0) (first_greatest (waiters_with effective ws m)).1 n)))
    where
      rest_is : nat_lt (effective w.0) (first_greatest (waiters_with effective ws m)).1 ≡ true → ((has_waiter ws m ≡ true) ⊎ (has_waiter ws m ≡ false))
          → IsNextWaiter effective (w ∷ ws) m (first_greatest (waiters_with effective ws m)).0
      rest_is y (inl h) =
          next_further w ws m (first_greatest (waiters_with effective ws m)).0
          (λ _. omega (arith, greatest_own ws m h, ltb-true (effective w.0) (first_greatest (waiters_with effective ws m)).1 y)) (ih h)
      rest_is y (inr h) =
          absurd (omega (arith, ltb-true (effective w.0) (first_greatest (waiters_with effective ws m)).1 y, ap (λ (l : List (ℕ × ℕ)). (first_greatest l).1) (waiters_with_none ws m h)))

  -- the first of the waiters of m with their priorities is the next
  first_is_next : (ws : List (ℕ × ℕ)) (m : ℕ) → has_waiter ws m ≡ true → IsNextWaiter effective ws m (first_greatest (waiters_with effective ws m)).0
  first_is_next [] m h = grind arith
  first_is_next (w ∷ ws) m h = by_mutex (first_is_next ws m) (cases_eq w.1 m)
    where
      by_mutex : (has_waiter ws m ≡ true → IsNextWaiter effective ws m (first_greatest (waiters_with effective ws m)).0)
          → ((w.1 ≡ m) ⊎ (w.1 ≡ m → ⊥)) → IsNextWaiter effective (w ∷ ws) m (first_greatest (waiters_with effective (w ∷ ws) m)).0
      by_mutex ih (inl e) = rw (waiters_with_yes w ws m e) (first_step w ws m e ih)
      by_mutex ih (inr d) =
          rw (waiters_with_no w ws m d) (next_further w ws m (first_greatest (waiters_with effective ws m)).0 (λ e. absurd (d e)) (ih (grind (arith, nat_tests, h))))

-- the next waiter is the next
pub next_is_next : (effective : ℕ → ℕ) (ws : List (ℕ × ℕ)) (m : ℕ) → has_waiter ws m ≡ true → IsNextWaiter effective ws m (next_waiter effective ws m)
unfolding next_waiter
next_is_next effective ws m h = first_is_next effective ws m h
