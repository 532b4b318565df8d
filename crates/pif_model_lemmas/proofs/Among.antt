-- Who is among the waiters of a mutex: by membership in the list of pairs of a waiter and its mutex.
use Rattle.std.proofs.Common.{◌≡◌, ◌≢◌, ◌⊎◌, ℕ, Bool, true, false, ◌==◌, List, [], ◌∷◌, ◌++◌, refl, arith, if◌then◌else◌}
use Rattle.std.specs.List.{list_any}
use Rattle.std.proofs.lemmas.Bool.Decides.{nat_tests}
use Rattle.pif_model.specs.Graph.{without, first_greatest, waiters_with, next_waiter}

-- u is among the waiters of m
abbrev pub is_among : List (ℕ × ℕ) → ℕ → ℕ → Bool
is_among ws u m = list_any (λ p. if p.0 == u then p.1 == m else false) ws

-- the head, or one of the rest
pub is_among_cons : (p : ℕ × ℕ) (ws : List (ℕ × ℕ)) (u m : ℕ) → is_among (p ∷ ws) u m ≡ true → ((p.0 ≡ u) × (p.1 ≡ m)) ⊎ (is_among ws u m ≡ true)
is_among_cons p ws u m h = grind (arith, nat_tests)

-- the head is among them
pub is_among_here : (p : ℕ × ℕ) (ws : List (ℕ × ℕ)) (u m : ℕ) → p.0 ≡ u → p.1 ≡ m → is_among (p ∷ ws) u m ≡ true
is_among_here p ws u m a b = grind (arith, nat_tests)

-- the rest stay among them
pub is_among_there : (p : ℕ × ℕ) (ws : List (ℕ × ℕ)) (u m : ℕ) → is_among ws u m ≡ true → is_among (p ∷ ws) u m ≡ true
is_among_there p ws u m h = grind (arith, nat_tests)

-- who is among the others was there before, and is another
pub is_among-without : (ws : List (ℕ × ℕ)) (t u m : ℕ) → is_among (without ws t) u m ≡ true → (is_among ws u m ≡ true) × (u ≢ t)
is_among-without [] t u m h = grind arith
is_among-without (p ∷ ws) t u m h = step (without ws t) refl (is_among-without ws t u m)
  where
    step : (rest : List (ℕ × ℕ)) → without ws t ≡ rest → (is_among (without ws t) u m ≡ true → (is_among ws u m ≡ true) × (u ≢ t)) → (is_among (p ∷ ws) u m ≡ true) × (u ≢ t)
    step rest e ih = grind (arith, nat_tests, h, ih)

-- who is among them after one more was there before, or is that one
pub is_among_push : (ws : List (ℕ × ℕ)) (t n u m : ℕ) → is_among (ws ++ (t, n) ∷ []) u m ≡ true → (is_among ws u m ≡ true) ⊎ ((t ≡ u) × (n ≡ m))
is_among_push [] t n u m h = grind (arith, nat_tests)
is_among_push (p ∷ ws) t n u m h = grind (arith, nat_tests, h, is_among_push ws t n u m)

-- of pairs each of which is (t, p) for a waiter t of m, the first of greatest priority is such a pair, if it isn't 0
first_is_among : (effective : ℕ → ℕ) (ws : List (ℕ × ℕ)) (m u : ℕ) → (first_greatest (waiters_with effective ws m)).0 ≡ u → u ≢ 0 → is_among ws u m ≡ true
unfolding first_greatest
first_is_among effective [] m u e h = grind arith
first_is_among effective (p ∷ ws) m u e h = grind (arith, nat_tests, first_is_among effective ws m u)

-- the next waiter of m is among its waiters
pub next_is_among : (effective : ℕ → ℕ) (ws : List (ℕ × ℕ)) (m u : ℕ) → next_waiter effective ws m ≡ u → u ≢ 0 → is_among ws u m ≡ true
unfolding next_waiter
next_is_among effective ws m u e h = first_is_among effective ws m u e h
