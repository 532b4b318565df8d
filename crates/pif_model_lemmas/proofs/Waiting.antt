-- What queueing and leaving a queue do to who waits where, and what the kernel's waiting has in common with that of the
-- POSIX machine.
use Rattle.std.proofs.Common.{◌≡◌, ◌≢◌, ℕ, Bool, true, false, cond, ◌||◌, ◌==◌, eqb, List, [], ◌∷◌, ◌++◌, map, refl, sym, ap, ◌∙◌, subst, if◌then◌else◌, eqb-true, eq-eqb, ne_eqb, true≢false}
use Rattle.std.specs.List.{list_any, IsDistinct, AllByRecursion}
use Rattle.std.proofs.lemmas.Bool.{eqb-false, or_parts, or_from}
use Rattle.std.proofs.lemmas.List.Folds.{list_any-append}
use Rattle.std.proofs.lemmas.Map.Made.{IsDistinct-keys_filter}
use Rattle.pif_model.specs.Graph.{waited_by, has_waiter, without, next_waiter, IsNextWaiter}
use Rattle.pif_model_lemmas.proofs.Next.{next_is_next}

-- a property of a test's value from its two cases, each with its equation
pub by_test : (P : Bool → Type 0) (b : Bool) → (b ≡ true → P true) → (b ≡ false → P false) → P b
by_test P true h k = h refl
by_test P false h k = k refl

-- whether u stands in a list of pairs
abbrev pub names : ℕ → List (ℕ × ℕ) → Bool
names u ws = list_any (λ (w : ℕ × ℕ). w.0 == u) ws

-- whether u stands in a list of pairs with m
abbrev pub pairs : ℕ → ℕ → List (ℕ × ℕ) → Bool
pairs u m ws = list_any (λ (w : ℕ × ℕ). if w.0 == u then w.1 == m else false) ws

-- no thread stands twice in a list of pairs
abbrev pub Once : List (ℕ × ℕ) → Type 0
Once ws = IsDistinct eqb (map (λ (w : ℕ × ℕ). w.0) ws)

-- WHO WAITS

-- if nobody waits for 0, who waits for 0 is nowhere in the queue
pub unnamed-from_0 : (ws : List (ℕ × ℕ)) (u : ℕ) → has_waiter ws 0 ≡ false → waited_by ws u ≡ 0 → names u ws ≡ false
unfolding waited_by
unnamed-from_0 [] u h e = refl
unnamed-from_0 (w ∷ ws) u h e =
    let p = or_parts (w.1 == 0) (has_waiter ws 0) h in
    let ih = unnamed-from_0 ws u p.1 in
    step (w.0 == u) e ih
  where
    step : (b : Bool) → (if b then w.1 else waited_by ws u) ≡ 0 → (waited_by ws u ≡ 0 → names u ws ≡ false) → (b || names u ws) ≡ false
    step true e ih = absurd (eqb-false w.1 0 (or_parts (w.1 == 0) (has_waiter ws 0) h).0 e)
    step false e ih = ih e

-- who waits for a mutex is among its waiters
pub paired-from_waited : (ws : List (ℕ × ℕ)) (u m : ℕ) → m ≢ 0 → waited_by ws u ≡ m → pairs u m ws ≡ true
unfolding waited_by
paired-from_waited [] u m n e = absurd (n (sym e))
paired-from_waited (w ∷ ws) u m n e = step (w.0 == u) e (paired-from_waited ws u m n)
  where
    step : (b : Bool) → (if b then w.1 else waited_by ws u) ≡ m → (waited_by ws u ≡ m → pairs u m ws ≡ true) → ((if b then w.1 == m else false) || pairs u m ws) ≡ true
    step true e ih = rw (eq-eqb w.1 m e) refl
    step false e ih = ih e

-- an `or` with its parts the other way round
pub or_true : (a : Bool) → (a || true) ≡ true
or_true true = refl
or_true false = refl

-- an `or` with false on its right
pub or_false : (a : Bool) → (a || false) ≡ a
or_false true = refl
or_false false = refl

-- two tests of equality in either order
eqb_flip : (a b : ℕ) → (a == b) ≡ (b == a)
eqb_flip a b = by_test (λ x. x ≡ (b == a)) (a == b) (λ e. sym (eq-eqb b a (sym (eqb-true a b e)))) (λ e. sym (ne_eqb b a (λ h. eqb-false a b e (sym h))))

-- a mutex for which one waits has a waiter
pub has_waiter-from_pair : (ws : List (ℕ × ℕ)) (u m : ℕ) → pairs u m ws ≡ true → has_waiter ws m ≡ true
has_waiter-from_pair [] u m h = h
has_waiter-from_pair (w ∷ ws) u m h = step (w.0 == u) (w.1 == m) (has_waiter-from_pair ws u m) h
  where
    step : (a b : Bool) → (pairs u m ws ≡ true → has_waiter ws m ≡ true) → ((if a then b else false) || pairs u m ws) ≡ true → (b || has_waiter ws m) ≡ true
    step a true ih h = refl
    step true false ih h = ih h
    step false false ih h = ih h

-- who waits for a mutex stands in the queue
pub named-from_pair : (ws : List (ℕ × ℕ)) (u m : ℕ) → pairs u m ws ≡ true → names u ws ≡ true
named-from_pair [] u m h = h
named-from_pair (w ∷ ws) u m h = step (w.0 == u) (w.1 == m) (named-from_pair ws u m) h
  where
    step : (a b : Bool) → (pairs u m ws ≡ true → names u ws ≡ true) → ((if a then b else false) || pairs u m ws) ≡ true → (a || names u ws) ≡ true
    step true b ih h = refl
    step false b ih h = ih h

-- who stands in the queue waits for a mutex
pub pair-from_named : (ws : List (ℕ × ℕ)) (u : ℕ) → names u ws ≡ true → (m : ℕ) × (pairs u m ws ≡ true)
pair-from_named [] u h = absurd (true≢false (sym h))
pair-from_named (w ∷ ws) u h = step (w.0 == u) refl h (pair-from_named ws u)
  where
    step : (b : Bool) → (w.0 == u) ≡ b → (b || names u ws) ≡ true
        → (names u ws ≡ true → (m : ℕ) × (pairs u m ws ≡ true)) → (m : ℕ) × (pairs u m (w ∷ ws) ≡ true)
    step true e h ih = (w.1, rw e (rw (eq-eqb w.1 w.1 refl) refl))
    step false e h ih = let r = ih h in (r.0, rw e r.1)

-- ONCE

-- a list's first thread stands nowhere else in it
pub once_head : (w : ℕ × ℕ) (ws : List (ℕ × ℕ)) → Once (w ∷ ws) → names w.0 ws ≡ false
unfolding IsDistinct
once_head w [] h = refl
once_head w (x ∷ xs) h = or_from (x.0 == w.0) (names w.0 xs) (eqb_flip x.0 w.0 ∙ h.0.0) (once_head w xs (h.0.1, h.1.1))

-- a list's rest
pub once_tail : (w : ℕ × ℕ) (ws : List (ℕ × ℕ)) → Once (w ∷ ws) → Once ws
unfolding IsDistinct
once_tail w ws h = h.1

-- who stands nowhere in a list differs from each in it
apart : (u : ℕ) (ws : List (ℕ × ℕ)) → names u ws ≡ false → AllByRecursion (λ y. eqb u y ≡ false) (map (λ (w : ℕ × ℕ). w.0) ws)
apart u [] h = tt
apart u (x ∷ xs) h =
    let p = or_parts (x.0 == u) (names u xs) h in
    (eqb_flip u x.0 ∙ p.0, apart u xs p.1)

-- one that stands nowhere in a list may stand before it
pub once_cons : (w : ℕ × ℕ) (ws : List (ℕ × ℕ)) → names w.0 ws ≡ false → Once ws → Once (w ∷ ws)
unfolding IsDistinct
once_cons w ws h o = (apart w.0 ws h, o)

-- who joins a list in which it doesn't stand stands in it once
pub once_push : (ws : List (ℕ × ℕ)) (w : ℕ × ℕ) → names w.0 ws ≡ false → Once ws → Once (ws ++ w ∷ [])
once_push [] w h o = once_cons w [] refl o
once_push (x ∷ xs) w h o =
    let p = or_parts (x.0 == w.0) (names w.0 xs) h in
    once_cons x (xs ++ w ∷ [])
    (list_any-append (λ (v : ℕ × ℕ). v.0 == x.0) xs (w ∷ []) ∙ or_from (names x.0 xs) (names x.0 (w ∷ [])) (once_head x xs o) (or_from (w.0 == x.0) false (eqb_flip w.0 x.0 ∙ p.0) refl))
    (once_push xs w p.1 (once_tail x xs o))

-- who leaves a list leaves the others once
pub once_without : (ws : List (ℕ × ℕ)) (u : ℕ) → Once ws → Once (without ws u)
once_without ws u o = IsDistinct-keys_filter eqb (λ w. if w.0 == u then false else true) ws o

-- who stands once in the queue waits for the mutex with which it stands there
pub waited-from_pair : (ws : List (ℕ × ℕ)) (u m : ℕ) → Once ws → pairs u m ws ≡ true → waited_by ws u ≡ m
unfolding waited_by
waited-from_pair [] u m o h = absurd (true≢false (sym h))
waited-from_pair (w ∷ ws) u m o h =
    by_test (λ b. ((if b then w.1 == m else false) || pairs u m ws) ≡ true → (if b then w.1 else waited_by ws u) ≡ m) (w.0 == u)
    (λ e h. by_test (λ c. c ≡ true → w.1 ≡ m) (w.1 == m) (λ k x. eqb-true w.1 m k) (λ k x. absurd (true≢false (sym x)))
    (sym (or_false (w.1 == m)) ∙ ap (λ x. (w.1 == m) || x) (sym (unpaired e)) ∙ h))
    (λ e h. waited-from_pair ws u m (once_tail w ws o) h)
    h
  where
    unpaired : (w.0 == u) ≡ true → pairs u m ws ≡ false
    unpaired e = by_test (λ b. pairs u m ws ≡ b → b ≡ false) (pairs u m ws) (λ k x. absurd (true≢false (sym (named-from_pair ws u m k) ∙ subst (λ x. names x ws ≡ false) (eqb-true w.0 u e) (once_head w ws o)))) (λ k x. refl) refl

-- LEAVING THE QUEUE

-- a list without u, at its first
pub without-first : (P : List (ℕ × ℕ) → Type 0) (w : ℕ × ℕ) (ws : List (ℕ × ℕ)) (u : ℕ) → (w.0 ≡ u → P (without ws u)) → (w.0 ≢ u → P (w ∷ without ws u)) → P (without (w ∷ ws) u)
without-first P w ws u h k = by_test (λ b. P (cond (cond b false true) (w ∷ without ws u) (without ws u))) (w.0 == u) (λ e. h (eqb-true w.0 u e)) (λ e. k (eqb-false w.0 u e))

-- the others stay
pub named-without_other : (ws : List (ℕ × ℕ)) (u v : ℕ) → v ≢ u → names v (without ws u) ≡ names v ws
named-without_other [] u v n = refl
named-without_other (w ∷ ws) u v n =
    without-first (λ x. names v x ≡ ((w.0 == v) || names v ws)) w ws u
    (λ e. rw (ne_eqb w.0 v (λ h. n (sym h ∙ e))) (named-without_other ws u v n))
    (λ e. ap (λ x. (w.0 == v) || x) (named-without_other ws u v n))

-- u is gone
pub named-without_same : (ws : List (ℕ × ℕ)) (u : ℕ) → names u (without ws u) ≡ false
named-without_same [] u = refl
named-without_same (w ∷ ws) u =
    without-first (λ x. names u x ≡ false) w ws u
    (λ e. named-without_same ws u)
    (λ e. or_from (w.0 == u) (names u (without ws u)) (ne_eqb w.0 u e) (named-without_same ws u))

-- a mutex for which nobody waits has no waiter afterwards
pub has_waiter-without_none : (ws : List (ℕ × ℕ)) (u k : ℕ) → has_waiter ws k ≡ false → has_waiter (without ws u) k ≡ false
has_waiter-without_none [] u k h = refl
has_waiter-without_none (w ∷ ws) u k h =
    let p = or_parts (w.1 == k) (has_waiter ws k) h in
    without-first (λ x. has_waiter x k ≡ false) w ws u
    (λ e. has_waiter-without_none ws u k p.1)
    (λ e. or_from (w.1 == k) (has_waiter (without ws u) k) p.0 (has_waiter-without_none ws u k p.1))

-- a list in which u doesn't stand
pub without-unnamed : (ws : List (ℕ × ℕ)) (u : ℕ) → names u ws ≡ false → without ws u ≡ ws
without-unnamed [] u h = refl
without-unnamed (w ∷ ws) u h =
    let p = or_parts (w.0 == u) (names u ws) h in
    without-first (λ x. x ≡ w ∷ ws) w ws u
    (λ e. absurd (eqb-false w.0 u p.0 e))
    (λ e. ap (λ x. w ∷ x) (without-unnamed ws u p.1))

-- the mutexes for which u doesn't wait keep their waiters
pub has_waiter-without_other : (ws : List (ℕ × ℕ)) (u m k : ℕ) → Once ws → waited_by ws u ≡ m → k ≢ m → has_waiter (without ws u) k ≡ has_waiter ws k
unfolding waited_by
has_waiter-without_other [] u m k o h n = refl
has_waiter-without_other (w ∷ ws) u m k o h n =
    without-first (λ x. has_waiter x k ≡ ((w.1 == k) || has_waiter ws k)) w ws u
    (λ e. let f : w.1 ≡ m = sym (rw (eq-eqb w.0 u e) refl) ∙ h in
    rw (ne_eqb w.1 k (λ q. n (sym q ∙ f))) (ap (λ x. has_waiter x k) (without-unnamed ws u (subst (λ x. names x ws ≡ false) e (once_head w ws o)))))
    (λ e. ap (λ x. (w.1 == k) || x) (has_waiter-without_other ws u m k (once_tail w ws o) (sym (rw (ne_eqb w.0 u e) refl) ∙ h) n))

-- JOINING THE QUEUE

-- who joins for m makes m a mutex with waiters, and no other
pub has_waiter-push : (ws : List (ℕ × ℕ)) (t m k : ℕ) → has_waiter (ws ++ (t, m) ∷ []) k ≡ (has_waiter ws k || (m == k))
has_waiter-push ws t m k = list_any-append (λ (w : ℕ × ℕ). w.1 == k) ws ((t, m) ∷ []) ∙ ap (λ x. has_waiter ws k || x) (or_false (m == k))

-- who joins stands in the list, and the others as before
pub named-push : (ws : List (ℕ × ℕ)) (t m u : ℕ) → names u (ws ++ (t, m) ∷ []) ≡ (names u ws || (t == u))
named-push ws t m u = list_any-append (λ (w : ℕ × ℕ). w.0 == u) ws ((t, m) ∷ []) ∙ ap (λ x. names u ws || x) (or_false (t == u))

-- THE NEXT WAITER

-- the next waiter of a mutex that has one is among its waiters
pub next-is_waiter : (f : ℕ → ℕ) (ws : List (ℕ × ℕ)) (m : ℕ) → has_waiter ws m ≡ true → pairs (next_waiter f ws m) m ws ≡ true
next-is_waiter f ws m h = go (next_waiter f ws m) (next_is_next f ws m h)
  where
    go : (u : ℕ) → IsNextWaiter f ws m u → pairs u m ws ≡ true
    go u n = ap (pairs u m) n.place
        ∙ list_any-append (λ (w : ℕ × ℕ). if w.0 == u then w.1 == m else false) n.earlier ((u, m) ∷ n.later)
        ∙ rw (eq-eqb u u refl, eq-eqb m m refl) (or_true (pairs u m n.earlier))
