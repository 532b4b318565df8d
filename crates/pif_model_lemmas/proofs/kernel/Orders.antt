-- The order in which the waiters of a mutex get it: the next waiter, and then the order of the others. And the order in
-- which ready threads run: the first of the greatest level that has a thread comes first.
use Rattle.std.proofs.Common.{◌≡◌, ◌≢◌, ◌⊎◌, inl, inr, ℕ, zero, suc, ◌<◌, ◌≤◌, Bool, true, false, ◌||◌, ◌==◌, cond, List, [], ◌∷◌, ◌++◌, map, filter, get_or, refl, sym, ap, ◌∙◌, subst, arith, if◌then◌else◌, eq-eqb, ne_eqb, true≢false}
use Rattle.std.proofs.lemmas.Bool.{cases_eq, or_parts}
use Rattle.std.proofs.lemmas.List.{map-append}
use Rattle.std.proofs.lemmas.List.Elements.{filter-append}
use Rattle.std.proofs.lemmas.List.Folds.{list_any-append}
use Rattle.pif_model.specs.Graph.{has_waiter, without, next_waiter, by_greatest, waiting_order, IsNextWaiter}
use Rattle.pif_model.specs.PiKernel.{is_among, level_at, first_from, levels_below}
use Rattle.pif_model_lemmas.proofs.kernel.Numbers.{among-filter}
use Rattle.pif_model_lemmas.proofs.Next.{next_is_next}
use Rattle.pif_model_lemmas.proofs.Waiting.{Once, by_test, names, pairs, or_true, once_head, once_tail, without-first, without-unnamed}

-- THE GREATEST FIRST

module _ (f : ℕ → ℕ) where
  -- those of a list that have n
  abbrev with_value : ℕ → List ℕ → List ℕ
  with_value n us = filter (λ u. f u == n) us

  -- of a list in which all have less, none has n
  none_with : (n : ℕ) (us : List ℕ) → ((v : ℕ) → is_among us v ≡ true → f v < n) → with_value n us ≡ []
  none_with n [] h = refl
  none_with n (u ∷ us) h =
      rw (ne_eqb (f u) n (λ e. less e (h u (ap (λ b. b || is_among us u) (eq-eqb u u refl)))))
      (none_with n us (λ v k. h v (ap (λ b. (u == v) || b) k ∙ or_true (u == v))))
    where
      less : f u ≡ n → f u < n → ⊥
      less e l = omega arith

  -- one who has another value changes nothing
  with_value-other : (n : ℕ) (before after : List ℕ) (u : ℕ) → f u ≢ n
      → with_value n (before ++ u ∷ after) ≡ with_value n (before ++ after)
  with_value-other n before after u d =
      filter-append (λ v. f v == n) before (u ∷ after)
      ∙ rw (ne_eqb (f u) n d) (sym (filter-append (λ v. f v == n) before after))

  -- one who has n comes first if nobody before has it
  with_value-same : (n : ℕ) (before after : List ℕ) (u : ℕ) → f u ≡ n → with_value n before ≡ []
      → with_value n (before ++ u ∷ after) ≡ u ∷ with_value n (before ++ after)
  with_value-same n before after u e none =
      filter-append (λ v. f v == n) before (u ∷ after)
      ∙ rw (none, eq-eqb (f u) n e)
      (ap (λ us. u ∷ us) (sym (filter-append (λ v. f v == n) before after ∙ ap (λ us. us ++ with_value n after) none)))

  -- of none, none is the greatest
  by_greatest-none : (n : ℕ) → by_greatest f n [] ≡ []
  unfolding by_greatest
  by_greatest-none zero = refl
  by_greatest-none (suc n) = by_greatest-none n

  -- who has n or more is not among those below n
  by_greatest-above : (n : ℕ) (before after : List ℕ) (u : ℕ) → n ≤ f u
      → by_greatest f n (before ++ u ∷ after) ≡ by_greatest f n (before ++ after)
  unfolding by_greatest
  by_greatest-above zero before after u h = refl
  by_greatest-above (suc n) before after u h =
      λ i. with_value-other n before after u (λ e. absurd (omega arith)) i
      ++ by_greatest-above n before after u (omega arith) i

  -- who has more than all before, and no less than any after, comes first
  by_greatest-first : (n : ℕ) (before after : List ℕ) (u : ℕ) → f u < n
      → ((v : ℕ) → is_among before v ≡ true → f v < f u) → ((v : ℕ) → is_among after v ≡ true → f v ≤ f u)
      → by_greatest f n (before ++ u ∷ after) ≡ u ∷ by_greatest f n (before ++ after)
  unfolding by_greatest
  by_greatest-first zero before after u h b a = absurd (omega arith)
  by_greatest-first (suc n) before after u h b a = go (cases_eq (f u) n) (by_greatest-first n before after u)
    where
      here : f u ≡ n → with_value n before ≡ []
      here e = none_with n before (λ v k. subst (λ x. f v < x) e (b v k))

      nowhere : f u < n → with_value n (before ++ after) ≡ []
      nowhere l = filter-append (λ v. f v == n) before after
          ∙ (λ i. none_with n before (λ v k. let x = b v k in omega (arith, x, l)) i
          ++ none_with n after (λ v k. let x = a v k in omega (arith, x, l)) i)

      go : (f u ≡ n) ⊎ (f u ≢ n)
          → (f u < n → ((v : ℕ) → is_among before v ≡ true → f v < f u)
          → ((v : ℕ) → is_among after v ≡ true → f v ≤ f u)
          → by_greatest f n (before ++ u ∷ after) ≡ u ∷ by_greatest f n (before ++ after))
          → with_value n (before ++ u ∷ after) ++ by_greatest f n (before ++ u ∷ after)
          ≡ u ∷ with_value n (before ++ after) ++ by_greatest f n (before ++ after)
      go (inl e) ih = λ i. with_value-same n before after u e (here e) i
          ++ by_greatest-above n before after u (omega (arith, e)) i
      go (inr d) ih =
          let l : f u < n = omega (arith, h, d) in
          rw (with_value-other n before after u d, nowhere l) (ih l b a)

  -- who is among the greatest is among them all
  among-by_greatest : (n : ℕ) (us : List ℕ) (u : ℕ) → is_among (by_greatest f n us) u ≡ true → is_among us u ≡ true
  unfolding by_greatest
  among-by_greatest zero us u h = absurd (true≢false (sym h))
  among-by_greatest (suc n) us u h = go (f u == n) (is_among us u) refl
      (sym (list_any-append (λ v. v == u) (with_value n us) (by_greatest f n us)
      ∙ ap (λ b. b || is_among (by_greatest f n us) u) (among-filter (λ v. f v == n) us u)) ∙ h)
      (among-by_greatest n us u)
    where
      go : (a b : Bool) → is_among us u ≡ b
          → ((if a then b else false) || is_among (by_greatest f n us) u) ≡ true
          → (is_among (by_greatest f n us) u ≡ true → is_among us u ≡ true) → is_among us u ≡ true
      go true true e k ih = e
      go true false e k ih = ih k
      go false b e k ih = ih k

-- THE ORDER OF WAITERS

-- the threads that wait for m, in order of arrival
abbrev pub waiting_for : List (ℕ × ℕ) → ℕ → List ℕ
waiting_for ws m = map (λ (w : ℕ × ℕ). w.0) (filter (λ (w : ℕ × ℕ). w.1 == m) ws)

-- who is among them stands in the list with m
among-waiting_for : (ws : List (ℕ × ℕ)) (u m : ℕ) → is_among (waiting_for ws m) u ≡ pairs u m ws
among-waiting_for [] u m = refl
among-waiting_for (w ∷ ws) u m = by_test
    (λ b. is_among (map (λ (v : ℕ × ℕ). v.0) (cond b (w ∷ filter (λ (v : ℕ × ℕ). v.1 == m) ws)
    (filter (λ (v : ℕ × ℕ). v.1 == m) ws))) u
    ≡ ((if w.0 == u then b else false) || pairs u m ws))
    (w.1 == m)
    (λ e. ap (λ b. (w.0 == u) || b) (among-waiting_for ws u m) ∙ ap (λ b. b || pairs u m ws) (kept (w.0 == u)))
    (λ e. among-waiting_for ws u m ∙ ap (λ b. b || pairs u m ws) (gone (w.0 == u)))
  where
    kept : (b : Bool) → b ≡ (if b then true else false)
    kept true = refl
    kept false = refl

    gone : (b : Bool) → false ≡ (if b then false else false)
    gone true = refl
    gone false = refl

-- who stands in the order of the waiters of m stands in the list with m
pub ordered-is_waiter : (f : ℕ → ℕ) (ws : List (ℕ × ℕ)) (u m : ℕ) → is_among (waiting_order f ws m) u ≡ true
    → pairs u m ws ≡ true
ordered-is_waiter f ws u m h = sym (among-waiting_for ws u m) ∙ among-by_greatest f 100 (waiting_for ws m) u h

-- the waiters of two lists, one after the other
waiting_for-append : (before after : List (ℕ × ℕ)) (m : ℕ)
    → waiting_for (before ++ after) m ≡ waiting_for before m ++ waiting_for after m
waiting_for-append before after m =
    ap (map (λ (w : ℕ × ℕ). w.0)) (filter-append (λ (w : ℕ × ℕ). w.1 == m) before after)
    ∙ map-append (λ (w : ℕ × ℕ). w.0) (filter (λ (w : ℕ × ℕ). w.1 == m) before) (filter (λ (w : ℕ × ℕ). w.1 == m) after)

-- and at one of them
waiting_for-place : (before after : List (ℕ × ℕ)) (u m : ℕ)
    → waiting_for (before ++ (u, m) ∷ after) m ≡ waiting_for before m ++ u ∷ waiting_for after m
waiting_for-place before after u m = waiting_for-append before ((u, m) ∷ after) m
    ∙ ap (λ b. waiting_for before m
    ++ map (λ (w : ℕ × ℕ). w.0) (cond b ((u, m) ∷ filter (λ (w : ℕ × ℕ). w.1 == m) after)
    (filter (λ (w : ℕ × ℕ). w.1 == m) after)))
    (eq-eqb m m refl)

-- who stands once is gone from its place
without-place : (before after : List (ℕ × ℕ)) (u m : ℕ) → Once (before ++ (u, m) ∷ after)
    → without (before ++ (u, m) ∷ after) u ≡ before ++ after
without-place [] after u m o =
    without-first (λ x. x ≡ after) (u, m) after u
    (λ e. without-unnamed after u (once_head (u, m) after o)) (λ d. absurd (d refl))
without-place (w ∷ before) after u m o =
    without-first (λ x. x ≡ w ∷ before ++ after) w (before ++ (u, m) ∷ after) u
    (λ e. absurd (true≢false (sym (stands e) ∙ once_head w (before ++ (u, m) ∷ after) o)))
    (λ d. ap (λ x. w ∷ x) (without-place before after u m (once_tail w (before ++ (u, m) ∷ after) o)))
  where
    stands : w.0 ≡ u → names w.0 (before ++ (u, m) ∷ after) ≡ true
    stands e = list_any-append (λ (v : ℕ × ℕ). v.0 == w.0) before ((u, m) ∷ after)
        ∙ ap (λ b. names w.0 before || (b || names w.0 after)) (eq-eqb u w.0 (sym e)) ∙ or_true (names w.0 before)

-- a mutex for which nobody waits has no order
pub order-none : (f : ℕ → ℕ) (ws : List (ℕ × ℕ)) (m : ℕ) → has_waiter ws m ≡ false → waiting_order f ws m ≡ []
order-none f ws m h = ap (by_greatest f 100) (nobody ws h) ∙ by_greatest-none f 100
  where
    nobody : (ws : List (ℕ × ℕ)) → has_waiter ws m ≡ false → waiting_for ws m ≡ []
    nobody [] h = refl
    nobody (w ∷ ws) h =
        let p = or_parts (w.1 == m) (has_waiter ws m) h in
        rw p.0 (nobody ws p.1)

-- the next waiter comes first, and then the order of the others
pub order-next : (f : ℕ → ℕ) (ws : List (ℕ × ℕ)) (m : ℕ) → Once ws → ((u : ℕ) → f u ≤ 99) → has_waiter ws m ≡ true
    → waiting_order f ws m ≡ next_waiter f ws m ∷ waiting_order f (without ws (next_waiter f ws m)) m
order-next f ws m o few h = go (next_waiter f ws m) (next_is_next f ws m h)
  where
    go : (u : ℕ) → IsNextWaiter f ws m u → waiting_order f ws m ≡ u ∷ waiting_order f (without ws u) m
    go u n = ap (λ x. waiting_order f x m) n.place
        ∙ ap (by_greatest f 100) (waiting_for-place n.earlier n.later u m)
        ∙ by_greatest-first f 100 (waiting_for n.earlier m) (waiting_for n.later m) u (omega (arith, few u))
        (λ v k. n.above_earlier v (sym (among-waiting_for n.earlier v m) ∙ k))
        (λ v k. n.above_later v (sym (among-waiting_for n.later v m) ∙ k))
        ∙ ap (λ x. u ∷ by_greatest f 100 x) (sym (waiting_for-append n.earlier n.later m))
        ∙ ap (λ x. u ∷ waiting_order f x m) (sym (ap (λ x. without x u) n.place
        ∙ without-place n.earlier n.later u m (subst Once n.place o)))

-- THE ORDER OF READY THREADS

-- the first that stands on levels up to n is the first of the greatest that has a thread, if level 0 has none
pub first-levels_below : (levels : List (List ℕ)) (n : ℕ) → level_at levels 0 ≡ []
    → get_or (levels_below levels (suc n)) 0 0 ≡ first_from levels n
unfolding levels_below first_from
first-levels_below levels zero e = rw e refl
first-levels_below levels (suc n) e = go (level_at levels (suc n)) (first-levels_below levels n e)
  where
    go : (us : List ℕ) → get_or (levels_below levels (suc n)) 0 0 ≡ first_from levels n
        → get_or (us ++ levels_below levels (suc n)) 0 0 ≡ elim us [ [] ↦ first_from levels n | (t ∷ ts) ↦ t ]
    go [] ih = ih
    go (t ∷ ts) ih = refl
