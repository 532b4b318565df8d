-- Chains of waiting over a function that says for whom each thread waits: whom one reaches at all, one reaches over few
-- hops. And the greatest value among the numbers that pass a test.
use Rattle.std.proofs.Common.{◌≡◌, ◌≢◌, ◌⊎◌, ◌<◌, ◌≤◌, ◌+◌, ℕ, zero, suc, Bool, true, false, eqb, max, List, [], ◌∷◌, length, refl, sym, ap, ◌∙◌, subst, inl, inr, add-one, arith}
use Rattle.std.specs.List.{list_any, IsDistinct, AllByRecursion}
use Rattle.std.proofs.lemmas.Bool.{true≢false, cases_Bool, cases_eq, cases_lt, eqb-true, eq-eqb, or_parts}
use Rattle.std.proofs.lemmas.Bool.Decides.{nat_tests}
use Rattle.std.proofs.lemmas.Map.Keys.{IsDistinct-cons, IsDistinct-tail}
use Rattle.std.proofs.lemmas.Map.Steps.{length-le_from_distinct_below}
use Rattle.pif_model.specs.Graph.{reaches_within, greatest_where, Reaches}
use Rattle.pif_model.specs.Graph.Reaches.{here, hop}

-- u waits for v, by a function
abbrev pub Follows : (ℕ → ℕ) → ℕ → ℕ → Type 0
Follows waits_for u v = (waits_for u ≡ v) × (v ≢ 0)

-- the numbers along a chain from u to t
data Trail (waits_for : ℕ → ℕ) (t : ℕ) : List ℕ → ℕ → Type 0 where
  last : {u : ℕ} → u ≡ t → Trail waits_for t (u ∷ []) u
  more : {u v : ℕ} {xs : List ℕ} → waits_for u ≡ v → v ≢ 0 → Trail waits_for t xs v → Trail waits_for t (u ∷ xs) u

-- over no hop or more, who is t reaches t
pub reaches_here : (hops : ℕ) (waits_for : ℕ → ℕ) (u t : ℕ) → u ≡ t → reaches_within hops waits_for u t ≡ true
unfolding reaches_within
reaches_here zero waits_for u t e = eq-eqb u t e
reaches_here (suc hops) waits_for u t e = rw (eq-eqb u t e) refl

-- one more hop
reaches_more : (hops : ℕ) (waits_for : ℕ → ℕ) (u t : ℕ) → waits_for u ≢ 0 → reaches_within hops waits_for (waits_for u) t ≡ true
    → reaches_within (suc hops) waits_for u t ≡ true
unfolding reaches_within
reaches_more hops waits_for u t n h = grind (arith, nat_tests)

-- one hop less: it is t, or its next is somebody who reaches t
reaches_less : (hops : ℕ) (waits_for : ℕ → ℕ) (u t : ℕ) → reaches_within (suc hops) waits_for u t ≡ true
    → (u ≡ t) ⊎ ((waits_for u ≢ 0) × (reaches_within hops waits_for (waits_for u) t ≡ true))
unfolding reaches_within
reaches_less hops waits_for u t h = grind (arith, nat_tests)

-- over no hop one reaches oneself alone
reaches_none : (waits_for : ℕ → ℕ) (u t : ℕ) → reaches_within zero waits_for u t ≡ true → u ≡ t
unfolding reaches_within
reaches_none waits_for u t h = eqb-true u t h

-- over more hops one reaches no fewer
pub reaches_over_more : (k n : ℕ) (waits_for : ℕ → ℕ) (u t : ℕ) → k ≤ n → reaches_within k waits_for u t ≡ true → reaches_within n waits_for u t ≡ true
reaches_over_more zero n waits_for u t l h = reaches_here n waits_for u t (reaches_none waits_for u t h)
reaches_over_more (suc k) zero waits_for u t l h = absurd (omega arith)
reaches_over_more (suc k) (suc n) waits_for u t l h = further (reaches_over_more k n waits_for (waits_for u) t (omega arith)) (reaches_less k waits_for u t h)
  where
    further : (reaches_within k waits_for (waits_for u) t ≡ true → reaches_within n waits_for (waits_for u) t ≡ true)
        → (u ≡ t) ⊎ ((waits_for u ≢ 0) × (reaches_within k waits_for (waits_for u) t ≡ true)) → reaches_within (suc n) waits_for u t ≡ true
    further ih (inl e) = reaches_here (suc n) waits_for u t e
    further ih (inr p) = reaches_more n waits_for u t p.0 (ih p.1)

-- whom one reaches over some hops, one reaches
pub reaches-from_within : (hops : ℕ) (waits_for : ℕ → ℕ) (u t : ℕ) → reaches_within hops waits_for u t ≡ true → Reaches (Follows waits_for) u t
reaches-from_within zero waits_for u t h = here (reaches_none waits_for u t h)
reaches-from_within (suc hops) waits_for u t h = further (reaches-from_within hops waits_for (waits_for u) t) (reaches_less hops waits_for u t h)
  where
    further : (reaches_within hops waits_for (waits_for u) t ≡ true → Reaches (Follows waits_for) (waits_for u) t)
        → (u ≡ t) ⊎ ((waits_for u ≢ 0) × (reaches_within hops waits_for (waits_for u) t ≡ true)) → Reaches (Follows waits_for) u t
    further ih (inl e) = here e
    further ih (inr p) = hop (refl, p.0) (ih p.1)

-- along a trail one reaches its end
trail_reaches : {waits_for : ℕ → ℕ} {t : ℕ} {xs : List ℕ} {u : ℕ} → Trail waits_for t xs u → reaches_within (length xs) waits_for u t ≡ true
trail_reaches {waits_for} {t} (last {u = u} e) = reaches_here 1 waits_for u t e
trail_reaches {waits_for} {t} (more {u = u} {v = v} {xs = xs} e n trail) =
    reaches_more (length xs) waits_for u t (λ z. n (sym e ∙ z)) (subst (λ (x : ℕ). reaches_within (length xs) waits_for x t ≡ true) (sym e) (trail_reaches trail))

-- a trail from a number on a trail, with no number that the trail doesn't have
trail_from : {waits_for : ℕ → ℕ} {t : ℕ} {xs : List ℕ} {v : ℕ} → Trail waits_for t xs v → (u : ℕ) → list_any (eqb u) xs ≡ true
    → (ys : List ℕ) × Trail waits_for t ys u × (IsDistinct eqb xs → IsDistinct eqb ys)
unfolding IsDistinct
trail_from {waits_for} {t} (last {u = v} e) u h = ((u ∷ []), last (grind (arith, nat_tests, h, e)), λ d. IsDistinct-cons eqb u [] tt tt)
trail_from {waits_for} {t} (more {u = v} {v = w} {xs = xs} e n trail) u h = by_head (cases_eq u v) (trail_from trail u)
  where
    by_head : ((u ≡ v) ⊎ (u ≡ v → ⊥)) → (list_any (eqb u) xs ≡ true → (ys : List ℕ) × Trail waits_for t ys u × (IsDistinct eqb xs → IsDistinct eqb ys))
        → (ys : List ℕ) × Trail waits_for t ys u × (IsDistinct eqb (v ∷ xs) → IsDistinct eqb ys)
    by_head (inl same) ih = ((v ∷ xs), subst (λ (x : ℕ). Trail waits_for t (v ∷ xs) x) (sym same) (more e n trail), λ d. d)
    by_head (inr other) ih =
        let r : (ys : List ℕ) × Trail waits_for t ys u × (IsDistinct eqb xs → IsDistinct eqb ys) = ih (grind (arith, nat_tests, h, other)) in
        (r.0, r.1, λ d. r.2 (IsDistinct-tail eqb v xs d))

-- a number that a list doesn't have is apart from each of it
pub all_apart : (u : ℕ) (xs : List ℕ) → list_any (eqb u) xs ≡ false → AllByRecursion (λ y. eqb u y ≡ false) xs
all_apart u [] h = tt
all_apart u (x ∷ xs) h = let p = or_parts (eqb u x) (list_any (eqb u) xs) h in (p.0, all_apart u xs p.1)

-- no number stands twice in a list of none
pub no_repeats : IsDistinct eqb []
unfolding IsDistinct
no_repeats = tt

-- the numbers of a trail are below n, if its first is, and for whoever one waits
trail_below : {waits_for : ℕ → ℕ} {t : ℕ} {xs : List ℕ} {u : ℕ} → Trail waits_for t xs u → (n : ℕ) → u < n → ((x : ℕ) → waits_for x ≢ 0 → waits_for x < n)
    → (q : ℕ) → list_any (eqb q) xs ≡ true → q < n
trail_below {waits_for} (last {u = u} e) n l below q h = grind (arith, nat_tests)
trail_below {waits_for} (more {u = u} {v = v} {xs = xs} e d trail) n l below q h = by_head (cases_eq q u) (trail_below trail n (grind (arith, below u)) below q)
  where
    by_head : ((q ≡ u) ⊎ (q ≡ u → ⊥)) → (list_any (eqb q) xs ≡ true → q < n) → q < n
    by_head (inl same) ih = omega arith
    by_head (inr other) ih = ih (grind (arith, nat_tests, h, other))

-- whom one reaches, one reaches along a trail without repeats
trail_of : {waits_for : ℕ → ℕ} {u t : ℕ} → Reaches (Follows waits_for) u t → (xs : List ℕ) × Trail waits_for t xs u × IsDistinct eqb xs
unfolding IsDistinct
trail_of (here {u = u} e) = ((u ∷ []), last e, IsDistinct-cons eqb u [] tt tt)
trail_of {waits_for} {t = t} (hop {u = u} {v = v} e r) = shorten (trail_of r)
  where
    shorten : (xs : List ℕ) × Trail waits_for t xs v × IsDistinct eqb xs → (ys : List ℕ) × Trail waits_for t ys u × IsDistinct eqb ys
    shorten r = by_place (cases_Bool (list_any (eqb u) r.0))
      where
        by_place : ((list_any (eqb u) r.0 ≡ true) ⊎ (list_any (eqb u) r.0 ≡ false)) → (ys : List ℕ) × Trail waits_for t ys u × IsDistinct eqb ys
        by_place (inl y) = let c = trail_from r.1 u y in (c.0, c.1, c.2 r.2)
        by_place (inr n) = ((u ∷ r.0), more e.0 e.1 r.1, IsDistinct-cons eqb u r.0 (all_apart u r.0 n) r.2)

-- whom one reaches at all, one reaches over n hops, if all numbers on the way are below n
pub within-from_reaches : (n : ℕ) (waits_for : ℕ → ℕ) (u t : ℕ) → u < n → ((x : ℕ) → waits_for x ≢ 0 → waits_for x < n)
    → Reaches (Follows waits_for) u t → reaches_within n waits_for u t ≡ true
within-from_reaches n waits_for u t l below r =
    let c = trail_of r in
    reaches_over_more (length c.0) n waits_for u t (length-le_from_distinct_below c.0 n c.2 (trail_below c.1 n l below)) (trail_reaches c.1)

-- who is t reaches t
pub within_here : (n : ℕ) (waits_for : ℕ → ℕ) (t : ℕ) → reaches_within n waits_for t t ≡ true
within_here n waits_for t = reaches_here n waits_for t t refl

-- who waits for nobody reaches itself alone
pub within_alone : (n : ℕ) (waits_for : ℕ → ℕ) (u t : ℕ) → waits_for u ≡ 0 → reaches_within n waits_for u t ≡ true → u ≡ t
within_alone zero waits_for u t e h = reaches_none waits_for u t h
within_alone (suc n) waits_for u t e h = grind (arith, reaches_less n waits_for u t h)

-- the greatest value is above that of each number below n that passes
pub greatest_where_above : (test : ℕ → Bool) (f : ℕ → ℕ) (n u : ℕ) → u < n → test u ≡ true → f u ≤ greatest_where test f n
unfolding greatest_where
greatest_where_above test f zero u l h = absurd (omega arith)
greatest_where_above test f (suc n) u l h = grind (arith, nat_tests, greatest_where_above test f n u, cases_eq u n)

-- a number below n that passes and has the greatest value
abbrev pub IsGreatestAt : (ℕ → Bool) → (ℕ → ℕ) → ℕ → Type 0
IsGreatestAt test f n = (u : ℕ) × (u < n) × (test u ≡ true) × (f u ≡ greatest_where test f n)

-- the greatest value one number further, if that number fails
greatest_where_no : (test : ℕ → Bool) (f : ℕ → ℕ) (n : ℕ) → test n ≡ false → greatest_where test f (suc n) ≡ greatest_where test f n
unfolding greatest_where
greatest_where_no test f n e = rw e refl

-- and if it passes
greatest_where_yes : (test : ℕ → Bool) (f : ℕ → ℕ) (n : ℕ) → test n ≡ true → greatest_where test f (suc n) ≡ max (f n) (greatest_where test f n)
unfolding greatest_where
greatest_where_yes test f n e = rw e refl

-- the greatest value below no number
greatest_where_none : (test : ℕ → Bool) (f : ℕ → ℕ) → greatest_where test f zero ≡ 0
unfolding greatest_where
greatest_where_none test f = refl

-- the greatest value is that of a number that passes, or it is 0 and none passes
pub greatest_where_cases : (test : ℕ → Bool) (f : ℕ → ℕ) (n : ℕ) → IsGreatestAt test f n ⊎ (((u : ℕ) → u < n → test u ≡ false) × (greatest_where test f n ≡ 0))
greatest_where_cases test f zero = inr ((λ u l. absurd (omega arith)), greatest_where_none test f)
greatest_where_cases test f (suc n) = further (greatest_where_cases test f n) (cases_Bool (test n))
  where
    kept : IsGreatestAt test f n → greatest_where test f (suc n) ≡ greatest_where test f n → IsGreatestAt test f (suc n)
    kept p e = (p.0, omega arith, p.2, p.3 ∙ sym e)

    fails : ((u : ℕ) → u < n → test u ≡ false) → test n ≡ false → (u : ℕ) → u < suc n → test u ≡ false
    fails h e u l = grind (arith, cases_eq u n, h u)

    by_order : test n ≡ true → IsGreatestAt test f n → ((f n < greatest_where test f n) ⊎ (greatest_where test f n ≤ f n)) → IsGreatestAt test f (suc n)
    by_order y p (inl l) = kept p (omega (arith, greatest_where_yes test f n y))
    by_order y p (inr l) = (n, omega arith, y, omega (arith, greatest_where_yes test f n y))

    further : IsGreatestAt test f n ⊎ (((u : ℕ) → u < n → test u ≡ false) × (greatest_where test f n ≡ 0)) → ((test n ≡ true) ⊎ (test n ≡ false))
        → IsGreatestAt test f (suc n) ⊎ (((u : ℕ) → u < suc n → test u ≡ false) × (greatest_where test f (suc n) ≡ 0))
    further (inl p) (inl y) = inl (by_order y p (cases_lt (f n) (greatest_where test f n)))
    further (inl p) (inr e) = inl (kept p (greatest_where_no test f n e))
    further (inr p) (inl y) = inl (n, omega arith, y, omega (arith, greatest_where_yes test f n y, p.1))
    further (inr p) (inr e) = inr (fails p.0 e, greatest_where_no test f n e ∙ p.1)

-- one number more, that passes
pub greatest_more : (test : ℕ → Bool) (f : ℕ → ℕ) (n best : ℕ) → best ≡ greatest_where test f n → test n ≡ true
    → max (f n) best ≡ greatest_where test f (n + 1)
greatest_more test f n best e y = ap (max (f n)) e ∙ sym (greatest_where_yes test f n y) ∙ ap (greatest_where test f) (sym (add-one n))

-- one number more, that doesn't
pub greatest_same : (test : ℕ → Bool) (f : ℕ → ℕ) (n best : ℕ) → best ≡ greatest_where test f n → test n ≡ false
    → best ≡ greatest_where test f (n + 1)
greatest_same test f n best e y = e ∙ sym (greatest_where_no test f n y) ∙ ap (greatest_where test f) (sym (add-one n))

-- a greatest value above 0 is that of a number that passes
pub greatest_where_some : (test : ℕ → Bool) (f : ℕ → ℕ) (n : ℕ) → 1 ≤ greatest_where test f n → IsGreatestAt test f n
greatest_where_some test f n h = by_case (greatest_where_cases test f n)
  where
    by_case : IsGreatestAt test f n ⊎ (((u : ℕ) → u < n → test u ≡ false) × (greatest_where test f n ≡ 0)) → IsGreatestAt test f n
    by_case (inl p) = p
    by_case (inr p) = absurd (omega (arith, p.1))

-- if a number below n passes, the greatest value is that of one that does
pub greatest_where_at : (test : ℕ → Bool) (f : ℕ → ℕ) (n t : ℕ) → t < n → test t ≡ true → IsGreatestAt test f n
greatest_where_at test f n t l h = by_case (greatest_where_cases test f n)
  where
    by_case : IsGreatestAt test f n ⊎ (((u : ℕ) → u < n → test u ≡ false) × (greatest_where test f n ≡ 0)) → IsGreatestAt test f n
    by_case (inl p) = p
    by_case (inr p) = absurd (true≢false (sym h ∙ p.0 t l))
