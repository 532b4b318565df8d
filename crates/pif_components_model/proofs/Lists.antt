-- What a change of a list leaves as it was: places, and what a filter or a test sees of it.
use Rattle.std.proofs.Common.{ℕ, zero, suc, ◌≡◌, ◌≢◌, ◌⊎◌, ◌∙◌, ◌==◌, ◌||◌, Bool, true, false, cond, List, [], ◌∷◌, ◌++◌, get_or, set, Option, Some, None, unwrap_or, refl, sym, ap, inl, inr, eqb-true, if◌then◌else◌, filter}
use Rattle.std.specs.List.{list_any}
use Rattle.pif_model_lemmas.proofs.Waiting.{pairs, or_true}

-- TESTS

-- of an `if` that is true and has false as its second branch, the test and the first branch are true
pub both_true : (a b : Bool) → (if a then b else false) ≡ true → (a ≡ true) × (b ≡ true)
both_true true b h = (refl, h)
both_true false b h = absurd (cc)

pub either_true : (a b : Bool) → (a || b) ≡ true → (a ≡ true) ⊎ (b ≡ true)
either_true true b h = inl refl
either_true false b h = inr h

-- an option that isn't 0 where it is missing is there
pub is_there : (o : Option ℕ) → unwrap_or o 0 ≢ 0 → o ≡ Some (unwrap_or o 0)
is_there None h = absurd (h refl)
is_there (Some n) h = refl

-- PLACES

module _ {A : Type 0} (d : A) where
  -- what is so of what is written, and of what stood there, is so of what stands there then
  pub at_place : (P : A → Type 0) (xs : List A) (t : ℕ) (y : A) → P y → P (get_or xs t d) → P (get_or (set xs t y) t d)
  at_place P [] t y h k = k
  at_place P (x ∷ xs) zero y h k = h
  at_place P (x ∷ xs) (suc t) y h k = at_place P xs t y h k

-- FILTERS

module _ {A : Type 0} where
  -- one more at the end that doesn't pass
  pub filter_push : (f : A → Bool) (xs : List A) (y : A) → f y ≡ false → filter f (xs ++ y ∷ []) ≡ filter f xs
  filter_push f [] y h = rw h refl
  filter_push f (x ∷ xs) y h = ap (λ ys. cond (f x) (x ∷ ys) ys) (filter_push f xs y h)

  -- a filter that drops none of those that pass
  pub filter_within : (f g : A → Bool) (xs : List A) → ((a : A) → f a ≡ true → g a ≡ true) → filter f (filter g xs) ≡ filter f xs
  filter_within f g [] h = refl
  filter_within f g (x ∷ xs) h = step (g x) (f x) refl refl (filter_within f g xs h)
    where
      step : (b c : Bool) → g x ≡ b → f x ≡ c → filter f (filter g xs) ≡ filter f xs
          → filter f (cond b (x ∷ filter g xs) (filter g xs)) ≡ cond c (x ∷ filter f xs) (filter f xs)
      step true c e k ih = rw k (ap (λ ys. cond c (x ∷ ys) ys) ih)
      step false false e k ih = ih
      step false true e k ih = (let both = h x k in absurd (cc))

  -- a filter of those that pass another one
  pub filter_both : (f g h : A → Bool) (xs : List A) → ((a : A) → (if g a then f a else false) ≡ h a) → filter f (filter g xs) ≡ filter h xs
  filter_both f g h [] is = refl
  filter_both f g h (x ∷ xs) is = step (g x) (is x) (filter_both f g h xs is)
    where
      step : (b : Bool) → (if b then f x else false) ≡ h x → filter f (filter g xs) ≡ filter h xs
          → filter f (cond b (x ∷ filter g xs) (filter g xs)) ≡ cond (h x) (x ∷ filter h xs) (filter h xs)
      step true e ih = λ i. cond (e i) (x ∷ ih i) (ih i)
      step false e ih = ih ∙ ap (λ (c : Bool). cond c (x ∷ filter h xs) (filter h xs)) e

  -- a filter that all pass
  pub filter_all : (f : A → Bool) (xs : List A) → ((a : A) → f a ≡ true) → filter f xs ≡ xs
  filter_all f [] all = refl
  filter_all f (x ∷ xs) all = λ i. cond (all x i) (x ∷ filter_all f xs all i) (filter_all f xs all i)

  -- what is among those that pass is among all
  pub any_filtered : (f g : A → Bool) (xs : List A) → list_any f (filter g xs) ≡ true → list_any f xs ≡ true
  any_filtered f g [] h = h
  any_filtered f g (x ∷ xs) h = step (g x) (f x) refl h (any_filtered f g xs)
    where
      step : (b c : Bool) → f x ≡ c → list_any f (cond b (x ∷ filter g xs) (filter g xs)) ≡ true
          → (list_any f (filter g xs) ≡ true → list_any f xs ≡ true) → (c || list_any f xs) ≡ true
      step b true e k ih = refl
      step true false e k ih = ih (sym (ap (λ (b : Bool). b || list_any f (filter g xs)) e) ∙ k)
      step false false e k ih = ih k

-- PAIRS

-- who is among the waiters once a waits for b was so before, or is a
pub pair_pushed : (ws : List (ℕ × ℕ)) (a b u m : ℕ) → pairs u m (ws ++ (a, b) ∷ []) ≡ true
    → (pairs u m ws ≡ true) ⊎ ((a ≡ u) × (b ≡ m))
pair_pushed [] a b u m h = last (either_true (if a == u then b == m else false) false h)
  where
    last : ((if a == u then b == m else false) ≡ true) ⊎ (false ≡ true) → (pairs u m [] ≡ true) ⊎ ((a ≡ u) × (b ≡ m))
    last (inl k) = (let r = both_true (a == u) (b == m) k in inr (eqb-true a u r.0, eqb-true b m r.1))
    last (inr k) = inl k
pair_pushed (w ∷ ws) a b u m h =
    first (either_true (if w.0 == u then w.1 == m else false) (pairs u m (ws ++ (a, b) ∷ [])) h)
    (pair_pushed ws a b u m)
  where
    later : (pairs u m ws ≡ true) ⊎ ((a ≡ u) × (b ≡ m)) → (pairs u m (w ∷ ws) ≡ true) ⊎ ((a ≡ u) × (b ≡ m))
    later (inl k) = inl (rw k (or_true (if w.0 == u then w.1 == m else false)))
    later (inr k) = inr k

    first : ((if w.0 == u then w.1 == m else false) ≡ true) ⊎ (pairs u m (ws ++ (a, b) ∷ []) ≡ true)
        → (pairs u m (ws ++ (a, b) ∷ []) ≡ true → (pairs u m ws ≡ true) ⊎ ((a ≡ u) × (b ≡ m)))
        → (pairs u m (w ∷ ws) ≡ true) ⊎ ((a ≡ u) × (b ≡ m))
    first (inl k) ih = inl (rw k refl)
    first (inr k) ih = later (ih k)
