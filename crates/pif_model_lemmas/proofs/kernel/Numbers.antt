-- Lists of threads: who is among those that pass a test, and once; and the numbers from 1 on.
use Rattle.std.proofs.Common.{◌≡◌, ◌≢◌, ◌⊎◌, ℕ, zero, suc, ◌≤◌, Bool, true, false, cond, ◌||◌, ◌==◌, eqb, nat_lt, List, [], ◌∷◌, ◌++◌, filter, refl, sym, ap, ◌∙◌, arith, if◌then◌else◌, eqb-true, eq-eqb, ne_eqb, true≢false, inl, inr}
use Rattle.std.specs.List.{list_any, IsDistinct, AllByRecursion}
use Rattle.std.proofs.lemmas.Bool.{or_parts, or_cases, cases_eq, false_from_ne_true}
use Rattle.std.proofs.lemmas.Bool.Decides.{nat_tests}
use Rattle.std.proofs.lemmas.List.Folds.{list_any-append}
use Rattle.std.proofs.lemmas.Map.Views.{any-filter_same}
use Rattle.pif_model.specs.PiKernel.{is_among, numbers}
use Rattle.pif_model_lemmas.proofs.Waiting.{by_test, or_true, or_false}

-- AMONG

-- who is among those that pass a test is one of them, and passes
pub among-filter : (f : ℕ → Bool) (xs : List ℕ) (t : ℕ)
    → is_among (filter f xs) t ≡ (if f t then is_among xs t else false)
among-filter f xs t = by_test (λ b. f t ≡ b → is_among (filter f xs) t ≡ (if b then is_among xs t else false)) (f t)
    (λ e _. any-filter_same (λ u. u == t) f true (λ u k. ap f (eqb-true u t k) ∙ e) xs)
    (λ e _. any-filter_same (λ u. u == t) f false (λ u k. ap f (eqb-true u t k) ∙ e) xs)
    refl

-- one more
pub among-push : (xs : List ℕ) (n t : ℕ) → is_among (xs ++ n ∷ []) t ≡ (is_among xs t || (n == t))
among-push xs n t = list_any-append (λ u. u == t) xs (n ∷ []) ∙ ap (λ b. is_among xs t || b) (or_false (n == t))

-- one more, for another
pub among-push_other : (xs : List ℕ) (n t : ℕ) → t ≢ n → is_among (xs ++ n ∷ []) t ≡ is_among xs t
among-push_other xs n t d = among-push xs n t ∙ rw (ne_eqb n t (λ e. d (sym e))) (or_false (is_among xs t))

-- one more is among them
pub among-push_same : (xs : List ℕ) (n : ℕ) → is_among (xs ++ n ∷ []) n ≡ true
among-push_same xs n = among-push xs n n ∙ rw (eq-eqb n n refl) (or_true (is_among xs n))

-- the test of all but t
abbrev pub is_other : ℕ → ℕ → Bool
is_other t u = if u == t then false else true

-- who left is not among them
pub among-left_same : (xs : List ℕ) (t : ℕ) → is_among (filter (is_other t) xs) t ≡ false
among-left_same xs t = among-filter (is_other t) xs t ∙ rw (eq-eqb t t refl) refl

-- and the others are as before
pub among-left_other : (xs : List ℕ) (t u : ℕ) → u ≢ t → is_among (filter (is_other t) xs) u ≡ is_among xs u
among-left_other xs t u n = among-filter (is_other t) xs u ∙ rw (ne_eqb u t n) refl

-- ONCE

-- what holds for all of a list holds for those of it that pass a test
all-filter : (P : ℕ → Type 0) (f : ℕ → Bool) (xs : List ℕ) → AllByRecursion P xs → AllByRecursion P (filter f xs)
all-filter P f [] h = tt
all-filter P f (x ∷ xs) h = by_test (λ b. AllByRecursion P (cond b (x ∷ filter f xs) (filter f xs))) (f x)
    (λ e. (h.0, all-filter P f xs h.1)) (λ e. all-filter P f xs h.1)

-- those of a distinct list that pass a test
pub distinct-filter : (f : ℕ → Bool) (xs : List ℕ) → IsDistinct eqb xs → IsDistinct eqb (filter f xs)
unfolding IsDistinct
distinct-filter f [] h = tt
distinct-filter f (x ∷ xs) h = by_test (λ b. IsDistinct eqb (cond b (x ∷ filter f xs) (filter f xs))) (f x)
    (λ e. (all-filter (λ y. eqb x y ≡ false) f xs h.0, distinct-filter f xs h.1)) (λ e. distinct-filter f xs h.1)

-- who is not among a list differs from each of it
all_other : (u : ℕ) (xs : List ℕ) → is_among xs u ≡ false → AllByRecursion (λ y. eqb u y ≡ false) xs
all_other u [] h = tt
all_other u (x ∷ xs) h =
    let p = or_parts (x == u) (is_among xs u) h in
    (grind (arith, nat_tests, p.0), all_other u xs p.1)

-- what holds for all of two lists
all-append : (P : ℕ → Type 0) (xs ys : List ℕ) → AllByRecursion P xs → AllByRecursion P ys → AllByRecursion P (xs ++ ys)
all-append P [] ys h k = k
all-append P (x ∷ xs) ys h k = (h.0, all-append P xs ys h.1 k)

-- two distinct lists with nothing in common
pub distinct-append : (xs ys : List ℕ) → IsDistinct eqb xs → IsDistinct eqb ys
    → ((u : ℕ) → is_among xs u ≡ true → is_among ys u ≡ false) → IsDistinct eqb (xs ++ ys)
unfolding IsDistinct
distinct-append [] ys h k d = k
distinct-append (x ∷ xs) ys h k d = (
  all-append (λ y. eqb x y ≡ false) xs ys h.0 (all_other x ys (d x (ap (λ b. b || is_among xs x) (eq-eqb x x refl)))),
  distinct-append xs ys h.1 k (λ u e. d u (ap (λ b. (x == u) || b) e ∙ or_true (x == u))),
)

-- nobody
pub distinct-none : IsDistinct eqb []
unfolding IsDistinct
distinct-none = tt

-- one
distinct-one : (x : ℕ) → IsDistinct eqb (x ∷ [])
unfolding IsDistinct
distinct-one x = (tt, tt)

-- one more, who is not among them
pub distinct-push : (xs : List ℕ) (x : ℕ) → IsDistinct eqb xs → is_among xs x ≡ false → IsDistinct eqb (xs ++ x ∷ [])
distinct-push xs x h d = distinct-append xs (x ∷ []) h (distinct-one x)
    (λ u e. ap (λ b. b || false) (ne_eqb x u (λ k. true≢false (sym e ∙ ap (is_among xs) (sym k) ∙ d))))

-- THE NUMBERS FROM 1

-- no numbers
pub numbers-none : numbers zero ≡ []
unfolding numbers
numbers-none = refl

-- one number more
pub numbers-more : (n : ℕ) → numbers (suc n) ≡ numbers n ++ suc n ∷ []
unfolding numbers
numbers-more n = refl

-- a test that one of the numbers passes
pub any_number : (f : ℕ → Bool) (n q : ℕ) → 1 ≤ q → q ≤ n → f q ≡ true → list_any f (numbers n) ≡ true
unfolding numbers
any_number f zero q l k h = absurd (omega arith)
any_number f (suc n) q l k h =
    list_any-append f (numbers n) (suc n ∷ []) ∙ go (λ b. any_number f n q l b h) (cases_eq (suc n) q)
  where
    go : (q ≤ n → list_any f (numbers n) ≡ true) → (suc n ≡ q) ⊎ (suc n ≢ q)
        → (list_any f (numbers n) || (f (suc n) || false)) ≡ true
    go ih (inl e) = ap (λ b. list_any f (numbers n) || (b || false)) (ap f e ∙ h) ∙ or_true (list_any f (numbers n))
    go ih (inr d) = ap (λ b. b || (f (suc n) || false)) (ih (omega arith))

-- and back
pub number-from_any : (f : ℕ → Bool) (n : ℕ) → list_any f (numbers n) ≡ true
    → (q : ℕ) × (1 ≤ q) × (q ≤ n) × (f q ≡ true)
unfolding numbers
number-from_any f zero h = absurd (true≢false (sym h))
number-from_any f (suc n) h =
    go (number-from_any f n)
    (or_cases (list_any f (numbers n)) (f (suc n) || false) (sym (list_any-append f (numbers n) (suc n ∷ [])) ∙ h))
  where
    go : (list_any f (numbers n) ≡ true → (q : ℕ) × (1 ≤ q) × (q ≤ n) × (f q ≡ true))
        → (list_any f (numbers n) ≡ true) ⊎ ((f (suc n) || false) ≡ true)
        → (q : ℕ) × (1 ≤ q) × (q ≤ suc n) × (f q ≡ true)
    go ih (inl e) = let r = ih e in (r.0, r.1, omega (arith, r.2), r.3)
    go ih (inr e) = (suc n, omega arith, omega arith, sym (or_false (f (suc n))) ∙ e)

-- no number passes
pub no_number : (f : ℕ → Bool) (n : ℕ) → ((q : ℕ) → f q ≡ false) → list_any f (numbers n) ≡ false
no_number f n h =
    false_from_ne_true (list_any f (numbers n)) (λ e. let r = number-from_any f n e in true≢false (sym r.3 ∙ h r.0))

-- which they are
pub among-numbers : (n t : ℕ) → is_among (numbers n) t ≡ (if t == 0 then false else nat_lt t (suc n))
among-numbers zero t = ap (λ xs. is_among xs t) numbers-none ∙ grind (arith, nat_tests)
among-numbers (suc n) t =
    ap (λ xs. is_among xs t) (numbers-more n) ∙ among-push (numbers n) (suc n) t
    ∙ ap (λ b. b || (suc n == t)) (among-numbers n t) ∙ grind (arith, nat_tests)

-- they are distinct
pub distinct-numbers : (n : ℕ) → IsDistinct eqb (numbers n)
unfolding numbers
distinct-numbers zero = distinct-none
distinct-numbers (suc n) =
    distinct-push (numbers n) (suc n) (distinct-numbers n) (among-numbers n (suc n) ∙ grind (arith, nat_tests))
