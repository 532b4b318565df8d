-- How often neighbours in a list differ, with and without one number.
use Rattle.std.proofs.Common.{◌≡◌, ◌⊎◌, ℕ, ◌+◌, ◌≤◌, Bool, true, false, eqb, cond, List, [], ◌∷◌, ◌++◌, length, Option, Some, None, refl, sym, ◌∙◌, ap, subst, inl, inr, arith}
use Rattle.std.proofs.lemmas.Bool.{eqb-true, eq-eqb, or_right, or_cases, cases_Bool, false≢true}
use Rattle.pif_nodes_model.specs.Lists.{has, first_of, last_of, next_in_list, prev_in_list, list_without, HasNoRepeats}
use Rattle.pif_nodes_model.proofs.ListLemmas.{has-head, has_split, next_in_list-split, prev_from-split, list_without-split, HasNoRepeats-taken}
use Rattle.pif_kernel_model.specs.Differences.{step_between, differences, around, across}

-- of two lists in a row those of each, and what stands between
differences-append : (f : ℕ → ℕ) (xs ys : List ℕ)
    → differences f (xs ++ ys) ≡ differences f xs + step_between f (last_of xs) (first_of ys) + differences f ys
differences-append f [] ys = omega arith
differences-append f (x ∷ []) [] = refl
differences-append f (x ∷ []) (y ∷ ys) = omega arith
differences-append f (x ∷ z ∷ xs) ys =
    let rest : differences f (z ∷ xs ++ ys)
    ≡ differences f (z ∷ xs) + step_between f (last_of (z ∷ xs)) (first_of ys) + differences f ys =
    differences-append f (z ∷ xs) ys in
    ap (λ n. step_between f (Some x) (Some z) + n) rest ∙ omega arith

-- taking a number out takes the differences around it away, and leaves the one between its neighbours
pub differences-list_without : (f : ℕ → ℕ) (xs : List ℕ) (n : ℕ) → HasNoRepeats xs → has n xs ≡ true
    → differences f xs + across f xs n ≡ differences f (list_without n xs) + around f xs n
differences-list_without f xs n once there =
    let cut : (front back : List ℕ) × (xs ≡ front ++ n ∷ back) × (has n front ≡ false) = has_split n xs there in
    let front : List ℕ = cut.0 in
    let back : List ℕ = cut.1 in
    let free : HasNoRepeats (front ++ back) × (has n front ≡ false) × (has n back ≡ false) =
    HasNoRepeats-taken front back n (subst HasNoRepeats cut.2 once) in
    let next : next_in_list xs n ≡ first_of back = ap (λ zs. next_in_list zs n) cut.2 ∙ next_in_list-split front back n free.1 in
    let prev : prev_in_list xs n ≡ last_of front = ap (λ zs. prev_in_list zs n) cut.2 ∙ prev_from-split None front back n free.1 in
    let out : list_without n xs ≡ front ++ back = ap (list_without n) cut.2 ∙ list_without-split front back n free.1 free.2 in
    let whole : differences f xs
    ≡ differences f front + step_between f (last_of front) (Some n)
    + (step_between f (Some n) (first_of back) + differences f back) =
    ap (differences f) cut.2 ∙ differences-append f front (n ∷ back) in
    let less : differences f (list_without n xs)
    ≡ differences f front + step_between f (last_of front) (first_of back) + differences f back =
    ap (differences f) out ∙ differences-append f front back in
    let over : across f xs n ≡ step_between f (last_of front) (first_of back) =
    λ i. step_between f (prev i) (next i) in
    let near : around f xs n ≡ step_between f (last_of front) (Some n) + step_between f (Some n) (first_of back) =
    λ i. step_between f (prev i) (Some n) + step_between f (Some n) (next i) in
    omega (arith, whole, less, over, near)

cond-most : (b : Bool) → cond b 0 1 ≤ 1
cond-most true = omega arith
cond-most false = omega arith

-- two numbers differ no more than by way of a third
step-over : (f : ℕ → ℕ) (one other : Option ℕ) (n : ℕ)
    → step_between f one other ≤ step_between f one (Some n) + step_between f (Some n) other
step-over f None other n = omega arith
step-over f (Some x) None n = omega arith
step-over f (Some x) (Some y) n = by_first (cases_Bool (eqb (f x) (f n)))
  where
    by_first : ((eqb (f x) (f n) ≡ true) ⊎ (eqb (f x) (f n) ≡ false))
        → step_between f (Some x) (Some y) ≤ step_between f (Some x) (Some n) + step_between f (Some n) (Some y)
    by_first (inl e) = omega (arith, ap {B = ℕ} (λ (k : ℕ). cond (eqb k (f y)) 0 1) (eqb-true (f x) (f n) e))
    by_first (inr e) = omega (arith, ap {B = ℕ} (λ (b : Bool). cond b 0 1) e, cond-most (eqb (f x) (f y)))

-- if none differs, none does without a number either
pub differences-left : (f : ℕ → ℕ) (xs : List ℕ) (n : ℕ) → HasNoRepeats xs → has n xs ≡ true → differences f xs ≡ 0
    → differences f (list_without n xs) ≡ 0
differences-left f xs n once there none =
    let less : across f xs n ≤ around f xs n = step-over f (prev_in_list xs n) (next_in_list xs n) n in
    omega (arith, none, less, differences-list_without f xs n once there)

-- what is the same of all numbers of a list gives the same differences
pub differences-same : (f g : ℕ → ℕ) (xs : List ℕ) → ((m : ℕ) → has m xs ≡ true → f m ≡ g m)
    → differences f xs ≡ differences g xs
differences-same f g [] same = refl
differences-same f g (x ∷ []) same = refl
differences-same f g (x ∷ y ∷ xs) same =
    let head : f x ≡ g x = same x (has-head x (y ∷ xs)) in
    let next : f y ≡ g y = same y (or_right (eqb y x) (has y (y ∷ xs)) (has-head y xs)) in
    let rest : differences f (y ∷ xs) ≡ differences g (y ∷ xs) =
    differences-same f g (y ∷ xs) (λ m there. same m (or_right (eqb m x) (has m (y ∷ xs)) there)) in
    λ i. cond (eqb (head i) (next i)) 0 1 + rest i

-- numbers of which all is the same don't differ
pub differences-equal : (f : ℕ → ℕ) (k : ℕ) (xs : List ℕ) → ((m : ℕ) → has m xs ≡ true → f m ≡ k)
    → differences f xs ≡ 0
differences-equal f k [] same = refl
differences-equal f k (x ∷ []) same = refl
differences-equal f k (x ∷ y ∷ xs) same =
    let head : f x ≡ k = same x (has-head x (y ∷ xs)) in
    let next : f y ≡ k = same y (or_right (eqb y x) (has y (y ∷ xs)) (has-head y xs)) in
    let rest : differences f (y ∷ xs) ≡ 0 =
    differences-equal f k (y ∷ xs) (λ m there. same m (or_right (eqb m x) (has m (y ∷ xs)) there)) in
    (λ i. cond (eqb (head i) (next i)) 0 1 + rest i)
    ∙ ap (λ b. cond b 0 1 + 0) (eq-eqb k k refl)

-- no difference between two numbers
step-none : (f : ℕ → ℕ) (x y : ℕ) → step_between f (Some x) (Some y) ≡ 0 → f x ≡ f y
step-none f x y none = by_test (cases_Bool (eqb (f x) (f y)))
  where
    by_test : ((eqb (f x) (f y) ≡ true) ⊎ (eqb (f x) (f y) ≡ false)) → f x ≡ f y
    by_test (inl same) = eqb-true (f x) (f y) same
    by_test (inr apart) =
        let one : step_between f (Some x) (Some y) ≡ 1 = ap (λ t. cond t 0 1) apart in absurd (omega (arith, one, none))

-- without differences all numbers of a list are as the first
pub differences-none : (f : ℕ → ℕ) (x : ℕ) (xs : List ℕ) → differences f (x ∷ xs) ≡ 0 → (m : ℕ)
    → has m (x ∷ xs) ≡ true → f m ≡ f x
differences-none f x [] none m there = by_part (or_cases (eqb m x) false there)
  where
    by_part : ((eqb m x ≡ true) ⊎ (false ≡ true)) → f m ≡ f x
    by_part (inl same) = ap f (eqb-true m x same)
    by_part (inr wrong) = absurd cc
differences-none f x (y ∷ ys) none m there =
    by_part (differences-none f y ys (omega (arith, none)) m) (or_cases (eqb m x) (has m (y ∷ ys)) there)
  where
    by_part : (has m (y ∷ ys) ≡ true → f m ≡ f y) → ((eqb m x ≡ true) ⊎ (has m (y ∷ ys) ≡ true)) → f m ≡ f x
    by_part later (inl same) = ap f (eqb-true m x same)
    by_part later (inr behind) = later behind ∙ sym (step-none f x y (omega (arith, none)))

-- there are fewer differences than numbers
step-most : (f : ℕ → ℕ) (one other : Option ℕ) → step_between f one other ≤ 1
step-most f None other = omega arith
step-most f (Some x) None = omega arith
step-most f (Some x) (Some y) = by_test (cases_Bool (eqb (f x) (f y)))
  where
    by_test : ((eqb (f x) (f y) ≡ true) ⊎ (eqb (f x) (f y) ≡ false)) → cond (eqb (f x) (f y)) 0 1 ≤ 1
    by_test (inl same) = subst (λ t. cond t 0 1 ≤ 1) (sym same) (omega arith)
    by_test (inr apart) = subst (λ t. cond t 0 1 ≤ 1) (sym apart) (omega arith)

differences-fewer : (f : ℕ → ℕ) (x : ℕ) (xs : List ℕ) → differences f (x ∷ xs) ≤ length xs
differences-fewer f x [] = omega arith
differences-fewer f x (y ∷ ys) = omega (arith, differences-fewer f y ys, step-most f (Some x) (Some y))

pub differences-most : (f : ℕ → ℕ) (xs : List ℕ) (n : ℕ) → has n xs ≡ true
    → differences f xs + across f xs n ≤ length xs
differences-most f [] n there = absurd (false≢true there)
differences-most f (x ∷ xs) n there =
    omega (arith, differences-fewer f x xs, step-most f (prev_in_list (x ∷ xs) n) (next_in_list (x ∷ xs) n))
