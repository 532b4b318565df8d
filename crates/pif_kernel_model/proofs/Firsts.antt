-- Lemmas on the first number of a list that passes a test.
use Rattle.std.specs.Prelude.{IfSome, IfNone}
use Rattle.std.proofs.Common.{◌≡◌, ◌⊎◌, ℕ, Bool, true, false, eqb, cond, List, [], ◌∷◌, ◌++◌, Option, Some, None, refl, sym, ◌∙◌, ap, subst, inl, inr}
use Rattle.std.proofs.lemmas.Bool.{cases_Bool, or_cases, or_right, eqb-true, true≢false, false≢true}
use Rattle.std.proofs.lemmas.Option.{same_Some}
use Rattle.std.specs.List.{filter}
use Rattle.pif_nodes_model.specs.Lists.{has, first_of}
use Rattle.pif_nodes_model.proofs.ListLemmas.{has-head}

-- options that have the same are the same
pub options-same : (o p : Option ℕ) → ((n : ℕ) → o ≡ Some n → p ≡ Some n) → ((n : ℕ) → p ≡ Some n → o ≡ Some n) → o ≡ p
options-same None None to from = refl
options-same None (Some x) to from = from x refl
options-same (Some x) p to from = sym (to x refl)

-- what is there of an option, or that nothing is
pub option-cases : {A : Type 0} (o : Option A) → (o ≡ None) ⊎ ((x : A) × (o ≡ Some x))
option-cases None = inl refl
option-cases (Some x) = inr (x, refl)

-- the list from a number on that fails the test, and from one that passes it
first-failing : (test : ℕ → Bool) (x : ℕ) (xs : List ℕ) → test x ≡ false
    → first_of (filter test (x ∷ xs)) ≡ first_of (filter test xs)
first-failing test x xs fails = ap (λ b. first_of (cond b (x ∷ filter test xs) (filter test xs))) fails

first-passing : (test : ℕ → Bool) (x : ℕ) (xs : List ℕ) → test x ≡ true → first_of (filter test (x ∷ xs)) ≡ Some x
first-passing test x xs passes = ap (λ b. first_of (cond b (x ∷ filter test xs) (filter test xs))) passes

-- the first that passes stands in the list and passes
pub first-passes : (test : ℕ → Bool) (xs : List ℕ) (n : ℕ) → first_of (filter test xs) ≡ Some n
    → (has n xs ≡ true) × (test n ≡ true)
first-passes test [] n e = absurd cc
first-passes test (x ∷ xs) n e = by_test (first-passes test xs n) (cases_Bool (test x))
  where
    by_test : (first_of (filter test xs) ≡ Some n → (has n xs ≡ true) × (test n ≡ true))
        → ((test x ≡ true) ⊎ (test x ≡ false)) → (has n (x ∷ xs) ≡ true) × (test n ≡ true)
    by_test later (inl passes) =
        let same : x ≡ n = same_Some x n (sym (first-passing test x xs passes) ∙ e) in
        (subst (λ y. has n (y ∷ xs) ≡ true) (sym same) (has-head n xs), ap test (sym same) ∙ passes)
    by_test later (inr fails) =
        let rest : (has n xs ≡ true) × (test n ≡ true) = later (sym (first-failing test x xs fails) ∙ e) in
        (or_right (eqb n x) (has n xs) rest.0, rest.1)

-- if one stands in the list that passes, there is a first one
pub passes-first : (test : ℕ → Bool) (xs : List ℕ) (n : ℕ) → has n xs ≡ true → test n ≡ true
    → (m : ℕ) × (first_of (filter test xs) ≡ Some m)
passes-first test [] n there passes = absurd (false≢true there)
passes-first test (x ∷ xs) n there passes =
    by_test (λ in'. passes-first test xs n in' passes) (cases_Bool (test x))
  where
    behind : test x ≡ false → ((eqb n x ≡ true) ⊎ (has n xs ≡ true)) → has n xs ≡ true
    behind fails (inl e) = absurd (true≢false (sym passes ∙ ap test (eqb-true n x e) ∙ fails))
    behind fails (inr in') = in'

    by_test : (has n xs ≡ true → (m : ℕ) × (first_of (filter test xs) ≡ Some m))
        → ((test x ≡ true) ⊎ (test x ≡ false)) → (m : ℕ) × (first_of (filter test (x ∷ xs)) ≡ Some m)
    by_test later (inl here) = (x, first-passing test x xs here)
    by_test later (inr fails) =
        let rest : (m : ℕ) × (first_of (filter test xs) ≡ Some m) =
        later (behind fails (or_cases (eqb n x) (has n xs) there)) in
        (rest.0, first-failing test x xs fails ∙ rest.1)

-- numbers of which none passes are passed over
pub first-behind : (test : ℕ → Bool) (front back : List ℕ) → ((m : ℕ) → has m front ≡ true → test m ≡ false)
    → first_of (filter test (front ++ back)) ≡ first_of (filter test back)
first-behind test [] back none = refl
first-behind test (x ∷ xs) back none =
    first-failing test x (xs ++ back) (none x (has-head x xs))
    ∙ first-behind test xs back (λ m there. none m (or_right (eqb m x) (has m xs) there))

pub first-head : (test : ℕ → Bool) (n : ℕ) (back : List ℕ) → test n ≡ true → first_of (filter test (n ∷ back)) ≡ Some n
first-head test n back passes = first-passing test n back passes

-- what holds of all that is there
pub all-if : (o : Option ℕ) (P : ℕ → Type 0) → ((n : ℕ) → o ≡ Some n → P n) → IfSome o P
all-if None P f = tt
all-if (Some n) P f = f n refl

pub none-if : (o : Option ℕ) (P : Type 0) → (None ≡ o → P) → IfNone o P
none-if None P f = f refl
none-if (Some n) P f = tt
