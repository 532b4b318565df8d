-- Whether one of so many numbers meets a test.
use Rattle.std.proofs.Common.{◌≡◌, ℕ, zero, suc, ◌+◌, ◌-◌, ◌<◌, Bool, true, false, List, [], ◌∷◌, ◌++◌, refl, ap, ◌∙◌, add-one, arith}
use Rattle.std.specs.Prelude.{◌||◌}
use Rattle.std.specs.List.{list_any}
use Rattle.pif_text.specs.Json.{numbers}

any_more : (p : ℕ → Bool) (ns : List ℕ) (n : ℕ) → list_any p (ns ++ n ∷ []) ≡ (list_any p ns || p n)
any_more p [] n = by_test (p n)
  where
    by_test : (b : Bool) → (b || false) ≡ b
    by_test true = refl
    by_test false = refl
any_more p (m ∷ ns) n = by_test (p m) (any_more p ns n)
  where
    by_test : (b : Bool) → list_any p (ns ++ n ∷ []) ≡ (list_any p ns || p n)
        → (b || list_any p (ns ++ n ∷ [])) ≡ ((b || list_any p ns) || p n)
    by_test true e = refl
    by_test false e = e

pub any_none : (p : ℕ → Bool) → list_any p (numbers 0) ≡ false
unfolding numbers
any_none p = refl

any_at : (p : ℕ → Bool) (n : ℕ) → list_any p (numbers (n + 1)) ≡ (list_any p (numbers n) || p (n + 1))
unfolding numbers
any_at p n = rw add-one (any_more p (numbers n) (suc n))

-- none so far, and not the next one
pub any_next : (p : ℕ → Bool) (n : ℕ) → list_any p (numbers n) ≡ false → p (n + 1) ≡ false
    → list_any p (numbers (n + 1)) ≡ false
any_next p n e f = any_at p n ∙ ap (λ b. b || p (n + 1)) e ∙ f

any_behind : (p : ℕ → Bool) (n k : ℕ) → p (n + 1) ≡ true → list_any p (numbers ((n + 1) + k)) ≡ true
any_behind p n zero e =
    let same : (n + 1) + zero ≡ n + 1 = omega arith in
    ap (λ k. list_any p (numbers k)) same ∙ any_at p n ∙ by_test (list_any p (numbers n)) (p (n + 1)) e
  where
    by_test : (a b : Bool) → b ≡ true → (a || b) ≡ true
    by_test true b e = refl
    by_test false b e = e
any_behind p n (suc k) e =
    let same : (n + 1) + suc k ≡ ((n + 1) + k) + 1 = omega arith in
    ap (λ k. list_any p (numbers k)) same ∙ any_at p ((n + 1) + k)
    ∙ ap (λ b. b || p (((n + 1) + k) + 1)) (any_behind p n k e)

-- one of them is
pub any_found : (p : ℕ → Bool) (n most : ℕ) → n < most → p (n + 1) ≡ true → list_any p (numbers most) ≡ true
any_found p n most l e =
    let same : most ≡ (n + 1) + (most - (n + 1)) = omega arith in
    ap (λ k. list_any p (numbers k)) same ∙ any_behind p n (most - (n + 1)) e
