-- The levels of the kernel by itself, place by place.
use Rattle.std.proofs.Common.{◌≡◌, ◌⊎◌, ℕ, zero, suc, ◌+◌, ◌<◌, ◌≤◌, ◌==◌, true, false, if◌then◌else◌, List, [], ◌∷◌, ◌++◌, length, refl, sym, ap, ◌∙◌, inl, inr, arith}
use Rattle.std.specs.List.{range_with_len}
use Rattle.std.proofs.lemmas.Bool.{cases_eq, cases_lt}
use Rattle.std.proofs.lemmas.Bool.Decides.{nat_tests}
use Rattle.pif_model.specs.Graph.{is_priority}
use Rattle.pif_model.specs.PiKernel.{numbers, levels_by, level_at, levels_with}
use Rattle.pif_model_lemmas.proofs.kernel.Numbers.{numbers-none, numbers-more}
use Rattle.pif_model_lemmas.proofs.kernel.Levels.{level-by, level-by_none, level-by_past, level-joined_same, level-joined_other}

range_more : (a n : ℕ) → range_with_len a (suc n) ≡ range_with_len a n ++ (a + n) ∷ []
range_more a zero = let e : a ≡ a + 0 = omega arith in ap (λ (x : ℕ). x ∷ []) e
range_more a (suc n) =
    let e : (a + 1) + n ≡ a + suc n = omega arith in
    ap (λ (xs : List ℕ). a ∷ xs) (range_more (a + 1) n ∙ ap (λ (x : ℕ). range_with_len (a + 1) n ++ x ∷ []) e)

-- the numbers from 1 to n are a range
pub range_numbers : (n : ℕ) → range_with_len 1 n ≡ numbers n
range_numbers zero = sym numbers-none
range_numbers (suc n) =
    let e : 1 + n ≡ suc n = omega arith in
    range_more 1 n ∙ ap (λ (xs : List ℕ). xs ++ (1 + n) ∷ []) (range_numbers n) ∙ ap (λ (x : ℕ). numbers n ++ x ∷ []) e
    ∙ sym (numbers-more n)

-- level p of levels that are each what a function has at it
pub level-levels_by : (f : ℕ → List ℕ) (p : ℕ) → level_at (levels_by f) p ≡ (if is_priority p then f p else [])
level-levels_by f zero = level-by_none f
level-levels_by f (suc i) = by_place (cases_lt (suc i) 100)
  where
    by_place : ((suc i < 100) ⊎ (100 ≤ suc i))
        → level_at (levels_by f) (suc i) ≡ (if is_priority (suc i) then f (suc i) else [])
    by_place (inl l) =
        let yes : is_priority (suc i) ≡ true = grind (arith, nat_tests) in
        level-by f (suc i) (omega arith) (omega arith) ∙ sym (rw yes refl)
    by_place (inr g) =
        let no : is_priority (suc i) ≡ false = grind (arith, nat_tests) in level-by_past f (suc i) g ∙ sym (rw no refl)

-- who joins a level stands at its end
pub level-joined : (t p : ℕ) (levels : List (List ℕ)) (r : ℕ) → p < length levels
    → level_at (levels_with t p levels) r ≡ (if r == p then level_at levels r ++ t ∷ [] else level_at levels r)
level-joined t p levels r l = by_place (cases_eq r p)
  where
    by_place : ((r ≡ p) ⊎ (r ≡ p → ⊥))
        → level_at (levels_with t p levels) r ≡ (if r == p then level_at levels r ++ t ∷ [] else level_at levels r)
    by_place (inl e) =
        let yes : (r == p) ≡ true = grind (arith, nat_tests) in
        ap (level_at (levels_with t p levels)) e ∙ level-joined_same t p levels l
        ∙ ap (λ (x : ℕ). level_at levels x ++ t ∷ []) (sym e) ∙ sym (rw yes refl)
    by_place (inr ne) =
        let no : (r == p) ≡ false = grind (arith, nat_tests) in level-joined_other t p levels r ne ∙ sym (rw no refl)
