-- The levels of a run queue: what stands on each after one has joined or left, and once each is as told.
use Rattle.std.proofs.Common.{◌≡◌, ◌≢◌, ◌⊎◌, ℕ, zero, suc, ◌≤◌, ◌<◌, List, [], ◌∷◌, ◌++◌, filter, length, get_or, map, refl, sym, ap, ◌∙◌, arith, inl, inr, length-set, get_or-set_other, get_or-set_same}
use Rattle.std.proofs.Math.ListN.{get_or-append}
use Rattle.std.proofs.lemmas.Bool.{cases_eq}
use Rattle.std.proofs.lemmas.List.{get_or_past, get_or_push, length_push, length-map, map-append}
use Rattle.pif_model.specs.PiKernel.{numbers, levels_by, level_at, levels_with, levels_without}
use Rattle.pif_model_lemmas.proofs.Places.{mapped_at}
use Rattle.pif_model_lemmas.proofs.kernel.Numbers.{is_other, numbers-more, numbers-none}

-- WHO HAS LEFT AND JOINED

-- the levels that one has left
pub level-left : (t : ℕ) (levels : List (List ℕ)) (p : ℕ)
    → level_at (levels_without t levels) p ≡ filter (is_other t) (level_at levels p)
level-left t levels p = mapped_at (filter (is_other t)) levels p []

-- as many levels
pub length-left : (t : ℕ) (levels : List (List ℕ)) → length (levels_without t levels) ≡ length levels
length-left t levels = length-map levels (filter (is_other t))

-- the level that one has joined
pub level-joined_same : (t p : ℕ) (levels : List (List ℕ)) → p < length levels
    → level_at (levels_with t p levels) p ≡ level_at levels p ++ t ∷ []
level-joined_same t p levels l = get_or-set_same levels p (level_at levels p ++ t ∷ []) [] l

-- the others are as before
pub level-joined_other : (t p : ℕ) (levels : List (List ℕ)) (q : ℕ) → q ≢ p
    → level_at (levels_with t p levels) q ≡ level_at levels q
level-joined_other t p levels q n = get_or-set_other levels p q (level_at levels p ++ t ∷ []) [] n

-- as many levels
pub length-joined : (t p : ℕ) (levels : List (List ℕ)) → length (levels_with t p levels) ≡ length levels
length-joined t p levels = length-set levels p (level_at levels p ++ t ∷ [])

-- EACH AS TOLD

-- as many as there are numbers
length-numbers : (n : ℕ) → length (numbers n) ≡ n
length-numbers zero = ap length numbers-none
length-numbers (suc n) = ap length (numbers-more n) ∙ length_push (numbers n) (suc n) ∙ omega (arith, length-numbers n)

-- what stands for each number
told : (f : ℕ → List ℕ) (n i : ℕ) → i < n → get_or (map f (numbers n)) i [] ≡ f (suc i)
told f zero i l = absurd (omega arith)
told f (suc n) i l =
    ap (λ xs. get_or (map f xs) i []) (numbers-more n)
    ∙ ap (λ xs. get_or xs i []) (map-append f (numbers n) (suc n ∷ []))
    ∙ by_place (cases_eq i n) (λ less. told f n i less)
  where
    many : length (map f (numbers n)) ≡ n
    many = length-map (numbers n) f ∙ length-numbers n

    by_place : (i ≡ n) ⊎ (i ≢ n) → (i < n → get_or (map f (numbers n)) i [] ≡ f (suc i))
        → get_or (map f (numbers n) ++ f (suc n) ∷ []) i [] ≡ f (suc i)
    by_place (inl e) ih = get_or_push (map f (numbers n)) (f (suc n)) [] i (many ∙ sym e) ∙ ap (λ j. f (suc j)) (sym e)
    by_place (inr d) ih =
        get_or-append (map f (numbers n)) (f (suc n) ∷ []) [] i (omega (arith, many)) ∙ ih (omega arith)

-- the number of levels
pub length-levels_by : (f : ℕ → List ℕ) → length (levels_by f) ≡ 100
unfolding levels_by
length-levels_by f = omega (arith, length-map (numbers 99) f, length-numbers 99)

-- a level of 1 to 99 is as told
pub level-by : (f : ℕ → List ℕ) (p : ℕ) → 1 ≤ p → p ≤ 99 → level_at (levels_by f) p ≡ f p
unfolding levels_by
level-by f zero l k = absurd (omega arith)
level-by f (suc p) l k = told f 99 p (omega arith)

-- nobody stands at place 0
pub level-by_none : (f : ℕ → List ℕ) → level_at (levels_by f) 0 ≡ []
unfolding levels_by
level-by_none f = refl

-- nor past the levels
pub level-by_past : (f : ℕ → List ℕ) (p : ℕ) → 100 ≤ p → level_at (levels_by f) p ≡ []
level-by_past f p l = get_or_past (levels_by f) p [] (omega (arith, length-levels_by f))
