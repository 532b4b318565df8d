-- The greater of two numbers, and as much of a text as is shown.
use Rattle.std.proofs.Common.{◌≡◌, ℕ, ◌≤◌, ◌==◌, nat_lt, Bool, true, false, cond, Less, Equal, Greater, List, [], ◌∷◌, zero, suc, length, map, max, min, take, refl, sym, ap, ◌∙◌, arith}
use Rattle.std.specs.List.{flat_map}
use Rattle.std.proofs.lemmas.List.Folds.{flat_map-map}
use Rattle.pif_script_model.specs.declared.flaws.Flaw.{Flaw as Found}
use Rattle.std.specs.Ordering.{is_lt, nat_cmp, ord_max}
use Rattle.std.proofs.lemmas.Bool.Decides.{nat_tests}
use Rattle.std.proofs.lemmas.List.{take_min}
use Rattle.pif_script_model.specs.Verdicts.{flaw_line, flaw_of, flaws_of, printable, shown}

pub greater_is : (a b : ℕ) → ord_max nat_cmp a b ≡ max a b
greater_is a b = by_tests (nat_lt b a) (b == a) refl
  where
    by_tests : (t u : Bool) → nat_lt b a ≡ t → cond (is_lt (cond t Less (cond u Equal Greater))) a b ≡ max a b
    by_tests true u e = grind (arith, nat_tests)
    by_tests false true e = grind (arith, nat_tests)
    by_tests false false e = grind (arith, nat_tests)

-- all bytes that are shown of a text
pub shown_whole : (text : List ℕ) (count : ℕ) → count ≡ min 120 (length text)
    → map printable (take count text) ≡ shown text
shown_whole text count c = ap (λ n. map printable (take n text)) c ∙ ap (map printable) (take_min 120 text)

-- the lines of all flaws that have one
pub flaws_told : (name : List ℕ) (flaws : List Found) (count : ℕ) → count ≡ min 20 (length flaws)
    → flat_map (λ found. flaw_line name (flaw_of found)) (take count flaws)
    ≡ flat_map (flaw_line name) (take 20 (flaws_of flaws))
flaws_told name flaws count c =
    ap (λ n. flat_map (λ found. flaw_line name (flaw_of found)) (take n flaws)) c
    ∙ ap (flat_map (λ found. flaw_line name (flaw_of found))) (take_min 20 flaws)
    ∙ sym (flat_map-map (flaw_line name) flaw_of (take 20 flaws))
    ∙ ap (flat_map (flaw_line name)) (sym (take-map 20 flaws))
  where
    take-map : (n : ℕ) (found : List Found) → take n (map flaw_of found) ≡ map flaw_of (take n found)
    take-map zero found = refl
    take-map (suc n) [] = refl
    take-map (suc n) (flaw ∷ more) = ap (λ l. flaw_of flaw ∷ l) (take-map n more)
