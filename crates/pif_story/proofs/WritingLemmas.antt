-- Texts that are written part by part.
use Rattle.std.proofs.Common.{◌≡◌, ◌<◌, ◌≤◌, ◌+◌, ℕ, List, [], ◌∷◌, ◌++◌, Option, Result, Ok, Err, refl, sym, ap, ◌∙◌, subst, append-nil, append_assoc, take, drop, suc, length, get_or, take_all, take-append-drop}
use Rattle.std.proofs.lemmas.List.{drop_more}
use Rattle.std.proofs.KnownBytes.{Appends-nil, Appends-trans}
use Rattle.std.specs.Io.KnownBytes.{Appends}
use Rattle.std.specs.Prelude.{flat_map}
use Rattle.pif_script_model.specs.declared.faults.CliFault.{CliFault}
use Rattle.pif_script_model.specs.Runs.{Writes}
use Rattle.pif_script_model.proofs.RunLemmas.{Writes-more}

-- not all of the first part was written
pub Writes-front : (one other : List ℕ) (h k : Option (List ℕ)) (e : CliFault) → Writes h k one (Err e)
    → Writes h k (one ++ other) (Err e)
Writes-front one other h k e w = Writes-more [] one one other h h k e (Appends-nil h) refl w

-- the first part was written, and the other one, or not all of it
pub Writes-behind : (one text other : List ℕ) (h k l : Option (List ℕ)) (result : Result (Unit {0}) CliFault)
    → Appends h k one → text ≡ other → Writes k l text result → Writes h l (one ++ other) result
Writes-behind one text other h k l (Ok x) a e w =
    subst (λ t. Appends h l (one ++ t)) e (Appends-trans h k l one text a w)
Writes-behind one text other h k l (Err x) a e w =
    subst (λ t. Writes h l (one ++ t) (Err x)) (append-nil other) (Writes-more one text other [] h k l x a e w)

module _ {A : Type 0} (line : A → List ℕ) where
  flat-append : (xs ys : List A) → flat_map line (xs ++ ys) ≡ flat_map line xs ++ flat_map line ys
  flat-append [] ys = refl
  flat-append (x ∷ xs) ys =
      ap (λ l. line x ++ l) (flat-append xs ys) ∙ sym (append_assoc (line x) (flat_map line xs) (flat_map line ys))

  -- the lines of what stands before a place, of what stands there, and of what stands behind it
  pub lines_at : (xs : List A) (i : ℕ) (d : A) → i < length xs
      → flat_map line xs ≡ flat_map line (take i xs) ++ (line (get_or xs i d) ++ flat_map line (drop (i + 1) xs))
  lines_at xs i d lt =
      ap (flat_map line) (sym (take-append-drop i xs)) ∙ flat-append (take i xs) (drop i xs)
      ∙ ap (λ l. flat_map line (take i xs) ++ flat_map line l) (drop_more xs i d lt)
