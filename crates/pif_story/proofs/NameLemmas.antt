-- Names of threads, one line after the other.
use Rattle.std.proofs.Common.{◌≡◌, ℕ, ◌<◌, List, [], ◌∷◌, length, Option, Some, None, true, false, ◌≤◌, refl, sym, ap, ◌∙◌, ◌==◌, arith, if◌then◌else◌}
use Rattle.std.specs.Prelude.{option_copied, nat_le, nat_lt}
use Rattle.std.specs.List.{list_all, slice_split}
use Rattle.std.proofs.lemmas.Bool.Decides.{nat_tests}
use Rattle.std.proofs.lemmas.List.Splits.{length-slice_split}
use Rattle.pif_text_model.specs.Words.{words}
use Rattle.pif_script_model.specs.Lines.{lines_behind}
use Rattle.pif_story.specs.Names.{first_name, is_name, is_name_byte, name_by, naming_by, naming_in}

some_words : (text : List ℕ) → (first : List ℕ) × (more : List (List ℕ)) × (words text ≡ first ∷ more)
unfolding words
some_words text = by_list (slice_split (λ byte. byte == 32) text) (omega (arith, length-slice_split (λ byte. byte == 32) text))
  where
    by_list : (ws : List (List ℕ)) → 0 < length ws → (first : List ℕ) × (more : List (List ℕ)) × (ws ≡ first ∷ more)
    by_list [] l = absurd (omega arith)
    by_list (w ∷ ws) l = (w, ws, refl)

-- three words name nothing
pub words_many : (first second text : List ℕ) → naming_by (first ∷ second ∷ words text) ≡ None
words_many first second text = let some = some_words text in rw some.2 refl

pub name_nothing : (t : ℕ) → first_name t [] ≡ None
unfolding first_name
name_nothing t = refl

pub name_first : (t : ℕ) (line : List ℕ) (lines : List (List ℕ))
    → first_name t (line ∷ lines) ≡ name_by t (naming_in line) (first_name t lines)
unfolding first_name
name_first t line lines = refl

-- ---- names

pub name_within : (word : List ℕ) → 0 < length word → length word ≤ 24 → is_name word ≡ list_all is_name_byte word
unfolding is_name
name_within word l m =
    let p : nat_lt 0 (length word) ≡ true = grind (arith, nat_tests) in
    let q : nat_le (length word) 24 ≡ true = grind (arith, nat_tests) in
    rw (p, q) refl

pub name_long : (word : List ℕ) → 24 < length word → is_name word ≡ false
unfolding is_name
name_long word l =
    let p : nat_lt 0 (length word) ≡ true = grind (arith, nat_tests) in
    let q : nat_le (length word) 24 ≡ false = grind (arith, nat_tests) in
    rw (p, q) refl

pub name_empty : (word : List ℕ) → length word ≡ 0 → is_name word ≡ false
unfolding is_name
name_empty word l = rw l refl

-- ---- the name of a thread

module _ (whole : Option (List ℕ)) (t : ℕ) (line : List ℕ) (behind : List (List ℕ))
    (here : whole ≡ first_name t (line ∷ behind)) where
  pub name_found : (u : ℕ) (name : List ℕ) → Some (u, name) ≡ naming_in line → u ≡ t → Some name ≡ whole
  name_found u name e same =
      sym (here ∙ name_first t line behind ∙ ap (λ n. name_by t n (first_name t behind)) (sym e)
      ∙ ap (λ b. if b then Some name else first_name t behind) (equal u t same))
    where
      equal : (a b : ℕ) → a ≡ b → (a == b) ≡ true
      equal a b e = grind (arith, nat_tests)

  pub name_other : (u : ℕ) (name : List ℕ) → Some (u, name) ≡ naming_in line → (u ≡ t → ⊥) → whole ≡ first_name t behind
  name_other u name e other =
      here ∙ name_first t line behind ∙ ap (λ n. name_by t n (first_name t behind)) (sym e)
      ∙ ap (λ b. if b then Some name else first_name t behind) (unequal u t other)
    where
      unequal : (a b : ℕ) → (a ≡ b → ⊥) → (a == b) ≡ false
      unequal a b n = grind (arith, nat_tests)

  pub name_passed : None ≡ naming_in line → whole ≡ first_name t behind
  name_passed e = here ∙ name_first t line behind ∙ ap (λ n. name_by t n (first_name t behind)) (sym e)

pub name_out : (whole : Option (List ℕ)) (t : ℕ) → whole ≡ first_name t [] → None ≡ whole
name_out whole t e = sym (e ∙ name_nothing t)
