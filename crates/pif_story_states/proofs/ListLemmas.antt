-- Texts of so many numbers, one behind the other.
use Rattle.std.proofs.Common.{◌≡◌, ℕ, suc, ◌+◌, List, [], ◌∷◌, ◌++◌, sym, ap, ◌∙◌, append-nil, append_assoc, add-one}
use Rattle.std.specs.Prelude.{flat_map}
use Rattle.std.proofs.lemmas.List.Concat.{flat_map-append}
use Rattle.pif_text.specs.Json.{numbers}

module _ (text : ℕ → List ℕ) where
  -- at first none was appended
  pub texts_start : (before : List ℕ) → before ≡ before ++ flat_map text (numbers 0)
  unfolding numbers
  texts_start before = sym (append-nil before)

  next : (n : ℕ) → flat_map text (numbers (n + 1)) ≡ flat_map text (numbers n) ++ text (n + 1)
  unfolding numbers
  next n =
      rw add-one
      (flat_map-append text (numbers n) (suc n ∷ [])
      ∙ ap (λ l. flat_map text (numbers n) ++ l) (append-nil (text (suc n))))

  -- and then one more
  pub texts_on : (before whole : List ℕ) (n : ℕ) → whole ≡ before ++ flat_map text (numbers n)
      → whole ++ text (n + 1) ≡ before ++ flat_map text (numbers (n + 1))
  texts_on before whole n e = rw (e, next n) (append_assoc before (flat_map text (numbers n)) (text (n + 1)))

-- four texts behind others
pub four_texts : (a b c d e : List ℕ) → a ++ b ++ c ++ d ++ e ≡ a ++ (b ++ c ++ d ++ e)
four_texts a b c d e = simp append_assoc
