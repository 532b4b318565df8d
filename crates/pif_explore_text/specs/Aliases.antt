-- Names that a file gives to what it adds. A word that is one of them stands for the number behind `t`, `m`, `c` or `x`.
use Rattle.std.specs.Prelude.{ℕ, List, [], ◌∷◌, ◌++◌, flat_map, if◌then◌else◌, bytes_eq}

-- a name, and the word for which it stands
pub record Alias : Type 0 where
  pub name : List ℕ
  pub meant : List ℕ

-- what a word stands for
abbrev pub meant_by : List Alias → List ℕ → List ℕ
meant_by [] word = word
meant_by (a ∷ more) word = if bytes_eq word a.name then a.meant else meant_by more word

-- what words stand for, each behind a space
abbrev pub meant_text : List Alias → List (List ℕ) → List ℕ
meant_text aliases words = flat_map (λ word. 32 ∷ meant_by aliases word) words

-- words but the last, each behind a space
abbrev pub text_before_last : List (List ℕ) → List ℕ
text_before_last [] = []
text_before_last (word ∷ []) = []
text_before_last (word ∷ next ∷ more) = (32 ∷ word) ++ text_before_last (next ∷ more)

-- the last word
abbrev pub last_word : List (List ℕ) → List ℕ
last_word [] = []
last_word (word ∷ []) = word
last_word (word ∷ next ∷ more) = last_word (next ∷ more)
