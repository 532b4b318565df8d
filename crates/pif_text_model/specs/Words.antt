-- The words of a line.
use Rattle.std.specs.Prelude.{ℕ, List, [], ◌==◌, Option, Some, None}
use Rattle.std.specs.List.{slice_split}

-- The words of a line: the parts between its spaces. Two spaces side by side, or one at an end, leave an empty word.
unfoldable pub words : List ℕ → List (List ℕ)
words line = slice_split (λ byte. byte == 32) line

-- The words behind a first word: those of what follows its space, or none.
abbrev pub words_behind : Option (List ℕ) → List (List ℕ)
words_behind None = []
words_behind (Some rest) = words rest
