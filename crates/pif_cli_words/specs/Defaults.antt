-- Numbers that may be left out of the words: `explore --core` without one plays 10,000 schedules.
use Rattle.std.specs.Prelude.{Bool, false, ◌&&◌, not, List, [], ◌∷◌, codes, bytes_eq, if◌then◌else◌}
use Rattle.std.specs.Char.{is_ascii_digit}
use Rattle.std.specs.List.{list_all}
use Rattle.clap.specs.Words.{Text}

-- a text that is a number: digits alone, and at least one
abbrev pub is_number : Text → Bool
is_number [] = false
is_number (b ∷ bytes) = list_all is_ascii_digit (b ∷ bytes)

-- words of which the first is a number
abbrev pub begins_with_number : List Text → Bool
begins_with_number [] = false
begins_with_number (word ∷ words) = is_number word

-- a word that is `--core`, and needs a number, since none stands after it
abbrev pub lacks_number : Text → (behind : List Text) → Bool
lacks_number word behind = bytes_eq word (codes "--core") && not (begins_with_number behind)

-- the words after `explore`, with the number of each `--core` that has none; after `--` they are files
abbrev pub with_numbers : List Text → List Text
with_numbers [] = []
with_numbers (word ∷ words) =
    if bytes_eq word (codes "--") then word ∷ words
    else (if lacks_number word words then word ∷ codes "10000" ∷ with_numbers words else word ∷ with_numbers words)

-- the words of the program, its name first, with the numbers that were left out
abbrev pub completed : List Text → List Text
completed [] = []
completed (name ∷ []) = name ∷ []
completed (name ∷ command ∷ words) =
    if bytes_eq command (codes "explore") then name ∷ command ∷ with_numbers words else name ∷ command ∷ words
