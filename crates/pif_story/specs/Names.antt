-- The names that the comments of a story give its threads.
use Rattle.std.specs.Prelude.{ℕ, ◌+◌, ◌-◌, ◌==◌, ◌&&◌, ◌||◌, nat_le, nat_lt, Bool, List, [], ◌∷◌, ◌++◌, drop, flat_map, is_some, length, option_map, slice_index, take, Option, Some, None, if◌then◌else◌}
use Rattle.std.specs.Char.{is_ascii_digit}
use Rattle.std.specs.List.{list_all}
use Rattle.std.specs.Str.Lines.{strip_carriage_return}
use Rattle.pif_text_model.specs.Numbers.{thread_in}
use Rattle.pif_text_model.specs.Words.{words}
use Rattle.pif_script_model.specs.Lines.{commentless, lines, plain, without_mark}

-- what stands in a line behind its first `#`, without a CR at its end
abbrev pub comment_of : List ℕ → List ℕ
comment_of line = drop (length (commentless line) + 1) (strip_carriage_return line)

-- a letter, a digit, `_`, `-` or `.`
unfoldable pub is_name_byte : ℕ → Bool
is_name_byte byte =
    nat_le 97 byte && nat_le byte 122 || nat_le 65 byte && nat_le byte 90 || nat_le 48 byte && nat_le byte 57
    || byte == 95 || byte == 45 || byte == 46

-- a name for a person: 1 to 24 such bytes
unfoldable pub is_name : List ℕ → Bool
is_name word = nat_lt 0 (length word) && nat_le (length word) 24 && list_all is_name_byte word

-- the thread of a word `tN:`
abbrev pub thread_named : List ℕ → Option ℕ
thread_named word =
    if nat_lt 0 (length word) && slice_index word (length word - 1) == 58
    then thread_in (take (length word - 1) word) else None

-- what these words name: a thread and a colon, and behind it its name
abbrev pub naming_by : List (List ℕ) → Option (ℕ × List ℕ)
naming_by [] = None
naming_by (first ∷ []) = None
naming_by (first ∷ second ∷ []) =
    if is_name second then option_map (λ t. (t, second)) (thread_named first) else None
naming_by (first ∷ second ∷ third ∷ more) = None

-- what a text names that has one space between its words
unfoldable pub naming_in : List ℕ → Option (ℕ × List ℕ)
naming_in text = naming_by (words text)

-- the comment of a line, with one space between its words, as a line, if it names a thread
abbrev pub naming_line : List ℕ → List ℕ
naming_line line =
    if is_some (naming_in (plain (comment_of line))) then plain (comment_of line) ++ 10 ∷ [] else []

-- the comments of a story that name threads, as lines
unfoldable pub names_in : List ℕ → List ℕ
names_in story = flat_map naming_line (lines (without_mark story))

-- the first of these lines that names a thread counts
abbrev pub name_by : ℕ → Option (ℕ × List ℕ) → Option (List ℕ) → Option (List ℕ)
name_by t None other = other
name_by t (Some naming) other = if naming.0 == t then Some naming.1 else other

unfoldable pub first_name : ℕ → List (List ℕ) → Option (List ℕ)
first_name t [] = None
first_name t (line ∷ lines) = name_by t (naming_in line) (first_name t lines)

-- the name of a thread by such lines
unfoldable pub name_of : (names : List ℕ) → ℕ → Option (List ℕ)
name_of names t = first_name t (lines names)
