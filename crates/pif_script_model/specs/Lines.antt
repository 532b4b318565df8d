-- The lines of a story.
use Rattle.std.specs.Prelude.{ℕ, ◌==◌, ◌||◌, not, Bool, true, false, List, [], ◌∷◌, drop, filter, map, Option, Some, None, nat_eq, if◌then◌else◌}
use Rattle.std.specs.List.{join_with_byte, list_all, slice_split, starts_with}
use Rattle.std.specs.Str.Lines.{strip_carriage_return}
use Rattle.pif_text_model.specs.Traces.{parts_of}

-- a byte order mark, as UTF-8 writes it
abbrev pub byte_order_mark : List ℕ
byte_order_mark = 239 ∷ 187 ∷ 191 ∷ []

-- a text without a byte order mark at its front
unfoldable pub without_mark : List ℕ → List ℕ
without_mark text = if starts_with nat_eq text byte_order_mark then drop 3 text else text

-- the lines of a text: the parts between its LFs. What stands behind the last LF is one more, and may be empty
unfoldable pub lines : List ℕ → List (List ℕ)
lines text = slice_split (λ byte. byte == 10) text

-- the lines behind a line: those of what stands behind its LF, if it has one
abbrev pub lines_behind : Option (List ℕ) → List (List ℕ)
lines_behind None = []
lines_behind (Some text) = lines text

-- ---- what stands in a line besides its words

-- a space or a tab
abbrev pub is_blank : ℕ → Bool
is_blank byte = byte == 32 || byte == 9

abbrev pub is_no_blank : ℕ → Bool
is_no_blank byte = not (is_blank byte)

-- what stands before a comment: a comment begins with the first `#`
unfoldable pub without_comment : List ℕ → List ℕ
without_comment [] = []
without_comment (byte ∷ more) = if byte == 35 then [] else byte ∷ without_comment more

-- a line without a CR at its end, and without the comment before that
abbrev pub commentless : List ℕ → List ℕ
commentless line = without_comment (strip_carriage_return line)

-- a text without the blanks at its end
unfoldable pub without_blanks : List ℕ → List ℕ
without_blanks [] = []
without_blanks (byte ∷ more) = if list_all is_blank (byte ∷ more) then [] else byte ∷ without_blanks more

-- whether a word has a byte
abbrev pub is_word : List ℕ → Bool
is_word [] = false
is_word (byte ∷ more) = true

-- the words of a text: what stands between its blanks
unfoldable pub words_in : List ℕ → List (List ℕ)
words_in text = filter is_word (slice_split is_blank text)

-- a text with one space between its words, and no other blank
unfoldable pub plain : List ℕ → List ℕ
plain text = join_with_byte 32 (words_in text)

-- a line with nothing but its words
abbrev pub plain_line : List ℕ → List ℕ
plain_line line = plain (commentless line)

-- the lines of a text, with nothing but their words; a byte order mark at its front is no part of them
abbrev pub plain_lines : List ℕ → List (List ℕ)
plain_lines text = map plain_line (lines (without_mark text))

-- ---- what a line says

-- a command, and the answer that is written behind it, if there is one
abbrev pub StoryRow : Type 0
StoryRow = List ℕ × Option (List ℕ)

-- a line that is empty or a comment says nothing
abbrev pub is_passed : List ℕ → Bool
is_passed [] = true
is_passed (byte ∷ more) = byte == 35

-- what a line says, by its parts before and behind its first ` = `, if it has one
abbrev pub row_by : List ℕ → Option (List ℕ × List ℕ) → StoryRow
row_by line None = (line, None)
row_by line (Some parts) = (parts.0, Some parts.1)

-- what a line with nothing but its words says
unfoldable pub row_in : List ℕ → Option StoryRow
row_in line = if is_passed line then None else Some (row_by line (parts_of line))
