-- Stories whose answers are filled in.
use Rattle.std.specs.Prelude.{ℕ, ◌-◌, List, [], ◌∷◌, ◌++◌, codes, drop, filter_map, length, map, max, nat_eq, option_and_then, replicate, take, Option, Some, None, if◌then◌else◌}
use Rattle.std.specs.List.{ends_with, fold, join_with_byte}
use Rattle.pif_script_model.specs.declared.forms.Form.{Form}
use Rattle.pif_script_model.specs.declared.forms.Form.TheVariants.{Number}
use Rattle.pif_script_model.specs.Answers.{form_in, in_form}
use Rattle.pif_script_model.specs.Verdicts.{printable}
use Rattle.pif_script_model.specs.Lines.{StoryRow, commentless, lines, plain_line, plain_lines, row_in, without_blanks, without_mark}

-- the greater of this width and that of a command
abbrev pub wider : ℕ → StoryRow → ℕ
wider width row = max width (length row.0)

-- the length of the longest command of these lines, if it is more than this
unfoldable pub width_from : ℕ → List (List ℕ) → ℕ
width_from least lines = fold wider least (filter_map row_in lines)

-- a command and its answer, which stands behind so many columns
abbrev pub answered_row : (width : ℕ) → (command answer : List ℕ) → List ℕ
answered_row width command answer = command ++ replicate (width - length command) 32 ++ codes " = " ++ answer

-- the form in which an answer is written, if it is that of an error
abbrev pub form_written : Option (List ℕ) → Option Form
form_written written = option_and_then form_in written

-- this form, or else another one
abbrev pub form_or : Option Form → (other : Form) → Form
form_or None other = other
form_or (Some form) other = form

-- the form of a line's answer, if it has one of an error, or else another one
abbrev pub form_of_row : Option StoryRow → (other : Form) → Form
form_of_row None other = other
form_of_row (Some row) other = form_or (form_written row.1) other

-- the first form in which these lines have the answer of an error; that by numbers, if none has one
unfoldable pub form_from : List (List ℕ) → Form
form_from [] = Number
form_from (line ∷ lines) = form_of_row (row_in line) (form_from lines)

-- what stands behind the words of a line: blanks, a comment, and a CR
unfoldable pub behind_words : List ℕ → List ℕ
behind_words line = drop (length (without_blanks (commentless line))) line

-- the first of these answers, and those behind it
abbrev pub next_answer : List (List ℕ) → List ℕ
next_answer [] = []
next_answer (answer ∷ more) = answer

abbrev pub more_answers : List (List ℕ) → List (List ℕ)
more_answers [] = []
more_answers (answer ∷ more) = more

-- a command with the first of these answers, in the form of the one that is written, or else in this one
abbrev pub filled_row : (width : ℕ) → Form → StoryRow → (answers : List (List ℕ)) → List ℕ
filled_row width form row answers =
    answered_row width row.0 (in_form (form_or (form_written row.1) form) (next_answer answers))

-- a line with the first of these answers, if it has a command
abbrev pub filled_line : (width : ℕ) → Form → List ℕ → (answers : List (List ℕ)) → List ℕ
filled_line width form line answers =
    elim (row_in (plain_line line)) [
      | None ↦ line
      | Some row ↦ filled_row width form row answers ++ behind_words line
    ]

-- the answers for the lines behind it
abbrev pub answers_behind : List ℕ → List (List ℕ) → List (List ℕ)
answers_behind line answers = elim (row_in (plain_line line)) [ None ↦ answers | Some row ↦ more_answers answers ]

-- these lines with these answers to their commands
unfoldable pub filled_lines : (width : ℕ) → Form → List (List ℕ) → (answers : List (List ℕ)) → List (List ℕ)
filled_lines width form [] answers = []
filled_lines width form (line ∷ lines) answers =
    filled_line width form line answers ∷ filled_lines width form lines (answers_behind line answers)

-- a story with these answers to its commands, in the column behind the longest, and in the form that the story has; all
-- else stays
unfoldable pub filled_text : List ℕ → (answers : List (List ℕ)) → List ℕ
filled_text story answers =
    take (length story - length (without_mark story)) story
    ++ join_with_byte 10
    (filled_lines (width_from 0 (plain_lines story)) (form_from (plain_lines story)) (lines (without_mark story)) answers)

-- ---- several stories behind one another

-- a text with an LF at its end
unfoldable pub ended : List ℕ → List ℕ
ended text = if ends_with nat_eq text (10 ∷ []) then text else text ++ 10 ∷ []

-- a story behind a comment with its name, so that another one may stand behind it: a byte order mark at its front, which
-- would not be at the front, is left out
unfoldable pub titled : (name : List ℕ) → List ℕ → List ℕ
titled name story = codes "# " ++ map printable name ++ 10 ∷ ended (without_mark story)
