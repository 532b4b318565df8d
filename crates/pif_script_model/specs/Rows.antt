-- The commands of a story, one after the other: what they ask for, and what that does.
use Rattle.std.specs.Prelude.{ℕ, ◌≡◌, ◌+◌, nat_le, nat_lt, min, false, List, [], length, map, Option, Some, None, Result, Err, if◌then◌else◌}
use Rattle.pif_model.specs.Table.{Table}
use Rattle.pif_text_model.specs.declared.commands.Command.{Command}
use Rattle.pif_text_model.specs.declared.replies.Cause.{Cause}
use Rattle.pif_text_model.specs.declared.replies.Cause.TheVariants as cause
use Rattle.pif_text_model.specs.Commands.{command_in}
use Rattle.pif_script_model.specs.declared.faults.CliFault.{CliFault}
use Rattle.pif_script_model.specs.Running.{Answer, outcome_behind}
use Rattle.pif_script_model.specs.declared.rows.AnsweredRow.{AnsweredRow}
use Rattle.pif_script_model.specs.Checks.{check_end, script_fault}
use Rattle.pif_script_model.specs.Stories.{NumberedRow, rows_from, script_by}
use Rattle.pif_script_model.specs.Verdicts.{flaws_of_rows}

-- the number of a command's line, its words, and what they ask for
abbrev pub Asked : Type 0
Asked = ℕ × List ℕ × Option Command

-- a command of a story, so
abbrev pub asked_by : NumberedRow → Asked
asked_by row = (row.0, row.1.0, command_in row.1.0)

-- a command that is handed on with its answer, so
abbrev pub asked_in : AnsweredRow → Asked
asked_in row = (row.line, row.words.now, Some row.command)

-- these commands of a story are handed on: all of them, in their order. Each has the number of its line, its words, and
-- what they ask for
abbrev pub AreRowsOf : List NumberedRow → List AnsweredRow → Type 0
AreRowsOf numbered rows = map asked_in rows ≡ map asked_by numbered

-- what a command of these words does, or why it is a fault
abbrev pub words_outcome : Option Table → (words : List ℕ) → Result Answer Cause
words_outcome before words = elim (command_in words) [ None ↦ Err cause.Command | Some c ↦ outcome_behind before c ]

-- why a line of a script is a fault behind so many bytes, whatever it asks for: its LF, or the byte that is one too many
-- in it, is one too many in the script; or it has more than 120 bytes before its LF
unfoldable pub size_fault : (taken : ℕ) → (words : List ℕ) → Option Cause
size_fault taken words =
    if nat_le 16777216 (taken + min (length words) 120) then Some cause.Size
    else (if nat_lt 120 (length words) then Some cause.Long else None)

-- what a line of a script does behind so many bytes, or why it is a fault
abbrev pub line_outcome : Option Table → (taken : ℕ) → (words : List ℕ) → Result Answer Cause
line_outcome before taken words =
    elim (size_fault taken words) [ None ↦ words_outcome before words | Some cause ↦ Err cause ]

-- how filling in a story ends that is not too large, by its lines with nothing but their words
abbrev pub filling_end : List (List ℕ) → Result (Unit {0}) CliFault
filling_end lines =
    check_end (flaws_of_rows false (length lines) (script_fault (script_by (rows_from 1 lines))) (rows_from 1 lines) [])
