-- What a check of a story comes to.
use Rattle.std.specs.Prelude.{ℕ, ◌-◌, ◌==◌, nat_le, nat_eq, Bool, not, ◌&&◌, List, [], ◌∷◌, ◌++◌, length, map, filter, filter_map, flat_map, take, slice_get, Option, Some, None, if◌then◌else◌, codes, decimal, bytes_eq}
use Rattle.std.specs.List.{starts_with, zip}
use Rattle.pif_text_model.specs.declared.replies.Cause.{Cause}
use Rattle.pif_text_model.specs.Replies.{fault_of}
use Rattle.pif_script_model.specs.declared.flaws.Flaw.{Flaw as Found}
use Rattle.pif_script_model.specs.declared.flaws.Flaw.TheVariants as found
use Rattle.pif_script_model.specs.Answers.{says}
use Rattle.pif_script_model.specs.Lines.{StoryRow, is_no_blank}

-- why a story is not ok
pub data Flaw : Type 0 where
  -- the command in the line of this number is a fault, for this cause
  faulty : ℕ → List ℕ → Cause → Flaw
  -- behind the command in the line of this number stands an answer, and `run` prints another, the last one here
  differing : ℕ → List ℕ → List ℕ → List ℕ → Flaw
  -- behind the command in the line of this number stands no answer, and `run` prints this refusal for it
  refusing : ℕ → List ℕ → List ℕ → Flaw

-- the first line of a script that is a fault, by its number, and the cause
abbrev pub Fault : Type 0
Fault = ℕ × Cause

-- whether `run` prints that a command is refused
unfoldable pub is_refusal : List ℕ → Bool
is_refusal given = starts_with nat_eq given (codes "refused ")

-- the flaw of a command in the line of this number, by the answer that is written and by what `run` prints, if it has
-- one: the written answer says another thing; or none is written, and a strict check wants one beside each refusal
abbrev pub flaw_beside : (strict : Bool) → ℕ → List ℕ → (written : Option (List ℕ)) → (given : List ℕ) → Option Flaw
flaw_beside strict line command None given =
    if strict && is_refusal given then Some (refusing line command given) else None
flaw_beside strict line command (Some written) given =
    if says written given then None else Some (differing line command written given)

-- the same of a command beside what `run` prints for it
abbrev pub flaw_at : (strict : Bool) → (ℕ × StoryRow) × List ℕ → Option Flaw
flaw_at strict pair = flaw_beside strict pair.0.0 pair.0.1.0 pair.0.1.1 pair.1

-- the flaw of the command that is a fault; one behind the last command is at the last line
abbrev pub fault_at : (last : ℕ) → Cause → Option (ℕ × StoryRow) → Flaw
fault_at last cause (Some row) = faulty row.0 row.1.0 cause
fault_at last cause None = faulty last [] cause

-- the flaw of the first fault, if there is one
abbrev pub fault_flaws : (last : ℕ) → Option Fault → List (ℕ × StoryRow) → List Flaw
fault_flaws last None rows = []
fault_flaws last (Some fault) rows = fault_at last fault.1 (slice_get rows (fault.0 - 1)) ∷ []

-- the commands that are answered: those before the one that is a fault
abbrev pub rows_before : Option Fault → List (ℕ × StoryRow) → List (ℕ × StoryRow)
rows_before None rows = rows
rows_before (Some fault) rows = take (fault.0 - 1) rows

-- all flaws of these commands beside the lines that `run` prints for them, in the order of the lines: those of commands
-- that are answered, and then the fault
unfoldable pub flaws_of_rows : (strict : Bool) → (last : ℕ) → Option Fault → List (ℕ × StoryRow)
    → (answers : List (List ℕ)) → List Flaw
flaws_of_rows strict last fault rows answers =
    filter_map (flaw_at strict) (zip (rows_before fault rows) answers) ++ fault_flaws last fault rows

-- ---- how flaws are said

-- a byte of ASCII that shows stands for itself, and another one shows as a question mark
abbrev pub printable : ℕ → ℕ
printable byte = if nat_le 32 byte && nat_le byte 126 then byte else 63

-- a text as it is shown: at most 120 bytes of it
abbrev pub shown : List ℕ → List ℕ
shown text = map printable (take 120 text)

-- whether two texts have the same bytes besides their blanks
unfoldable pub same_but_blanks : (one other : List ℕ) → Bool
same_but_blanks one other = bytes_eq (filter is_no_blank one) (filter is_no_blank other)

-- a text as it is shown, in quotes if it is to have them
abbrev pub shown_quoted : (quoted : Bool) → List ℕ → List ℕ
shown_quoted quoted text = if quoted then codes "'" ++ shown text ++ codes "'" else shown text

-- the line of a story of this name that is ok
abbrev pub ok_line : (name : List ℕ) → ℕ → List ℕ
ok_line name commands = codes "ok " ++ name ++ codes " " ++ decimal commands ++ codes "\n"

-- the line of a fault
abbrev pub faulty_line : (name : List ℕ) → ℕ → List ℕ → Cause → List ℕ
faulty_line name line command cause =
    name ++ codes ": " ++ fault_of line cause ++ codes ": " ++ shown command ++ codes "\n"

-- the line of an answer that is another one than `run` prints; both stand in quotes if they differ in blanks alone
abbrev pub differing_line : (name : List ℕ) → ℕ → List ℕ → List ℕ → List ℕ → List ℕ
differing_line name line command written given =
    let quoted = same_but_blanks written given in
    name ++ codes ": differs " ++ decimal line ++ codes ": " ++ shown command ++ codes " = "
    ++ shown_quoted quoted written ++ codes ", but the core gives " ++ shown_quoted quoted given ++ codes "\n"

-- the line of a refusal that has no answer beside it
abbrev pub refusing_line : (name : List ℕ) → ℕ → List ℕ → List ℕ → List ℕ
refusing_line name line command given =
    name ++ codes ": refused " ++ decimal line ++ codes ": " ++ shown command ++ codes ": " ++ shown given
    ++ codes "\n"

-- the line of a flaw of a story of this name
unfoldable pub flaw_line : (name : List ℕ) → Flaw → List ℕ
flaw_line name (faulty line command cause) = faulty_line name line command cause
flaw_line name (differing line command written given) = differing_line name line command written given
flaw_line name (refusing line command given) = refusing_line name line command given

-- the line of so many flaws that have none of their own, if there are any
abbrev pub more_line : (name : List ℕ) → ℕ → List ℕ
more_line name more =
    if more == 0 then [] else name ++ codes ": and " ++ decimal more ++ codes " more\n"

-- the lines of flaws: one for each of the first 20, and one for all behind them
unfoldable pub flaw_lines : (name : List ℕ) → List Flaw → List ℕ
flaw_lines name flaws = flat_map (flaw_line name) (take 20 flaws) ++ more_line name (length flaws - 20)

-- what is said of a story of this name with so many commands and these flaws
abbrev pub verdict_text : (name : List ℕ) → (commands : ℕ) → List Flaw → List ℕ
verdict_text name commands [] = ok_line name commands
verdict_text name commands (flaw ∷ more) = flaw_lines name (flaw ∷ more)

-- ---- flaws as the code has them

abbrev pub flaw_of : Found → Flaw
flaw_of (found.Fault line command cause) = faulty line command.now cause
flaw_of (found.Differs line command written given) = differing line command.now written.now given.now
flaw_of (found.Refused line command given) = refusing line command.now given.now

abbrev pub flaws_of : List Found → List Flaw
flaws_of flaws = map flaw_of flaws
