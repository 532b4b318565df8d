-- What checking a story, or filling one in, does over a reader and a writer.
use Rattle.std.specs.Prelude.{ℕ, ◌≡◌, ◌⊎◌, ◌↔◌, ◌≤◌, nat_lt, Bool, true, false, is_ok, List, [], ◌∷◌, ◌++◌, length, take, Option, Some, None, Result, Ok, Err, if◌then◌else◌}
use Rattle.std.specs.Io.KnownBytes.{Appends, Consumes, Keeps}
use Rattle.pif_text_model.specs.declared.replies.Cause.TheVariants.{Size}
use Rattle.pif_script_model.specs.declared.faults.CliFault.{CliFault}
use Rattle.pif_script_model.specs.declared.faults.CliFault.TheVariants.{Differs, NoMemory, Read, Script, Write}
use Rattle.pif_script_model.specs.declared.ending.Ending.{Ending}
use Rattle.pif_script_model.specs.declared.ending.Ending.TheVariants as ending
use Rattle.pif_script_model.specs.declared.ending.End.{End}
use Rattle.pif_script_model.specs.Migrating.{IsAllRead}
use Rattle.pif_script_model.specs.Running.{script}
use Rattle.pif_script_model.specs.Runs.{WritesPart, output_of}
use Rattle.pif_script_model.specs.Transcripts.{script_end, script_reading}
use Rattle.pif_script_model.specs.Answers.{Says}
use Rattle.pif_script_model.specs.Filling.{filled_text, titled}
use Rattle.pif_script_model.specs.Lines.{lines, plain_lines}
use Rattle.pif_script_model.specs.Stories.{NumberedRow, count_in, rows_of, script_by, script_of}
use Rattle.pif_script_model.specs.Verdicts.{Fault, Flaw, differing, faulty, flaws_of_rows, is_refusal, refusing, verdict_text}

-- ---- the script of a story

-- all that `run` prints for a script of these bytes
unfoldable pub text_of_run : List ℕ → List ℕ
text_of_run bytes = output_of script (script_reading bytes)

-- the first fault, at a line that ends a script so
abbrev pub fault_by : ℕ → Ending → Option Fault
fault_by line (ending.Fault cause) = Some (line, cause)
fault_by line (ending.Differs reply) = None

-- the first fault of a script that ends so
abbrev pub fault_in : Result (List ℕ) End → Option Fault
fault_in (Ok text) = None
fault_in (Err end) = fault_by end.line end.ending

-- the first fault of a script of these bytes
unfoldable pub script_fault : List ℕ → Option Fault
script_fault bytes = fault_in (script_end bytes)

-- ---- flaws

-- all flaws of a story whose commands are compared with these lines; one of more than 16,777,216 bytes has the fault
-- `size` alone, at the line in which the first byte stands that is too many
unfoldable pub flaws_beside : (strict : Bool) → List ℕ → (answers : List (List ℕ)) → List Flaw
flaws_beside strict story answers =
    if nat_lt 16777216 (length story) then faulty (length (lines (take 16777216 story))) [] Size ∷ []
    else flaws_of_rows strict (length (plain_lines story)) (script_fault (script_of story)) (rows_of story) answers

-- all flaws of a story: its commands are compared with the lines that `run` prints for its script
unfoldable pub story_flaws : (strict : Bool) → List ℕ → List Flaw
story_flaws strict story = flaws_beside strict story (lines (text_of_run (script_of story)))

-- a check that meets this flaw first ends so
abbrev pub flaw_end : Flaw → CliFault
flaw_end (faulty line command cause) = Script line cause
flaw_end (differing line command written given) = Differs line
flaw_end (refusing line command given) = Differs line

-- how a check ends, by the flaws that it finds
abbrev pub check_end : List Flaw → Result (Unit {0}) CliFault
check_end [] = Ok tt
check_end (flaw ∷ more) = Err (flaw_end flaw)

-- ---- what is written

-- what is written for a story, and how that ends
abbrev pub Telling : Type 0
Telling = List ℕ × Result (Unit {0}) CliFault

-- so many commands and these flaws, told
abbrev pub flaws_telling : (name : List ℕ) → (commands : ℕ) → List Flaw → Telling
flaws_telling name commands flaws = (verdict_text name commands flaws, check_end flaws)

-- a check of a story of this name: that it is ok, or its flaws
unfoldable pub checked_telling : (strict : Bool) → (name : List ℕ) → List ℕ → Telling
checked_telling strict name story = flaws_telling name (count_in (plain_lines story)) (story_flaws strict story)

-- a check that passes over refusals that have no answer beside them
abbrev pub check_telling : (name : List ℕ) → List ℕ → Telling
check_telling name = checked_telling false name

-- a check that does not
abbrev pub strict_telling : (name : List ℕ) → List ℕ → Telling
strict_telling name = checked_telling true name

-- a story that is filled in, or what is told of these flaws
abbrev pub filled_or : (name : List ℕ) → List ℕ → List Flaw → Telling
filled_or name story [] = (filled_text story (lines (text_of_run (script_of story))), Ok tt)
filled_or name story (flaw ∷ more) = flaws_telling name 0 (flaw ∷ more)

-- a story of this name that is filled in: if it has a fault, what a check would tell of that alone
unfoldable pub fill_telling : (name : List ℕ) → List ℕ → Telling
fill_telling name story = filled_or name story (flaws_beside false story [])

-- a story that is filled in stands behind a comment with its name; all else that is told has the name in it
abbrev pub title_telling : (name : List ℕ) → Telling → Telling
title_telling name telling = if is_ok telling.1 then (titled name telling.0, telling.1) else telling

-- the same of one of several stories, each behind a comment with its name
unfoldable pub titled_telling : (name : List ℕ) → List ℕ → Telling
titled_telling name story = title_telling name (fill_telling name story)

-- of these bytes of a story, what is to be told was:
--   ended well, a fault or a difference: all was read, it ends so, and the text was written
--   a read failed, or out of memory: nothing was written
--   a write failed: a proper part of the text was, from its front
abbrev pub TellsOfStory : (List ℕ → Telling) → List ℕ → (after held holds : Option (List ℕ)) → Result (Unit {0}) CliFault
    → Type 0
TellsOfStory telling read after held holds (Ok x) =
    ((telling read).1 ≡ Ok x) × IsAllRead read after × Appends held holds (telling read).0
TellsOfStory telling read after held holds (Err (Script line cause)) =
    ((telling read).1 ≡ Err (Script line cause)) × IsAllRead read after × Appends held holds (telling read).0
TellsOfStory telling read after held holds (Err (Differs line)) =
    ((telling read).1 ≡ Err (Differs line)) × IsAllRead read after × Appends held holds (telling read).0
TellsOfStory telling read after held holds (Err Read) = Keeps held holds
TellsOfStory telling read after held holds (Err Write) = IsAllRead read after × WritesPart held holds (telling read).0
TellsOfStory telling read after held holds (Err NoMemory) = Keeps held holds

-- the same, by what the reader had and has left, and what the writer held and holds
abbrev pub TellsTo : (List ℕ → Telling) → (before after held holds : Option (List ℕ)) → Result (Unit {0}) CliFault
    → Type 0
TellsTo telling before after held holds result =
    (read : List ℕ) × Consumes before after read × (length read ≤ 16777217) × TellsOfStory telling read after held holds result

-- what is to be told was written, and ends so; or a write failed after a proper part of it
abbrev pub WritesTelling : (held holds : Option (List ℕ)) → (text : List ℕ) → (end result : Result (Unit {0}) CliFault)
    → Type 0
WritesTelling held holds text end result =
    ((result ≡ end) × Appends held holds text) ⊎ ((result ≡ Err Write) × WritesPart held holds text)

-- a story was not looked at to its end, since memory ran out
abbrev pub IsUntold : CliFault → Type 0
IsUntold Read = Unit {0}
IsUntold NoMemory = Unit {0}
IsUntold Write = ⊥
IsUntold (Script line cause) = ⊥
IsUntold (Differs line) = ⊥

-- ---- the law

-- what `run` answers the lines of the script of these commands
abbrev pub answers_to : List NumberedRow → List ℕ
answers_to rows = (script_reading (script_by rows)).text

-- `run` answers a command behind these commands so
abbrev pub IsAnswerBehind : List NumberedRow → NumberedRow → List ℕ → Type 0
IsAnswerBehind before row answer = answers_to (before ++ row ∷ []) ≡ answers_to before ++ (answer ++ 10 ∷ [])

-- each command of a story with an answer has one that says what `run` prints for it
abbrev pub HasItsAnswers : List ℕ → Type 0
HasItsAnswers story =
    (before behind : List NumberedRow) (row : NumberedRow) (written : List ℕ)
    → rows_of story ≡ before ++ row ∷ behind → row.1.1 ≡ Some written
    → (answer : List ℕ) × IsAnswerBehind before row answer × Says written answer

-- no command of a story without an answer is refused
abbrev pub AnswersRefusals : List ℕ → Type 0
AnswersRefusals story =
    (before behind : List NumberedRow) (row : NumberedRow) (answer : List ℕ)
    → rows_of story ≡ before ++ row ∷ behind → row.1.1 ≡ None → IsAnswerBehind before row answer
    → is_refusal answer ≡ false

-- a story that is not too large is ok exactly if its script has no fault and each command with an answer has one that
-- says what `run` prints for it
abbrev pub OkExactly : Type 0
OkExactly =
    (story : List ℕ) → length story ≤ 16777216
    → (story_flaws false story ≡ []) ↔ ((is_ok (script_end (script_of story)) ≡ true) × HasItsAnswers story)

-- and a strict check says so exactly if no command without an answer is refused, too
abbrev pub StrictExactly : Type 0
StrictExactly =
    (story : List ℕ) → length story ≤ 16777216
    → (story_flaws true story ≡ [])
    ↔ ((is_ok (script_end (script_of story)) ≡ true) × HasItsAnswers story × AnswersRefusals story)
