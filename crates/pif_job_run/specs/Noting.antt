-- A run of a script, and the notes on it.
use Rattle.std.specs.Prelude.{ℕ, ◌≡◌, ◌+◌, List, [], ◌∷◌, ◌++◌, Option, Some, None, Result, Ok, Err, option_map}
use Rattle.std.specs.Io.KnownBytes.{Consumes}
use Rattle.std.specs.List.{cons_option}
use Rattle.pif_model.specs.Table.{Table}
use Rattle.pif_text_model.specs.declared.commands.Command.{Command}
use Rattle.pif_text_model.specs.declared.replies.Cause.{Cause}
use Rattle.pif_text_model.specs.declared.replies.Cause.TheVariants as cause
use Rattle.pif_text_model.specs.Commands.{command_in}
use Rattle.pif_text_model.specs.Replies.{text_of}
use Rattle.pif_script_model.specs.declared.ending.Ending.TheVariants.{Fault}
use Rattle.pif_script_model.specs.Running.{Answer, answer_or_fault, command_answer, first_answer, made_by, script}
use Rattle.pif_script_model.specs.Runs.{EndsAfter, end_line}
use Rattle.pif_script_model.specs.Scripts.{FirstMeaning, Hearing, Meaning, start}
use Rattle.pif_script_model.specs.Lines.{lines}
use Rattle.pif_script_model.specs.Rows.{words_outcome}
use Rattle.pif_story.specs.declared.missing.Known.{Known}
use Rattle.pif_story.specs.declared.missing.Note.{Note}
use Rattle.pif_story.specs.Notes.{known_behind, note_at, noted, nothing_known, one_more, row_known, with_found, with_notes, words_noted}

-- ---- the notes on a script

-- a line of a script, and what it is answered
abbrev pub Heard : Type 0
Heard = List ℕ × List ℕ

-- lines of a script with what each is answered, behind a core or as the first ones; a line that is a fault has no
-- answer, and none behind it has one
unfoldable pub answered : Option Table → List (List ℕ) → List Heard
answered before [] = []
answered before (line ∷ more) =
    elim (words_outcome before line) [ Ok a ↦ (line, text_of a.0) ∷ answered (Some a.1) more | Err cause ↦ [] ]

-- the notes on such lines in their order; the first of them has this number
unfoldable pub notes_on : Known → ℕ → List Heard → List Note
notes_on known number [] = []
notes_on known number (heard ∷ more) =
    cons_option (option_map (note_at number heard.0) (words_noted known heard.0 heard.1))
    (notes_on (row_known known heard.0 heard.1) (number + 1) more)

-- the notes on a script: each name and priority is told once, at the first command that names it, and there are 20 at
-- most
unfoldable pub run_notes : (script : List ℕ) → List Note
run_notes script = with_notes [] (notes_on nothing_known 1 (answered None (lines script)))

-- a run of a script was done, and these are the notes on what was read
abbrev pub RunsNoting : (before after held holds : Option (List ℕ)) → (notes : List Note) → Type 0
RunsNoting before after held holds notes =
    (read : List ℕ) × Consumes before after read × EndsAfter script start read after held holds (Ok tt)
    × (notes ≡ run_notes read)

-- ---- while it runs

-- what is kept for the notes: what was added, the number of the next line, and the notes so far
pub record Tally : Type 0 where
  pub known : Known
  pub number : ℕ
  pub notes : List Note

-- before the first line
abbrev pub nothing_tallied : Tally
nothing_tallied = record { known = nothing_known; number = 1; notes = [] }

-- behind a line with this command, which is answered so
abbrev pub tally_behind : Tally → (line : List ℕ) → Command → (given : List ℕ) → Tally
tally_behind t line c given = record {
  known = known_behind t.known c given;
  number = one_more t.number;
  notes = with_found t.notes (option_map (note_at t.number line) (noted t.known c given));
}

-- a core, and what is kept for the notes
pub record Noting : Type 0 where
  pub core : Table
  pub tally : Tally

-- an answer as a line, and what it leaves
abbrev pub noted_line : Tally → (line : List ℕ) → Command → Result Answer Cause → Meaning Noting
noted_line t line c (Ok a) =
    Ok (text_of a.0 ++ 10 ∷ [], record { core = a.1; tally = tally_behind t line c (text_of a.0) })
noted_line t line c (Err e) = Err (Fault e)

-- what the first line of a script means
unfoldable pub first_noted : List ℕ → FirstMeaning Noting
first_noted line =
    elim (command_in line) [
      | None ↦ Err (Fault cause.Command)
      | Some c ↦ made_by (noted_line nothing_tallied line c (first_answer c))
    ]

-- what a later line means
unfoldable pub later_noted : Noting → List ℕ → Meaning Noting
later_noted n line =
    elim (command_in line) [
      | None ↦ Err (Fault cause.Command)
      | Some c ↦ noted_line n.tally line c (answer_or_fault (command_answer c n.core))
    ]

-- how a script is heard that is noted
abbrev pub noting : Hearing Noting
noting = record {
  first_meaning = λ version line. first_noted line;
  meaning = later_noted;
  end_text = λ number. Ok [];
  said_of = end_line;
}
