-- Notes, one command at a time.
use Rattle.std.specs.Prelude.{ℕ, List, [], ◌∷◌, Option, Some, None}
use Rattle.pif_script_model.specs.Lines.{StoryRow}
use Rattle.pif_story.specs.declared.missing.Known.{Known}
use Rattle.pif_story.specs.declared.missing.Note.{Note}
use Rattle.pif_story.specs.Notes.{row_known, row_note}

-- the note on a command in the line of this number of a story, beside the lines that `run` prints from there on
abbrev pub next_note : (story : List ℕ) → Known → ℕ → StoryRow → (answers : List (List ℕ)) → Option Note
next_note story known line row [] = None
next_note story known line row (given ∷ more) = row_note story known line row given

-- what is there behind it
abbrev pub next_known : Known → StoryRow → (answers : List (List ℕ)) → Known
next_known known row [] = known
next_known known row (given ∷ more) = row_known known row.0 given
