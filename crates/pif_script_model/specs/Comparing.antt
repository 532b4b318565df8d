-- Comparing a story with what `run` prints, one command at a time.
use Rattle.std.specs.Prelude.{ℕ, nat_le, Bool, List, [], ◌∷◌, Option, Some, None, if◌then◌else◌}
use Rattle.std.specs.List.{cons_option}
use Rattle.pif_text_model.specs.declared.replies.Cause.{Cause}
use Rattle.pif_script_model.specs.Lines.{StoryRow}
use Rattle.pif_script_model.specs.Verdicts.{Fault, Flaw, flaw_beside}

-- the cause, if the script ends at the command of this number, from 1, or before it
abbrev pub cause_at : Option Fault → ℕ → Option Cause
cause_at None number = None
cause_at (Some fault) number = if nat_le fault.0 number then Some fault.1 else None

-- the flaw, if there is one, of a command in the line of this number, beside the lines that `run` prints from there on
abbrev pub row_flaws : (strict : Bool) → ℕ → StoryRow → (answers : List (List ℕ)) → List Flaw
row_flaws strict line row [] = []
row_flaws strict line row (given ∷ more) = cons_option (flaw_beside strict line row.0 row.1 given) []
