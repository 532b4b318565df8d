-- The commands of a story, handed on with their answers.
use Rattle.std.specs.Prelude.{ℕ, ◌≡◌, List, [], ◌∷◌, ◌++◌, map, Option, Some, None, Result, Ok, Err}
use Rattle.pif_model.specs.Table.{Table}
use Rattle.pif_text_model.specs.declared.commands.Command.{Command}
use Rattle.pif_text_model.specs.declared.replies.Cause.{Cause}
use Rattle.pif_text_model.specs.declared.replies.Reply.{Reply}
use Rattle.pif_text_model.specs.Commands.{command_in}
use Rattle.pif_script_model.specs.declared.ending.OpenFault.{OpenFault}
use Rattle.pif_script_model.specs.declared.faults.CliFault.{CliFault}
use Rattle.pif_script_model.specs.declared.faults.CliFault.TheVariants.{Differs, NoMemory, Read, Script, Write}
use Rattle.pif_script_model.specs.Running.{Answer, Makes}
use Rattle.pif_script_model.specs.declared.rows.AnsweredRow.{AnsweredRow}
use Rattle.pif_script_model.specs.Checks.{fill_telling}
use Rattle.pif_script_model.specs.Rows.{Asked, asked_in, words_outcome}

-- filling in ends so, or fails so:
--   a fault: it is that of filling it in
--   out of memory: that may be anywhere
--   nothing is read or written
abbrev pub FailsSo : Result (Unit {0}) CliFault → CliFault → Type 0
FailsSo end (Script line cause) = end ≡ Err (Script line cause)
FailsSo end (Differs line) = end ≡ Err (Differs line)
FailsSo end NoMemory = Unit {0}
FailsSo end Read = ⊥
FailsSo end Write = ⊥

-- something is handed on, and filling in that ends so has no fault; or it fails so
abbrev pub EndsSo : {A : Type 0} → Result (Unit {0}) CliFault → Result A CliFault → Type 0
EndsSo end (Ok x) = end ≡ Ok tt
EndsSo end (Err fault) = FailsSo end fault

-- filling in a story of these bytes fails so
abbrev pub FailsToFill : List ℕ → CliFault → Type 0
FailsToFill story fault = FailsSo (fill_telling [] story).1 fault

-- of a story of these bytes something is handed on, and filling it in has no fault; or it fails so
abbrev pub FillsRows : {A : Type 0} → List ℕ → Result A CliFault → Type 0
FillsRows story result = EndsSo (fill_telling [] story).1 result

-- ---- one command

-- the words of a command were done so: they ask for this, which had this answer; or they are a fault, or memory ran out
abbrev pub IsHeard : (before : Option Table) → (words : List ℕ) → (after : Option Table)
    → Result (Command × Reply) OpenFault → Type 0
IsHeard before words after (Ok heard) =
    (s : Table) × (words_outcome before words ≡ Ok (heard.1, s)) × (after ≡ Some s)
    × (command_in words ≡ Some heard.0)
IsHeard before words after (Err fault) = Makes (words_outcome before words) (Err fault)

-- a command with this outcome was handed on behind others; or it is a fault for this cause
abbrev pub IsRun : Result Answer Cause → Asked → (after : Option Table) → (old new : List AnsweredRow) → Option Cause → Type 0
IsRun meant asked after old new None =
    (r : Reply) × (s : Table) × (meant ≡ Ok (r, s)) × (after ≡ Some s)
    × (map asked_in new ≡ map asked_in old ++ asked ∷ [])
IsRun meant asked after old new (Some cause) = meant ≡ Err cause
