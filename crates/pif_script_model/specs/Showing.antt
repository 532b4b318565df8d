-- What a run does that shows itself to a person.
use Rattle.std.specs.Prelude.{ℕ, ◌≡◌, List, Option, Some, None, Result, Ok, Err}
use Rattle.std.specs.Io.KnownBytes.{Keeps}
use Rattle.pif_model.specs.Table.{Table}
use Rattle.pif_text_model.specs.declared.commands.Command.{Command}
use Rattle.pif_text_model.specs.Extends.{Stays}
use Rattle.pif_script_model.specs.declared.faults.CliFault.{CliFault}
use Rattle.pif_script_model.specs.declared.faults.CliFault.TheVariants.{Read, Write, NoMemory, Script, Differs}
use Rattle.pif_script_model.specs.Running.{Answer, RunsTo, command_answer}
use Rattle.pif_script_model.specs.Scripts.{Scan}

-- a core behind an answer, or as it was if there is none
abbrev pub state_behind_answer : Option Answer → Table → Table
state_behind_answer (Some answer) s = answer.1
state_behind_answer None s = s

-- a core behind a command, if there is one
abbrev pub state_behind : Option Command → Table → Table
state_behind (Some command) s = state_behind_answer (command_answer command s) s
state_behind None s = s

-- how something ended, whatever it answers
abbrev pub as_done : {A E : Type 0} → Result A E → Result (Unit {0}) E
as_done (Ok x) = Ok tt
as_done (Err e) = Err e

-- it ends so, or a write failed
abbrev pub OrUnwritten : {A : Type 0} → (Result A CliFault → Type 0) → Result A CliFault → Type 0
OrUnwritten ends (Ok x) = ends (Ok x)
OrUnwritten ends (Err Read) = ends (Err Read)
OrUnwritten ends (Err Write) = Unit {0}
OrUnwritten ends (Err NoMemory) = ends (Err NoMemory)
OrUnwritten ends (Err (Script line cause)) = ends (Err (Script line cause))
OrUnwritten ends (Err (Differs line)) = ends (Err (Differs line))

-- a script that is shown, by what the reader had and has left, and what the writer held and holds: if no write fails it
-- ends as a run over the same bytes does, what that writes aside; the text stands behind what the writer held; and out
-- of memory nothing was written
abbrev pub ShowsTo : (before after held holds : Option (List ℕ)) → Result (Unit {0}) CliFault → Type 0
ShowsTo before after held holds result =
    OrUnwritten (RunsTo before after None None) result × Stays held holds × (result ≡ Err NoMemory → Keeps held holds)

-- a fault that is out of memory comes when nobody answers yet and nothing was written
abbrev pub SilentAt : {S : Type 0} → Scan S → (held holds : Option (List ℕ)) → CliFault → Type 0
SilentAt s held holds Read = Unit {0}
SilentAt s held holds Write = Unit {0}
SilentAt s held holds NoMemory = (s.listener ≡ None) × Keeps held holds
SilentAt s held holds (Script line cause) = Unit {0}
SilentAt s held holds (Differs line) = Unit {0}

-- a part of it, which leaves the script at t, wrote nothing while nobody answers, which is so if it ran out of memory
abbrev pub Silent : {S A : Type 0} → (s t : Scan S) → (held holds : Option (List ℕ)) → Result A CliFault → Type 0
Silent s t held holds (Ok x) = t.listener ≡ None → (s.listener ≡ None) × Keeps held holds
Silent s t held holds (Err e) = SilentAt s held holds e
