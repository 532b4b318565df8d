-- Random scripts: their lines, and what is written of one.
use Rattle.std.specs.Prelude.{ℕ, ◌≡◌, ◌≤◌, ◌*◌, ◌++◌, List, [], All, length, Option, Result, Ok, Err}
use Rattle.std.specs.Io.KnownBytes.{Appends, Keeps}
use Rattle.pif_text_model.specs.declared.commands.Command.{Command}
use Rattle.pif_script_model.specs.CommandLines.{HasNoFault, IsOfCommands, StandsAnywhere, script_lines}
use Rattle.pif_script_model.specs.Runs.{WritesPart}
use Rattle.pif_script_model.specs.declared.faults.CliFault.{CliFault}
use Rattle.pif_script_model.specs.declared.faults.CliFault.TheVariants.{Read, Write, NoMemory, Script, Differs}

-- so many lines were appended, each a command that may stand in any line, and at most 63 bytes long
abbrev pub AddsLines : (count : ℕ) → (old new : List ℕ) → Type 0
AddsLines count old new =
    (cs : List Command) × (length cs ≡ count) × All StandsAnywhere cs × (new ≡ old ++ script_lines cs)
    × (length (script_lines cs) ≤ 63 * count)

-- so many such lines were written, or a proper part of such lines, from their front
abbrev pub WritesLines : (count : ℕ) → (held holds : Option (List ℕ)) → Result (Unit {0}) CliFault → Type 0
WritesLines count held holds (Ok x) = (text : List ℕ) × AddsLines count [] text × Appends held holds text
WritesLines count held holds (Err Write) = (text : List ℕ) × AddsLines count [] text × WritesPart held holds text
WritesLines count held holds (Err Read) = ⊥
WritesLines count held holds (Err NoMemory) = ⊥
WritesLines count held holds (Err (Script line cause)) = ⊥
WritesLines count held holds (Err (Differs line)) = ⊥

-- a script of so many lines, each a command; if they are as many as `random` takes, a run of it has no fault
abbrev pub IsRandom : ℕ → List ℕ → Type 0
IsRandom lines script = IsOfCommands lines script × (lines ≤ 262144 → HasNoFault script)

-- what is written of a random script: all of it; nothing if it is out of memory; a proper part of one if a write fails
abbrev pub WritesScript : (lines : ℕ) → (held holds : Option (List ℕ)) → Result (Unit {0}) CliFault → Type 0
WritesScript lines held holds (Ok x) = (script : List ℕ) × IsRandom lines script × Appends held holds script
WritesScript lines held holds (Err Write) = (script : List ℕ) × IsRandom lines script × WritesPart held holds script
WritesScript lines held holds (Err NoMemory) = Keeps held holds
WritesScript lines held holds (Err Read) = ⊥
WritesScript lines held holds (Err (Script line cause)) = ⊥
WritesScript lines held holds (Err (Differs line)) = ⊥
