-- Scripts that are lists of commands, any of which may stand in any line.
use Rattle.std.specs.Prelude.{ℕ, ◌≡◌, ◌≤◌, Ok, [], ◌∷◌, ◌++◌, List, All, length, flat_map}
use Rattle.pif_text_model.specs.declared.commands.Command.{Command}
use Rattle.pif_text_model.specs.declared.commands.Command.TheVariants.{Limits, Add, Event, Run, Ask}
use Rattle.pif_text_model.specs.CommandTexts.{command_text, IsWritten}
use Rattle.pif_script_model.specs.Running.{script}
use Rattle.pif_script_model.specs.Scripts.{ended_by, reading_of, start}

-- not `limits`, which is a command in the first line alone
abbrev pub IsNoLimits : Command → Type 0
IsNoLimits (Limits t m c n) = ⊥
IsNoLimits (Add a) = Unit {0}
IsNoLimits (Event e) = Unit {0}
IsNoLimits (Run t q) = Unit {0}
IsNoLimits (Ask q) = Unit {0}

-- a command that may stand in any line
abbrev pub StandsAnywhere : Command → Type 0
StandsAnywhere c = IsNoLimits c × IsWritten c

-- a command as a line
abbrev pub command_line : Command → List ℕ
command_line c = command_text c ++ 10 ∷ []

-- commands as the lines of a script
unfoldable pub script_lines : List Command → List ℕ
script_lines cs = flat_map command_line cs

-- a script that is so many commands
abbrev pub IsOfCommands : ℕ → List ℕ → Type 0
IsOfCommands n text = (cs : List Command) × (length cs ≡ n) × All StandsAnywhere cs × (text ≡ script_lines cs)

-- a script is run to its end, with an answer to each line
abbrev pub HasNoFault : List ℕ → Type 0
HasNoFault text = ended_by script (reading_of script start text).stands ≡ Ok []
