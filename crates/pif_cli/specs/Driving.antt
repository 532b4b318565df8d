-- What `drive` writes.
use Rattle.std.specs.Prelude.{ℕ, ◌≡◌, ◌*◌, ◌⊎◌, List, [], ◌∷◌, ◌++◌, Option, Result, Ok, Err, codes, decimal}
use Rattle.std.specs.Io.KnownBytes.{Appends, Keeps}
use Rattle.pif_script_model.specs.declared.faults.CliFault.TheVariants.{Read, Write, NoMemory, Script, Differs}
use Rattle.pif_script_model.specs.Runs.{WritesPart}
use Rattle.pif_cli_messages.specs.declared.statuses.JobFault.{JobFault}
use Rattle.pif_cli_messages.specs.declared.statuses.JobFault.TheVariants.{Cli, Threads, Unsettled, Undecided, PosixAllows, PosixUndefined, NotOnCore, NoCall, Mistake, Faulty, Parts}

-- the line if all clients were answered: each made 100 locks and 100 unlocks
abbrev pub answered_text : ℕ → List ℕ
answered_text clients = codes "answered " ++ decimal (200 * clients) ++ 10 ∷ []

-- the line if a thread could not be started
abbrev pub threads_text : List ℕ
threads_text = codes "fault threads\n"

-- the line if the desk didn't settle
abbrev pub unsettled_text : List ℕ
unsettled_text = codes "unsettled\n"

-- one of the lines of a drive of so many clients
abbrev pub IsDriveText : ℕ → List ℕ → Type 0
IsDriveText clients text = (text ≡ answered_text clients) ⊎ ((text ≡ threads_text) ⊎ (text ≡ unsettled_text))

-- a line was written; or a write failed after a proper part of it
abbrev pub WritesLine : (held holds : Option (List ℕ)) → (text : List ℕ) → Result (Unit {0}) JobFault → Type 0
WritesLine held holds text (Ok x) = Appends held holds text
WritesLine held holds text (Err end) = (end ≡ Cli Write) × WritesPart held holds text

-- a line was written that says this fault; or a write failed after a proper part of it
abbrev pub SaysSo : (held holds : Option (List ℕ)) → (text : List ℕ) → JobFault → Result (Unit {0}) JobFault → Type 0
SaysSo held holds text why (Ok x) = ⊥
SaysSo held holds text why (Err end) =
    ((end ≡ why) × Appends held holds text) ⊎ ((end ≡ Cli Write) × WritesPart held holds text)

-- what a drive of so many clients writes: the calls that were answered, each of each client; or why there is no such
-- number; out of memory nothing, and at a failed write a proper part of such a line
abbrev pub Drives : ℕ → (held holds : Option (List ℕ)) → Result (Unit {0}) JobFault → Type 0
Drives clients held holds (Ok x) = Appends held holds (answered_text clients)
Drives clients held holds (Err Threads) = Appends held holds threads_text
Drives clients held holds (Err Unsettled) = Appends held holds unsettled_text
Drives clients held holds (Err (Undecided line)) = ⊥
Drives clients held holds (Err (PosixAllows line)) = ⊥
Drives clients held holds (Err (NotOnCore mutex)) = ⊥
Drives clients held holds (Err (PosixUndefined line)) = ⊥
Drives clients held holds (Err NoCall) = ⊥
Drives clients held holds (Err (Mistake line noted)) = ⊥
Drives clients held holds (Err Faulty) = ⊥
Drives clients held holds (Err (Parts fault)) = ⊥
Drives clients held holds (Err (Cli NoMemory)) = Keeps held holds
Drives clients held holds (Err (Cli Write)) = (text : List ℕ) × IsDriveText clients text × WritesPart held holds text
Drives clients held holds (Err (Cli Read)) = ⊥
Drives clients held holds (Err (Cli (Script line cause))) = ⊥
Drives clients held holds (Err (Cli (Differs line))) = ⊥
