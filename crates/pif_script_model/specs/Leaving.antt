-- Where a run leaves a script that it reads to its end.
use Rattle.std.specs.Prelude.{ℕ, ◌≡◌, Bool, true, false, List, [], Option, Result, Ok, Err}
use Rattle.std.specs.Io.KnownBytes.{Appends, Consumes, IsAtEnd}
use Rattle.pif_script_model.specs.declared.faults.CliFault.{CliFault}
use Rattle.pif_script_model.specs.Runs.{EndsAfter, RunsFrom}
use Rattle.pif_script_model.specs.Scripts.{Hearing, Scan, closed_at, reading_of}

-- a run from where the script stood at s; if it ended well, it left the script at t, behind the last of its bytes
abbrev pub RunsOn : {S : Type 0} → Hearing S → (s t : Scan S) → (before after held holds : Option (List ℕ))
    → Result (Unit {0}) CliFault → Type 0
RunsOn h s t before after held holds (Ok x) =
    (read : List ℕ) × Consumes before after read × ((reading_of h s read).stands ≡ Ok t)
    × EndsAfter h s read after held holds (Ok x)
RunsOn h s t before after held holds (Err e) = RunsFrom h s before after held holds (Err e)

-- a part of a run, which leaves the script at t and goes on if the answer is true. If it does not go on, the script ends
-- at s, and nothing more was read
abbrev pub GoesOn : {S : Type 0} → Hearing S → (s t : Scan S) → (before after held holds : Option (List ℕ))
    → Result Bool CliFault → Type 0
GoesOn h s t before after held holds (Ok true) =
    (read : List ℕ) × Consumes before after read × ((reading_of h s read).stands ≡ Ok t)
    × Appends held holds (reading_of h s read).text
GoesOn h s t before after held holds (Ok false) =
    (said : List ℕ) × (closed_at h s ≡ Ok said) × Consumes before after [] × IsAtEnd after × Appends held holds said
    × (t ≡ s)
GoesOn h s t before after held holds (Err e) = RunsFrom h s before after held holds (Err e)
