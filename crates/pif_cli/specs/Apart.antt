-- Histories that are judged side by side, each into a text of its own, before anything of them is written.
use Rattle.std.specs.Prelude.{ℕ, ◌≡◌, ◌<◌, ◌⊎◌, List, [], length, Option, Some, Result, Err, slice_index_or}
use Rattle.std.specs.Io.KnownBytes.{Appends, Keeps}
use Rattle.clap.specs.Words.{Text}
use Rattle.pif_script_model.specs.declared.faults.CliFault.TheVariants as fault
use Rattle.pif_script_model.specs.Runs.{WritesPart}
use Rattle.pif_cli_words.specs.declared.jobs.Judging.{Judging}
use Rattle.pif_cli_words.specs.declared.jobs.Job.{Job}
use Rattle.pif_cli_words.specs.declared.jobs.Job.TheVariants.{Judge}
use Rattle.pif_cli.specs.declared.apart.Apart.{Apart}
use Rattle.pif_cli.specs.declared.apart.Apart.TheVariants as apart
use Rattle.pif_cli.specs.declared.apart.Judged.{Judged}
use Rattle.pif_cli_messages.specs.declared.statuses.JobFault.{JobFault}
use Rattle.pif_cli_messages.specs.declared.statuses.JobFault.TheVariants.{Cli}
use Rattle.pif_cli.specs.Names.{shown_name}
use Rattle.pif_cli.specs.Words.{JudgesNamed}

-- a history that is told under this name was judged into an empty text, of whose bytes nothing is known
abbrev pub IsJudged : Judging → (name : Text) → Judged → Type 0
IsJudged asked name judged =
    (before : Option (List ℕ)) × (after : Option (List ℕ))
    × JudgesNamed asked name before after (Some []) (Some judged.text.items) judged.done

-- what was done apart with the file of this name was done for this job
unfoldable pub IsApart : Job → (name : Text) → Apart → Type 0
IsApart job name apart.Left = Unit {0}
IsApart job name (apart.Judged judged) =
    (asked : Judging) × (job ≡ Judge asked) × IsJudged asked (shown_name name) judged

-- the same of each of the files of these names of which it is said what was done, by their places
abbrev pub AreApart : Job → (names : List Text) → List Apart → Type 0
AreApart job names found =
    (i : ℕ) (name : Text) (one : Apart) → i < length found
    → IsApart job (slice_index_or names i name) (slice_index_or found i one)

-- A text that ended so is written. If it is one to which a write failed, memory was refused for it, and nothing is
-- written. Else all of it is, or a proper part.
abbrev pub WritesJudged : Judged → (held holds : Option (List ℕ)) → Result (Unit {0}) JobFault → Type 0
WritesJudged judged held holds result =
    ((judged.done ≡ Err (Cli fault.Write)) × (result ≡ Err (Cli fault.NoMemory)) × Keeps held holds)
    ⊎ ((judged.done ≡ Err (Cli fault.Write) → ⊥)
    × (((result ≡ judged.done) × Appends held holds judged.text.items)
    ⊎ ((result ≡ Err (Cli fault.Write)) × WritesPart held holds judged.text.items)))
