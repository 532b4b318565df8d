-- A history that is written in parts, and the verdicts on them that are joined; and one that is followed.
use Rattle.std.specs.Prelude.{ℕ, zero, suc, ◌≡◌, ◌+◌, ◌⊎◌, List, [], ◌∷◌, ◌++◌, codes, vec_len, Option, None, Result, Ok, Err}
use Rattle.std.specs.Io.KnownBytes.{Appends, Keeps}
use Rattle.pif_script_model.specs.declared.faults.CliFault.TheVariants.{Write}
use Rattle.pif_script_model.specs.Migrating.{ReadsTo}
use Rattle.pif_script_model.specs.Runs.{WritesPart}
use Rattle.pif_job_follow.specs.Following.{FollowsTo}
use Rattle.pif_job_parts.specs.declared.faults.PartsFault.{PartsFault}
use Rattle.pif_job_parts.specs.declared.faults.PartsFault.TheVariants as parts_fault
use Rattle.pif_job_parts.specs.declared.splitting.Parts.{Parts}
use Rattle.pif_job_parts.specs.Indexes.{file_name}
use Rattle.pif_job_parts.specs.Joining.{JoinsTo}
use Rattle.pif_job_parts.specs.Splitting.{SplitsTo}
use Rattle.pif_cli_messages.specs.declared.parts.InParts.TheVariants as in_parts
use Rattle.pif_cli_messages.specs.declared.statuses.JobFault.{JobFault}
use Rattle.pif_cli_messages.specs.declared.statuses.JobFault.TheVariants as job_fault

-- how a job over parts ends if it isn't done
abbrev pub parted_fault : PartsFault → JobFault
parted_fault (parts_fault.Cli e) = job_fault.Cli e
parted_fault parts_fault.Rules = job_fault.Parts in_parts.Rules
parted_fault (parts_fault.Uncut n) = job_fault.Parts (in_parts.Uncut n)
parted_fault (parts_fault.Index n) = job_fault.Parts (in_parts.Index n)
parted_fault (parts_fault.Foreign n) = job_fault.Parts (in_parts.Foreign n)
parted_fault (parts_fault.Missing k) = job_fault.Parts (in_parts.Missing k)
parted_fault (parts_fault.Undecided n) = job_fault.Undecided n
parted_fault parts_fault.NoCall = job_fault.NoCall
parted_fault (parts_fault.Log n) = job_fault.Mistake n None

abbrev pub as_parted : Result (Unit {0}) PartsFault → Result (Unit {0}) JobFault
as_parted (Ok x) = Ok x
as_parted (Err e) = Err (parted_fault e)

-- the names of the files of so many parts in a folder, each in a line
abbrev pub names_text : (folder : List ℕ) → (count : ℕ) → List ℕ
names_text folder zero = []
names_text folder (suc n) = names_text folder n ++ (folder ++ codes "/" ++ file_name (n + 1) ++ codes "\n")

-- names were written, or a proper part of them, if a write failed
abbrev pub WritesNames : (text : List ℕ) → (held holds : Option (List ℕ)) → Result (Unit {0}) JobFault → Type 0
WritesNames text held holds result =
    ((result ≡ Ok tt) × Appends held holds text) ⊎ ((result ≡ Err (job_fault.Cli Write)) × WritesPart held holds text)

-- it ends with a fault, and nothing was written
abbrev pub GivesUp : (held holds : Option (List ℕ)) → Result (Unit {0}) JobFault → Type 0
GivesUp held holds result = (e : JobFault) × (result ≡ Err e) × Keeps held holds

-- parts were made, and the names of their files written, or a file could not be written; or they were not made
abbrev pub SavesParts : Result Parts PartsFault → (held holds : Option (List ℕ)) → Result (Unit {0}) JobFault → Type 0
SavesParts (Ok parts) held holds result =
    ((folder : List ℕ) × WritesNames (names_text folder (vec_len parts.texts)) held holds result)
    ⊎ GivesUp held holds result
SavesParts (Err e) held holds result = (result ≡ Err (parted_fault e)) × Keeps held holds

-- the history of a reader was split, into files of which nothing is known
abbrev pub SplitsInto : (before after held holds : Option (List ℕ)) → Result (Unit {0}) JobFault → Type 0
SplitsInto before after held holds result =
    (made : Result Parts PartsFault) × SplitsTo before after made × SavesParts made held holds result

-- verdicts were joined by an index, of whose file nothing is known; or it could not be read
abbrev pub JoinsRead : (verdicts : List ℕ) → (held holds : Option (List ℕ)) → Result (Unit {0}) JobFault → Type 0
JoinsRead verdicts held holds result =
    ((index : List ℕ) × (done : Result (Unit {0}) PartsFault) × JoinsTo index verdicts held holds done
    × (result ≡ as_parted done))
    ⊎ GivesUp held holds result

-- the verdicts that a reader gives were joined; or they could not be read
abbrev pub JoinsBy : (before after held holds : Option (List ℕ)) → Result (Unit {0}) JobFault → Type 0
JoinsBy before after held holds result =
    ((verdicts : List ℕ) × ReadsTo before after verdicts × JoinsRead verdicts held holds result)
    ⊎ GivesUp held holds result

-- the history of a reader was followed
abbrev pub FollowsInto : (before after held holds : Option (List ℕ)) → Result (Unit {0}) JobFault → Type 0
FollowsInto before after held holds result =
    (done : Result (Unit {0}) PartsFault) × FollowsTo before after held holds done × (result ≡ as_parted done)
