-- What is done with the files of a history in parts.
use Rattle.std.proofs.Common.{◌≡◌, ℕ, inl, inr, List, Option, None, Some, Result, Ok, Err, refl, vec_len}
use Rattle.std.specs.Io.KnownBytes.{Keeps}
use Rattle.pif_script_model.specs.Migrating.{ReadsTo}
use Rattle.pif_job_parts.specs.declared.faults.PartsFault.{PartsFault}
use Rattle.pif_job_parts.specs.declared.splitting.Parts.{Parts}
use Rattle.pif_job_parts.specs.Joining.{JoinsTo}
use Rattle.pif_job_parts.specs.Splitting.{SplitsTo}
use Rattle.pif_cli_messages.specs.declared.statuses.JobFault.{JobFault}
use Rattle.pif_cli.specs.Parts.{GivesUp, JoinsBy, JoinsRead, SavesParts, SplitsInto, WritesNames, as_parted, names_text, parted_fault}

-- known bytes stay as they are
keeps : (held : Option (List ℕ)) → Keeps held held
keeps None = tt
keeps (Some bytes) = refl

gives_up : (held : Option (List ℕ)) (e : JobFault) → GivesUp held held (Err e)
gives_up held e = (e, refl, keeps held)

-- names of files were written, or no file
pub names_written : (parts : Parts) (folder text : List ℕ) (held holds : Option (List ℕ)) (result : Result (Unit {0}) JobFault)
    → text ≡ names_text folder (vec_len parts.texts) → WritesNames text held holds result
    → SavesParts (Ok parts) held holds result
names_written parts folder text held holds result is written = inl (folder, rw is at written)

pub no_names : (parts : Parts) (held : Option (List ℕ)) (e : JobFault) → SavesParts (Ok parts) held held (Err e)
no_names parts held e = inr (gives_up held e)

-- a history was split, or not
pub split_done : (before after held holds : Option (List ℕ)) (parts : Parts) (result : Result (Unit {0}) JobFault)
    → SplitsTo before after (Ok parts) → SavesParts (Ok parts) held holds result → SplitsInto before after held holds result
split_done before after held holds parts result made saved = (Ok parts, made, saved)

pub split_refused : (before after held : Option (List ℕ)) (e : PartsFault) (result : Result (Unit {0}) JobFault)
    → result ≡ Err (parted_fault e) → SplitsTo before after (Err e) → SplitsInto before after held held result
split_refused before after held e result is made = (Err e, made, (is, keeps held))

-- verdicts were joined, or not
pub join_done : (verdicts index : List ℕ) (held holds : Option (List ℕ)) (done : Result (Unit {0}) PartsFault)
    (result : Result (Unit {0}) JobFault) → JoinsTo index verdicts held holds done → result ≡ as_parted done
    → JoinsRead verdicts held holds result
join_done verdicts index held holds done result joins is = inl (index, done, joins, is)

pub no_index : (verdicts : List ℕ) (held : Option (List ℕ)) (e : JobFault) → JoinsRead verdicts held held (Err e)
no_index verdicts held e = inr (gives_up held e)

pub read_and_joined : (before after held holds : Option (List ℕ)) (verdicts : List ℕ) (result : Result (Unit {0}) JobFault)
    → ReadsTo before after verdicts → JoinsRead verdicts held holds result → JoinsBy before after held holds result
read_and_joined before after held holds verdicts result read joins = inl (verdicts, read, joins)

pub no_verdicts : (before after held : Option (List ℕ)) (e : JobFault) → JoinsBy before after held held (Err e)
no_verdicts before after held e = inr (gives_up held e)
