-- What is read and written, one part after the other.
use Rattle.std.proofs.Common.{ℕ, true, false, List, ◌++◌, Option, Ok, Err}
use Rattle.std.proofs.KnownBytes.{Consumes-trans}
use Rattle.pif_text_model.specs.Extends.{Stays}
use Rattle.pif_script_model.specs.declared.faults.CliFault.{CliFault}
use Rattle.pif_script_model.specs.declared.faults.CliFault.TheVariants.{Differs, NoMemory, Read, Script, Write}
use Rattle.pif_job_shell.specs.Lines.{Reads}
use Rattle.pif_job_shell.specs.Talks.{TalksTo, TurnsTo}

-- what was read so far, and what a turn reads
read_on : (a b c : Option (List ℕ)) → Reads a b → Reads b c → Reads a c
read_on a b c p q = (p.0 ++ q.0, Consumes-trans a b c p.0 q.0 p.1 q.1)

-- a conversation so far, and a turn that goes on, ends it, or fails
pub talks_on : (a b c h i j : Option (List ℕ)) → Reads a b × Stays h i → TurnsTo b c i j (Ok true) → Reads a c × Stays h j
talks_on a b c h i j p q = (read_on a b c p.0 q.0, λ front x. q.1 front (p.1 front x))

pub talks_out : (a b c h i j : Option (List ℕ)) → Reads a b × Stays h i → TurnsTo b c i j (Ok false)
    → TurnsTo a c h j (Ok false)
talks_out a b c h i j p q = (read_on a b c p.0 q.0, λ front x. q.1 front (p.1 front x))

pub talks_failed : (a b c h i j : Option (List ℕ)) (fault : CliFault) → Reads a b × Stays h i
    → TurnsTo b c i j (Err fault) → TalksTo a c h j (Err fault)
talks_failed a b c h i j Read p q = (read_on a b c p.0 q.0, λ front x. q.1 front (p.1 front x))
talks_failed a b c h i j Write p q = (read_on a b c p.0 q.0, λ front x. q.1 front (p.1 front x))
talks_failed a b c h i j NoMemory p q = absurd q
talks_failed a b c h i j (Script line cause) p q = absurd q
talks_failed a b c h i j (Differs line) p q = absurd q
