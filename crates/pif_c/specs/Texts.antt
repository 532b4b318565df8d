-- Bytes in, bytes out: what a job prints, handed out into memory of the caller's.
use Rattle.std.specs.Prelude.{ℕ, ◌≡◌, ◌++◌, ◌≤◌, ◌<◌, Bool, true, List, [], length, drop, Option, Some, Result, Ok, Err, if◌then◌else◌}
use Rattle.pif_script_model.specs.declared.faults.CliFault.{CliFault}
use Rattle.pif_script_model.specs.declared.faults.CliFault.TheVariants.{Read, Write, NoMemory, Script, Differs}
use Rattle.pif_rules_model.specs.declared.rules.Rules.{Rules}
use Rattle.pif_job_judge.specs.declared.forms.Form.{Form}
use Rattle.pif_job_judge.specs.declared.forms.Form.TheVariants as form
use Rattle.pif_job_judge.specs.Judging.{JudgesTo}
use Rattle.pif_job_judge.specs.Least.{JudgesLeastTo}
use Rattle.pif_job_judge.specs.declared.faults.JudgeFault.{JudgeFault}
use Rattle.pif_job_judge.specs.declared.faults.JudgeFault.TheVariants.{Cli, Log, NoCall, PosixAllows, PosixUndefined, Undecided}
use Rattle.pif_c_numbers.specs.Codes as pif
use Rattle.pif_c.specs.declared.texts.PifText.{PifText}

-- how a job ended
abbrev pub fault_number : CliFault → ℕ
fault_number (Script n c) = pif.fault
fault_number (Differs n) = pif.differs
fault_number NoMemory = pif.out_of_memory
fault_number Write = pif.unwritten
fault_number Read = pif.unread

abbrev pub ended_number : Result (Unit {0}) CliFault → ℕ
ended_number (Ok x) = pif.whole
ended_number (Err fault) = fault_number fault

abbrev pub judged_number : Result (Unit {0}) JudgeFault → ℕ
judged_number (Ok x) = pif.whole
judged_number (Err (Cli fault)) = fault_number fault
judged_number (Err (Undecided n)) = pif.undecided
judged_number (Err NoCall) = pif.undecided
judged_number (Err (PosixAllows n)) = pif.differs
judged_number (Err (PosixUndefined n)) = pif.differs
judged_number (Err (Log n noted)) = pif.mistake

-- what a job says of a reader and a writer: what the reader had and has left, what the writer held and holds, and how
-- the job ended
abbrev pub Job : Type 0 → Type 1
Job E = Option (List ℕ) → Option (List ℕ) → Option (List ℕ) → Option (List ℕ) → Result (Unit {0}) E → Type 0

-- the form in which a verdict is told: in lines, with a run of a legal history if that is wanted
abbrev pub form_of : (witness : Bool) → Form
form_of witness = if witness then form.Witness else form.Text

-- judging a history in a form, with these rules beside those that it allows, without asking POSIX, and no name in front of
-- what is told
abbrev pub JudgesAlone : Form → Rules → Job JudgeFault
JudgesAlone told r before left held holds done = JudgesTo true told r before left held holds [] done

-- looking for the rules of these that a history needs, beside those that it allows, without asking POSIX, and no name in
-- front of what is told
abbrev pub LeastAlone : Rules → Job JudgeFault
LeastAlone r before left held holds done = JudgesLeastTo true r before left held holds [] done

-- a job read from these bytes, and wrote this text into an empty writer
abbrev pub Wholly : {E : Type 0} → Job E → List ℕ → List ℕ → Result (Unit {0}) E → Type 0
Wholly Does input text done = (left : Option (List ℕ)) × Does (Some input) left (Some []) (Some text) done

-- a text is handed out into room for bytes: the room begins with it if it fits, and else is as it was
pub record IsHandedOut (text : List ℕ) (ended : ℕ) (before after : List ℕ) (told : PifText) : Type 0 where
  pub is_ended : told.ended ≡ ended
  pub is_wanted : told.wanted ≡ length text
  pub fits : length text ≤ length before → after ≡ text ++ drop (length text) before
  pub too_long : length before < length text → after ≡ before

-- what a job prints of these bytes is handed out so, with the number of how it ended
pub record HandsOut {E : Type 0} (Does : Job E) (number_of : Result (Unit {0}) E → ℕ) (input before after : List ℕ) (told : PifText) : Type 0 where
  pub text : List ℕ
  pub done : Result (Unit {0}) E
  pub does : Wholly Does input text done
  pub handed : IsHandedOut text (number_of done) before after told
