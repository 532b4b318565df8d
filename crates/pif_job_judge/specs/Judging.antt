-- What judging a history over a reader and a writer does: by the bytes that the reader gave, what the writer was given.
use Rattle.std.specs.Prelude.{ℕ, ◌≡◌, ◌⊎◌, Bool, false, true, not, List, [], ◌++◌, Option, Some, None, Result, Ok, Err, codes, if◌then◌else◌}
use Rattle.std.specs.Io.KnownBytes.{Appends, Keeps}
use Rattle.pif_text_model.specs.declared.replies.Cause.{Cause}
use Rattle.pif_script_model.specs.declared.faults.CliFault.{CliFault}
use Rattle.pif_script_model.specs.declared.faults.CliFault.TheVariants.{NoMemory, Script, Write}
use Rattle.pif_script_model.specs.Runs.{WritesPart}
use Rattle.pif_rules_model.specs.declared.rules.Rules.{Rules}
use Rattle.pif_rules.specs.Sets.{both}
use Rattle.pif_history_machine.specs.declared.verdicts.Verdict.{Verdict}
use Rattle.pif_history_machine.specs.Verdicts.{IsVerdictOf}
use Rattle.pif_history_text.specs.Histories.{Heard, limits_of}
use Rattle.pif_history_text.specs.Reading.{ReadsHistory}
use Rattle.pif_history_text.specs.Verdicts.{fault_line}
use Rattle.pif_job_judge.specs.declared.forms.Form.{Form}
use Rattle.pif_job_judge.specs.declared.forms.Form.TheVariants.{Text, Witness, Json, Page}
use Rattle.pif_job_judge.specs.declared.faults.Ended.{Ended}
use Rattle.pif_job_judge.specs.declared.faults.JudgeFault.{JudgeFault}
use Rattle.pif_job_judge.specs.declared.faults.JudgeFault.TheVariants as fault
use Rattle.pif_job_judge.specs.Endings.{is_legal, result_of}
use Rattle.pif_job_judge.specs.Lines.{IsTold}
use Rattle.pif_job_judge.specs.Mistakes.{TellsLog}
use Rattle.pif_job_judge.specs.Objects.{AreObjects}
use Rattle.pif_job_judge.specs.Asked.{TellsAsked}
use Rattle.pif_job_judge.specs.Shown.{IsShown}

-- What stands in front of what is told: the name, if it is to be told, and if that is told in lines.
abbrev pub front_of : (name : Option (List ℕ)) → Form → List ℕ
front_of None form = []
front_of (Some name) Text = name ++ codes ": "
front_of (Some name) Witness = name ++ codes ": "
front_of (Some name) form = []

-- What is told of a history in each form, and how that ends.
abbrev pub Tells : Form → Heard → (text : List ℕ) → (end : Ended) → Type 0
Tells Text h text end = IsTold Text h text end
Tells Witness h text end = IsTold Witness h text end
Tells Json h text end = AreObjects Json h text end
Tells Page h text end = AreObjects Page h text end

-- Bytes grew by what is told of a history that ends so.
abbrev pub AppendsTold : Form → Heard → (end : Ended) → (old new : List ℕ) → Type 0
AppendsTold form h end old new = (text : List ℕ) × Tells form h text end × (new ≡ old ++ text)

-- Whether POSIX is asked: if that is wanted, of a history that isn't legal.
abbrev pub asks : (plain legal : Bool) → Bool
asks plain legal = if plain then false else not legal

-- By a verdict on a history, POSIX is asked; or isn't.
abbrev pub IsAskedOf : (plain : Bool) → Heard → (asked : Bool) → Type 0
IsAskedOf plain h asked =
    (v : Verdict) × IsVerdictOf h.allowed (limits_of h) h.shown v × (asks plain (is_legal v) ≡ asked)

-- All that is told of a history, and how that ends: the verdict, and what POSIX says if it is asked; or the mistake of
-- the log.
pub data TellsAll (plain : Bool) (form : Form) (h : Heard) (text : List ℕ) (end : Ended) : Type 0 where
  verdict : Tells form h text end → IsAskedOf plain h false → TellsAll plain form h text end
  asked : TellsAsked form h text end → IsAskedOf plain h true → TellsAll plain form h text end
  log : TellsLog form h text end → TellsAll plain form h text end

-- Bytes grew by all that is told of a history that ends so.
abbrev pub AppendsAll : (plain : Bool) → Form → Heard → (end : Ended) → (old new : List ℕ) → Type 0
AppendsAll plain form h end old new = (text : List ℕ) × TellsAll plain form h text end × (new ≡ old ++ text)

-- A text shows all that is told of a history that ends so.
abbrev pub TellsShown : (plain : Bool) → Form → Heard → (shown : List ℕ) → (end : Ended) → Type 0
TellsShown plain form h shown end = (text : List ℕ) × TellsAll plain form h text end × IsShown form text shown

-- Bytes grew by that.
abbrev pub AppendsShown : (plain : Bool) → Form → Heard → (end : Ended) → (old new : List ℕ) → Type 0
AppendsShown plain form h end old new = (shown : List ℕ) × TellsShown plain form h shown end × (new ≡ old ++ shown)

-- What is told of a fault: its line, but nothing in lines of JSON and in a page.
abbrev pub fault_told : Form → (line : ℕ) → Cause → List ℕ
fault_told Text line cause = fault_line line cause
fault_told Witness line cause = fault_line line cause
fault_told form line cause = []

-- A text was written, and it ends so; or a write failed after a proper part of it.
abbrev pub WritesText : (held holds : Option (List ℕ)) → (text : List ℕ) → (end result : Result (Unit {0}) JudgeFault)
    → Type 0
WritesText held holds text end result =
    ((result ≡ end) × Appends held holds text) ⊎ ((result ≡ Err (fault.Cli Write)) × WritesPart held holds text)

-- It ran out of memory, and nothing was written.
abbrev pub HadNoMemory : (held holds : Option (List ℕ)) → (result : Result (Unit {0}) JudgeFault) → Type 0
HadNoMemory held holds result = (result ≡ Err (fault.Cli NoMemory)) × Keeps held holds

-- Judging a history, or the bytes that have a fault: what is shown of it in this form was written, after these bytes.
-- If a read failed or memory ran out, nothing was.
abbrev pub Judges : (plain : Bool) → Form → (history : Result Heard CliFault) → (held holds : Option (List ℕ)) → (front : List ℕ)
    → Result (Unit {0}) JudgeFault → Type 0
Judges plain form (Ok h) held holds front result =
    HadNoMemory held holds result
    ⊎ ((shown : List ℕ) × (end : Ended) × TellsShown plain form h shown end
    × WritesText held holds (front ++ shown) (result_of end) result)
Judges plain form (Err (Script line cause)) held holds front result =
    HadNoMemory held holds result
    ⊎ WritesText held holds (front ++ fault_told form line cause) (Err (fault.Cli (Script line cause))) result
Judges plain form (Err other) held holds front result = (result ≡ Err (fault.Cli other)) × Keeps held holds

-- A history that allows these rules, too. Of two bounds of `recursion` the wider count.
abbrev pub allowing : Rules → Heard → Heard
allowing r h = record h { allowed = both r h.allowed }

-- The same if there is a history.
abbrev pub heard_allowing : Rules → Result Heard CliFault → Result Heard CliFault
heard_allowing r (Ok h) = Ok (allowing r h)
heard_allowing r (Err fault) = Err fault

-- Judging by what the reader had and has left, and what the writer held and holds. These rules hold beside those that
-- the history allows.
abbrev pub JudgesTo : (plain : Bool) → Form → Rules → (before after held holds : Option (List ℕ)) → (front : List ℕ)
    → Result (Unit {0}) JudgeFault → Type 0
JudgesTo plain form r before after held holds front result =
    (history : Result Heard CliFault) × ReadsHistory before after history
    × Judges plain form (heard_allowing r history) held holds front result
