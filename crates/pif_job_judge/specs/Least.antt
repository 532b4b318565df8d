-- Judging a history with sets of rules: by the bytes that the reader gave, what the writer was given.
use Rattle.std.specs.Prelude.{ℕ, ◌⊎◌, Bool, false, List, ◌++◌, Option, Result, Ok, Err}
use Rattle.pif_script_model.specs.declared.faults.CliFault.{CliFault}
use Rattle.pif_rules_model.specs.declared.rules.Rules.{Rules}
use Rattle.pif_history_text.specs.Histories.{Heard}
use Rattle.pif_history_text.specs.Reading.{ReadsHistory}
use Rattle.pif_job_judge.specs.declared.forms.Form.TheVariants.{Text}
use Rattle.pif_job_judge.specs.declared.faults.Ended.{Ended}
use Rattle.pif_job_judge.specs.declared.faults.JudgeFault.{JudgeFault}
use Rattle.pif_job_judge.specs.Endings.{result_of}
use Rattle.pif_job_judge.specs.Judging.{HadNoMemory, Judges, TellsAll, WritesText, allowing}
use Rattle.pif_job_judge.specs.Mistakes.{IsJudged}
use Rattle.pif_job_judge.specs.Needed.{TellsNeeded}
use Rattle.pif_job_judge.specs.Shown.{IsShown}

-- What is told of a history, which may allow rules itself, and how that ends:
--   not legal with all rules, its own and those of a: what judging tells of it with all
--   legal with all: the line that names those of a that it needs, or the set with which the search was given up
pub data IsTold (plain : Bool) (a : Rules) (h : Heard) (text : List ℕ) (end : Ended) : Type 0 where
  judged : TellsAll plain Text (allowing a h) text end → IsJudged (allowing a h) false → IsTold plain a h text end
  needed : TellsNeeded a h text end → IsTold plain a h text end

-- A text shows what is told of a history that ends so.
abbrev pub IsShownOf : (plain : Bool) → (a : Rules) → Heard → (shown : List ℕ) → (end : Ended) → Type 0
IsShownOf plain a h shown end = (text : List ℕ) × IsTold plain a h text end × IsShown Text text shown

-- Judging a history, or the bytes that have a fault: what is told of it was written, after these bytes. If a read
-- failed or memory ran out, nothing was.
abbrev pub JudgesLeast : (plain : Bool) → (a : Rules) → (history : Result Heard CliFault) → (held holds : Option (List ℕ)) → (front : List ℕ)
    → Result (Unit {0}) JudgeFault → Type 0
JudgesLeast plain a (Ok h) held holds front result =
    HadNoMemory held holds result
    ⊎ ((shown : List ℕ) × (end : Ended) × IsShownOf plain a h shown end
    × WritesText held holds (front ++ shown) (result_of end) result)
JudgesLeast plain a (Err fault) held holds front result = Judges plain Text (Err fault) held holds front result

-- Judging by what the reader had and has left, and what the writer held and holds.
abbrev pub JudgesLeastTo : (plain : Bool) → (a : Rules) → (before after held holds : Option (List ℕ)) → (front : List ℕ)
    → Result (Unit {0}) JudgeFault → Type 0
JudgesLeastTo plain a before after held holds front result =
    (history : Result Heard CliFault) × ReadsHistory before after history × JudgesLeast plain a history held holds front result
