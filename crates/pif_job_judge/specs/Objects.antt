-- What is told of a history in lines of JSON.
use Rattle.std.specs.Prelude.{⊤, ℕ, ◌≡◌, ◌-◌, ◌⊎◌, List, [], ◌++◌, length, take, slice_get, Option, Some, None}
use Rattle.pif_history_model.specs.declared.labels.Label.{Label}
use Rattle.pif_history_model.specs.declared.lines.Line.{Line}
use Rattle.pif_history_model.specs.Lines.{thread_of}
use Rattle.pif_history_model.specs.Searched.{Configuration}
use Rattle.pif_history_model.specs.Verdicts.{IsLegal}
use Rattle.pif_history_machine.specs.declared.verdicts.Verdict.{Verdict}
use Rattle.pif_history_machine.specs.declared.verdicts.Verdict.TheVariants.{Legal, Illegal, Undecided}
use Rattle.pif_history_machine.specs.Verdicts.{IsVerdictOf}
use Rattle.pif_history_text.specs.Histories.{Heard, limits_of}
use Rattle.pif_history_told.specs.declared.verdicts.Began.{Began}
use Rattle.pif_history_told.specs.declared.verdicts.Known.{Known}
use Rattle.pif_history_told.specs.declared.verdicts.Known.TheVariants.{Refused, Numbers, Nothing}
use Rattle.pif_history_told.specs.declared.verdicts.Unfound.{Unfound}
use Rattle.pif_history_told.specs.declared.unlisted.Unlisted.{Unlisted}
use Rattle.pif_history_told.specs.Unlisted.{IsFirstUnlisted}
use Rattle.pif_history_told.specs.Runs.{Telling}
use Rattle.pif_history_told.specs.Runs.{IsTold as IsRunTold}
use Rattle.pif_history_told.specs.Texts.{calls_in}
use Rattle.pif_history_told.specs.Verdicts.{illegal_object, legal_object, undecided_object}
use Rattle.pif_job_judge.specs.declared.forms.Form.{Form}
use Rattle.pif_job_judge.specs.declared.forms.Form.TheVariants.{Page}
use Rattle.pif_job_judge.specs.declared.faults.Ended.{Ended}
use Rattle.pif_job_judge.specs.declared.faults.Ended.TheVariants as ended
use Rattle.pif_job_judge.specs.Endings.{legal_end}
use Rattle.pif_history_told.specs.declared.clues.Clues.{Clues}
use Rattle.pif_history_told.specs.declared.ends.AtEnd.{AtEnd}
use Rattle.pif_judge_reasons.specs.declared.fronts.Front.{Front}
use Rattle.pif_job_judge.specs.Clues.{AreClues}
use Rattle.pif_judge_reasons.specs.Fronts.{count_of}
use Rattle.pif_job_judge.specs.Fronts.{IsUndecided}
use Rattle.pif_job_judge.specs.OpenCalls.{IsAtEnd}
use Rattle.pif_history_told.specs.Why.{IsKnown, IsNumbered, open_of}

-- How many lines of a history a page shows at most.
abbrev pub page_lines : ℕ
page_lines = 10000

-- How many lines are left out of a run that shows so many: none, but in a page all before the last ones.
abbrev pub left_out_of : Form → (lines : ℕ) → ℕ
left_out_of Page lines = lines - page_lines
left_out_of form lines = 0

-- A text tells a run whose steps have these labels, newest first. So many of its lines are left out.
abbrev pub TellsSteps : Heard → (left_out : ℕ) → List Label → (text : List ℕ) → Type 0
TellsSteps h left_out labels text =
    (last : Configuration) × (told : Telling) × IsRunTold h.allowed (limits_of h) h.numbers left_out labels last told
    × (text ≡ told.done)

-- A verdict has no witness: no run shows the lines, or the search was given up.
abbrev pub HasNoWitness : Verdict → Type 0
HasNoWitness (Legal witness) = ⊥
HasNoWitness (Illegal n) = ⊤
HasNoWitness (Undecided n) = ⊤

-- A text tells a run that shows the first `before` lines of a history; or nothing, if the verdict on these lines has no
-- witness. If some run shows them, that is a search that was given up.
abbrev pub TellsBefore : Heard → (before left_out : ℕ) → (text : List ℕ) → Type 0
TellsBefore h before left_out text =
    ((labels : List Label) × IsLegal h.allowed (limits_of h) (take before h.shown) labels × TellsSteps h left_out labels text)
    ⊎ ((v : Verdict) × IsVerdictOf h.allowed (limits_of h) (take before h.shown) v × HasNoWitness v × (text ≡ []))

-- The open call that is told with what is known of an illegal line: none, if the line is refused.
abbrev pub began_with : Known → Option Began → Option Began
began_with (Refused why) began = None
began_with (Numbers numbers) began = began
began_with Nothing began = began

-- A text tells the run of a front; or nothing, if there is none.
abbrev pub TellsFront : Heard → (left_out : ℕ) → Option Front → (text : List ℕ) → Type 0
TellsFront h left_out None text = text ≡ []
TellsFront h left_out (Some f) text = TellsSteps h left_out f.labels.items text

-- What is told of a history in lines of JSON, and how that ends: the verdict, and after it a run that shows all lines,
-- or those before the line of the verdict, if it was found.
pub data AreObjects (form : Form) (h : Heard) (text : List ℕ) (end : Ended) : Type 0 where
  legal : (labels : List Label) (run : List ℕ) (found : Option Unlisted) (at_end : AtEnd) → IsLegal h.allowed (limits_of h) h.shown labels
      → TellsSteps h (left_out_of form (length h.shown)) labels run → IsFirstUnlisted h.allowed (limits_of h) labels found
      → IsAtEnd h at_end → text ≡ legal_object h.count (calls_in h) (left_out_of form (length h.shown)) h.numbers found at_end ++ run
      → end ≡ legal_end (calls_in h)
      → AreObjects form h text end
  illegal : (n number : ℕ) (line : Line) (known : Known) (clues : Clues) (run : List ℕ) → IsVerdictOf h.allowed (limits_of h) h.shown (Illegal n)
      → slice_get h.shown (n - 1) ≡ Some line → IsNumbered h n number → IsKnown h (n - 1) line known
      → AreClues h (n - 1) clues → TellsBefore h (n - 1) (left_out_of form (n - 1)) run
      → text
      ≡ illegal_object number line known (began_with known (open_of (thread_of line) h (n - 1))) clues
      (left_out_of form (n - 1)) ++ run
      → end ≡ ended.Illegal number → AreObjects form h text end
  undecided : (front : Option Front) (u : Unfound) (run : List ℕ) → IsUndecided h front u
      → TellsFront h (left_out_of form (count_of front)) front run
      → text ≡ undecided_object u (left_out_of form (count_of front)) ++ run → end ≡ ended.Undecided u.number
      → AreObjects form h text end

-- Bytes grew by what is told in lines of JSON of a history that ends so.
abbrev pub AppendsObjects : Form → Heard → (end : Ended) → (old new : List ℕ) → Type 0
AppendsObjects form h end old new = (text : List ℕ) × AreObjects form h text end × (new ≡ old ++ text)

-- Bytes grew by a run whose steps have these labels.
abbrev pub AppendsSteps : Heard → (left_out : ℕ) → List Label → (old new : List ℕ) → Type 0
AppendsSteps h left_out labels old new =
    (text : List ℕ) × TellsSteps h left_out labels text × (new ≡ old ++ text)

-- Bytes grew by a run that shows the first `before` lines of a history, or by nothing if none was found.
abbrev pub AppendsBefore : Heard → (before left_out : ℕ) → (old new : List ℕ) → Type 0
AppendsBefore h before left_out old new =
    (text : List ℕ) × TellsBefore h before left_out text × (new ≡ old ++ text)

-- Bytes grew by the run of a front, or by nothing if there is none.
abbrev pub AppendsFront : Heard → (left_out : ℕ) → Option Front → (old new : List ℕ) → Type 0
AppendsFront h left_out front old new = (text : List ℕ) × TellsFront h left_out front text × (new ≡ old ++ text)
