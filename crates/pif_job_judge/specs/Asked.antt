-- What is told of a history that isn't legal, if POSIX is asked: the verdict, what POSIX says, and what is told with
-- the rules with which it says so.
use Rattle.std.specs.Prelude.{ℕ, ◌≡◌, ◌-◌, List, ◌++◌, slice_get, Option, Some, None}
use Rattle.pif_rules_model.specs.declared.rules.Rules.{Rules}
use Rattle.pif_history_model.specs.declared.labels.Label.{Label}
use Rattle.pif_history_model.specs.declared.lines.Line.{Line}
use Rattle.pif_history_model.specs.Verdicts.{IsLegal}
use Rattle.pif_history_machine.specs.declared.verdicts.Verdict.TheVariants as verdict
use Rattle.pif_history_machine.specs.Verdicts.{IsVerdictOf}
use Rattle.pif_history_text.specs.Histories.{Heard, limits_of}
use Rattle.pif_history_text.specs.Verdicts.{illegal_line}
use Rattle.pif_history_told.specs.declared.unlisted.Unlisted.{Unlisted}
use Rattle.pif_history_told.specs.declared.verdicts.Unfound.{Unfound}
use Rattle.pif_history_told.specs.Unlisted.{IsFirstUnlisted}
use Rattle.pif_history_told.specs.Why.{IsNumbered}
use Rattle.pif_history_told.specs.WhyTexts.{legal_up_to_text}
use Rattle.pif_job_judge.specs.declared.forms.Form.{Form}
use Rattle.pif_job_judge.specs.declared.forms.Form.TheVariants.{Text, Witness, Json, Page}
use Rattle.pif_job_judge.specs.declared.faults.Ended.{Ended}
use Rattle.pif_job_judge.specs.declared.faults.Ended.TheVariants as ended
use Rattle.pif_job_judge.specs.declared.posix.Says.{Says}
use Rattle.pif_job_judge.specs.declared.posix.Says.TheVariants.{Least, Found, Forbids, Undefined, Undecided}
use Rattle.pif_judge_reasons.specs.declared.fronts.Front.{Front}
use Rattle.pif_job_judge.specs.Fronts.{IsUndecided}
use Rattle.pif_job_judge.specs.Lines.{IsTold, TellsRun, TellsWhy}
use Rattle.pif_job_judge.specs.Objects.{AreObjects}
use Rattle.pif_job_judge.specs.Posix.{IsNumberedBy, IsSaid, forbids_text, posix_end, posix_object, posix_text, under, undecided_text, undefined_text}

-- IN LINES

-- The verdict alone, on a history that isn't legal: without what is possible at an illegal line.
pub data IsBrief (h : Heard) (text : List ℕ) (end : Ended) : Type 0 where
  illegal : (n number : ℕ) (line : Line) → IsVerdictOf h.allowed (limits_of h) h.shown (verdict.Illegal n)
      → slice_get h.shown (n - 1) ≡ Some line → IsNumbered h n number → text ≡ illegal_line number line
      → end ≡ ended.Illegal number → IsBrief h text end
  undecided : (front : Option Front) (u : Unfound) → IsUndecided h front u → text ≡ legal_up_to_text u
      → end ≡ ended.Undecided u.number → IsBrief h text end

-- What is told before what POSIX says. If that forbids the history, what is possible is told after it.
abbrev pub IsFirst : Form → Heard → Says → (text : List ℕ) → Ended → Type 0
IsFirst form h (Forbids n) text end = IsBrief h text end
IsFirst form h other text end = IsTold form h text end

-- What POSIX says of a history that it allows, which has the rules with which it does: by a run of it, with the first
-- answer that no page has, if it has one; and the run, if it is wanted.
abbrev pub TellsAllowed : Form → (base : Rules) → Heard → Says → (number : ℕ) → (text : List ℕ) → Type 0
TellsAllowed form base h says number text =
    (labels : List Label) × (found : Option Unlisted) × (more : List ℕ) × IsLegal h.allowed (limits_of h) h.shown labels
    × IsFirstUnlisted h.allowed (limits_of h) labels found × TellsRun form h.allowed (limits_of h) labels more
    × (text ≡ posix_text base says number h.numbers found ++ more)

-- What is possible at the nth line of a history.
abbrev pub TellsWhyAt : Heard → (n : ℕ) → (text : List ℕ) → Type 0
TellsWhyAt h n text = (line : Line) × (slice_get h.shown (n - 1) ≡ Some line) × TellsWhy h (n - 1) line text

-- What POSIX says of a history, and what is told after it, with the rules with which it says so: a run, if it allows
-- the history and that is wanted; or what is possible at the line from which on it forbids it.
abbrev pub IsRest : Form → Heard → Says → (number : ℕ) → (text : List ℕ) → Type 0
IsRest form h (Least e) number text = TellsAllowed form h.allowed (under (Least e) h) (Least e) number text
IsRest form h (Found e) number text = TellsAllowed form h.allowed (under (Found e) h) (Found e) number text
IsRest form h (Forbids n) number text =
    (why : List ℕ) × TellsWhyAt (under (Forbids n) h) n why × (text ≡ forbids_text h.allowed number ++ why)
IsRest form h (Undefined n b) number text = text ≡ undefined_text h.allowed number b
IsRest form h (Undecided n) number text = text ≡ undecided_text h.allowed

-- TOGETHER

-- A text tells what First is of it, and after it what Rest is of what POSIX says of the history; and how that ends.
pub record IsAsked (h : Heard) (First : Says → List ℕ → Ended → Type 0) (Rest : Says → ℕ → List ℕ → Type 0) (text : List ℕ) (end : Ended) : Type 0 where
  pub says : Says
  pub number : ℕ
  pub first : List ℕ
  pub told : Ended
  pub rest : List ℕ
  pub said : IsSaid h.allowed (limits_of h) h.shown says
  pub numbered : IsNumberedBy h says number
  pub is_first : First says first told
  pub is_rest : Rest says number rest
  pub is : text ≡ first ++ rest
  pub ends : end ≡ posix_end told says number

abbrev pub AreAskedLines : Form → Heard → (text : List ℕ) → Ended → Type 0
AreAskedLines form h text end = IsAsked h (IsFirst form h) (IsRest form h) text end

-- In lines of JSON the whole of what is told of a verdict, what POSIX says, and the whole again with the rules with
-- which it says so.
abbrev pub AreObjectsBehind : Form → Heard → Says → (text : List ℕ) → Type 0
AreObjectsBehind form h says text = (end : Ended) × AreObjects form (under says h) text end

abbrev pub AreRestObjects : Form → Heard → Says → (number : ℕ) → (text : List ℕ) → Type 0
AreRestObjects form h says number text =
    (behind : List ℕ) × AreObjectsBehind form h says behind × (text ≡ posix_object h.allowed says number ++ behind)

abbrev pub AreAskedObjects : Form → Heard → (text : List ℕ) → Ended → Type 0
AreAskedObjects form h text end =
    IsAsked h (λ says first told. AreObjects form h first told) (AreRestObjects form h) text end

-- In each form.
abbrev pub TellsAsked : Form → Heard → (text : List ℕ) → Ended → Type 0
TellsAsked Text h text end = AreAskedLines Text h text end
TellsAsked Witness h text end = AreAskedLines Witness h text end
TellsAsked Json h text end = AreAskedObjects Json h text end
TellsAsked Page h text end = AreAskedObjects Page h text end

-- Bytes grew by that.
abbrev pub AppendsAsked : Form → Heard → Ended → (old new : List ℕ) → Type 0
AppendsAsked form h end old new = (text : List ℕ) × TellsAsked form h text end × (new ≡ old ++ text)

abbrev pub AppendsAskedLines : Form → Heard → Ended → (old new : List ℕ) → Type 0
AppendsAskedLines form h end old new = (text : List ℕ) × AreAskedLines form h text end × (new ≡ old ++ text)

abbrev pub AppendsAskedObjects : Form → Heard → Ended → (old new : List ℕ) → Type 0
AppendsAskedObjects form h end old new = (text : List ℕ) × AreAskedObjects form h text end × (new ≡ old ++ text)

abbrev pub AppendsFirst : Form → Heard → Says → Ended → (old new : List ℕ) → Type 0
AppendsFirst form h says end old new = (text : List ℕ) × IsFirst form h says text end × (new ≡ old ++ text)

abbrev pub AppendsRest : Form → Heard → Says → (number : ℕ) → (old new : List ℕ) → Type 0
AppendsRest form h says number old new = (text : List ℕ) × IsRest form h says number text × (new ≡ old ++ text)

abbrev pub AppendsBrief : Heard → Ended → (old new : List ℕ) → Type 0
AppendsBrief h end old new = (text : List ℕ) × IsBrief h text end × (new ≡ old ++ text)

-- They grew by what POSIX says, which forbids a history, and by what is possible at its nth line.
abbrev pub AppendsForbidden : (base : Rules) → Heard → Says → (number n : ℕ) → (old new : List ℕ) → Type 0
AppendsForbidden base h says number n old new =
    (why : List ℕ) × TellsWhyAt h n why × (new ≡ old ++ (posix_text base says number h.numbers None ++ why))

-- They grew by what POSIX says by a run whose steps have these labels, and by the run, if it is wanted.
abbrev pub AppendsAllowedBy : Form → (base : Rules) → Heard → Says → (number : ℕ) → List Label → (old new : List ℕ) → Type 0
AppendsAllowedBy form base h says number labels old new =
    (found : Option Unlisted) × (more : List ℕ) × IsFirstUnlisted h.allowed (limits_of h) labels found
    × TellsRun form h.allowed (limits_of h) labels more
    × (new ≡ old ++ (posix_text base says number h.numbers found ++ more))

abbrev pub AppendsWhy : Heard → (n : ℕ) → (old new : List ℕ) → Type 0
AppendsWhy h n old new = (text : List ℕ) × TellsWhyAt h n text × (new ≡ old ++ text)
