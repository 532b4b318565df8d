-- Mistakes of a log: a line that the lines before it refuse by themselves, whatever was answered. It says nothing of
-- what was recorded.
use Rattle.std.specs.Prelude.{ℕ, ◌≡◌, ◌-◌, Bool, false, List, ◌++◌, take, slice_get, IfSome, Some, codes, decimal}
use Rattle.pif_history_model.specs.declared.labels.Label.{Label}
use Rattle.pif_history_model.specs.declared.lines.Line.{Line}
use Rattle.pif_history_model.specs.declared.refusals.LineRefusal.{LineRefusal}
use Rattle.pif_history_model.specs.Verdicts.{IsLegal}
use Rattle.pif_history_machine.specs.Verdicts.{IsVerdictOf}
use Rattle.pif_history_text.specs.Histories.{Heard, limits_of}
use Rattle.pif_history_text.specs.Verdicts.{line_refusal_word, refused_line}
use Rattle.pif_history_told.specs.Verdicts.{at_line, left_out_member}
use Rattle.pif_history_told.specs.Why.{IsNumbered}
use Rattle.pif_text.specs.Json.{quoted}
use Rattle.pif_job_judge.specs.declared.forms.Form.{Form}
use Rattle.pif_job_judge.specs.declared.forms.Form.TheVariants.{Text, Witness, Json, Page}
use Rattle.pif_job_judge.specs.declared.faults.Ended.{Ended}
use Rattle.pif_job_judge.specs.declared.faults.Ended.TheVariants as ended
use Rattle.pif_job_judge.specs.declared.mistakes.Outcome.{Outcome}
use Rattle.pif_job_judge.specs.declared.mistakes.Outcome.TheVariants.{Log, Verdict}
use Rattle.pif_job_judge.specs.Before.{IsRefusedAt}
use Rattle.pif_job_judge.specs.Endings.{is_legal}
use Rattle.pif_job_judge.specs.Fronts.{IsFront}
use Rattle.pif_job_judge.specs.Missing.{note_on}
use Rattle.pif_job_judge.specs.Objects.{TellsSteps, left_out_of}

-- The nth line of a history is refused for this reason.
abbrev pub IsRefused : Heard → (n : ℕ) → LineRefusal → Type 0
IsRefused h = IsRefusedAt (limits_of h) h.shown

-- It is a mistake of the log: the lines before it are legal, by a run with these labels.
abbrev pub IsMistake : Heard → (n : ℕ) → LineRefusal → List Label → Type 0
IsMistake h n why labels = IsRefused h n why × IsLegal h.allowed (limits_of h) (take (n - 1) h.shown) labels

-- What was found of a history is so: a mistake of the log; or a verdict, and a front of which a run is known.
abbrev pub IsFound : Heard → Outcome → Type 0
IsFound h (Log m) = IsMistake h m.count m.why m.labels.items
IsFound h (Verdict v front) = IsVerdictOf h.allowed (limits_of h) h.shown v × IfSome front (IsFront h)

-- Whether it says that the history is legal.
abbrev pub is_found_legal : Outcome → Bool
is_found_legal (Log m) = false
is_found_legal (Verdict v front) = is_legal v

-- A history is found legal, or it isn't found legal.
abbrev pub IsJudged : Heard → (legal : Bool) → Type 0
IsJudged h legal = (found : Outcome) × IsFound h found × (is_found_legal found ≡ legal)

-- WHAT IS TOLD

-- The line that tells of a mistake of the log, by its number and the reason.
abbrev pub log_text : (number : ℕ) → LineRefusal → List ℕ
log_text number why = codes "log " ++ decimal number ++ codes ": " ++ refused_line why

-- The line of JSON that tells of it.
unfoldable pub log_object : (number : ℕ) → Line → LineRefusal → (left_out : ℕ) → List ℕ
log_object number line why left_out =
    codes "{\"verdict\":\"log\"," ++ at_line number line ++ left_out_member left_out ++ codes ",\"refused\":"
    ++ quoted (line_refusal_word why) ++ codes "}\n"

-- How telling of it ends: with the number of the nth line, and the note on it if there is one.
abbrev pub log_end : Heard → (n number : ℕ) → Line → LineRefusal → Ended
log_end h n number line why = ended.Log number (note_on (take (n - 1) h.shown) number line why)

-- A text tells of it in lines, and this is how that ends.
abbrev pub AreLogLines : Heard → (text : List ℕ) → Ended → Type 0
AreLogLines h text end =
    (n number : ℕ) × (line : Line) × (why : LineRefusal) × (labels : List Label) × IsMistake h n why labels
    × IsNumbered h n number × (slice_get h.shown (n - 1) ≡ Some line) × (text ≡ log_text number why)
    × (end ≡ log_end h n number line why)

-- A text tells of it in lines of JSON, and after it the run that shows the lines before it, and this is how that ends.
abbrev pub AreLogObjects : Form → Heard → (text : List ℕ) → Ended → Type 0
AreLogObjects form h text end =
    (n number : ℕ) × (line : Line) × (why : LineRefusal) × (labels : List Label) × (run : List ℕ) × IsMistake h n why labels
    × IsNumbered h n number × (slice_get h.shown (n - 1) ≡ Some line) × TellsSteps h (left_out_of form (n - 1)) labels run
    × (text ≡ log_object number line why (left_out_of form (n - 1)) ++ run) × (end ≡ log_end h n number line why)

-- In each form.
abbrev pub TellsLog : Form → Heard → (text : List ℕ) → Ended → Type 0
TellsLog Text h text end = AreLogLines h text end
TellsLog Witness h text end = AreLogLines h text end
TellsLog Json h text end = AreLogObjects Json h text end
TellsLog Page h text end = AreLogObjects Page h text end

-- Bytes grew by that.
abbrev pub AppendsLog : Form → Heard → Ended → (old new : List ℕ) → Type 0
AppendsLog form h end old new = (text : List ℕ) × TellsLog form h text end × (new ≡ old ++ text)

abbrev pub AppendsLogLines : Heard → Ended → (old new : List ℕ) → Type 0
AppendsLogLines h end old new = (text : List ℕ) × AreLogLines h text end × (new ≡ old ++ text)

abbrev pub AppendsLogObjects : Form → Heard → Ended → (old new : List ℕ) → Type 0
AppendsLogObjects form h end old new = (text : List ℕ) × AreLogObjects form h text end × (new ≡ old ++ text)
