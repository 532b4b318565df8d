-- What is told of a history in lines for a person.
use Rattle.std.specs.Prelude.{ℕ, ◌≡◌, ◌-◌, List, [], ◌++◌, slice_get, Option, Some}
use Rattle.pif_types.specs.Bounds.{Bounds}
use Rattle.pif_history_model.specs.declared.labels.Label.{Label}
use Rattle.pif_history_model.specs.declared.lines.Line.{Line}
use Rattle.pif_history_machine.specs.declared.verdicts.Verdict.{Verdict}
use Rattle.pif_history_machine.specs.declared.verdicts.Verdict.TheVariants.{Legal, Illegal, Undecided}
use Rattle.pif_rules_model.specs.declared.rules.Rules.{Rules}
use Rattle.pif_history_machine.specs.Verdicts.{IsVerdictOf}
use Rattle.pif_history_model.specs.Lines.{thread_of}
use Rattle.pif_history_model.specs.Searched.{Configuration}
use Rattle.pif_history_text.specs.Histories.{Heard, limits_of}
use Rattle.pif_history_text.specs.Verdicts.{illegal_line}
use Rattle.pif_history_told.specs.declared.unlisted.Unlisted.{Unlisted}
use Rattle.pif_history_told.specs.Texts.{calls_in, legal_text}
use Rattle.pif_history_told.specs.Unlisted.{IsFirstUnlisted}
use Rattle.pif_history_told.specs.Tellings.{IsTold as IsRunTold}
use Rattle.pif_history_told.specs.declared.verdicts.Known.{Known}
use Rattle.pif_history_told.specs.declared.verdicts.Unfound.{Unfound}
use Rattle.pif_job_judge.specs.declared.forms.Form.{Form}
use Rattle.pif_job_judge.specs.declared.forms.Form.TheVariants.{Witness}
use Rattle.pif_job_judge.specs.declared.faults.Ended.{Ended}
use Rattle.pif_job_judge.specs.declared.faults.Ended.TheVariants as ended
use Rattle.pif_job_judge.specs.Endings.{legal_end}
use Rattle.pif_history_told.specs.declared.clues.Clues.{Clues}
use Rattle.pif_history_told.specs.Clues.{clues_text}
use Rattle.pif_history_told.specs.declared.ends.AtEnd.{AtEnd}
use Rattle.pif_history_told.specs.Ends.{at_end_text}
use Rattle.pif_judge_reasons.specs.declared.fronts.Front.{Front}
use Rattle.pif_job_judge.specs.Clues.{AreClues}
use Rattle.pif_job_judge.specs.Fronts.{IsUndecided}
use Rattle.pif_job_judge.specs.OpenCalls.{IsAtEnd}
use Rattle.pif_history_told.specs.Why.{IsKnown, IsNumbered, open_of}
use Rattle.pif_history_told.specs.WhyTexts.{legal_up_to_text, why_text}

-- What is told of the line after the first `before` lines of a history, up to which there is no run: what is known of
-- it, and after that the clues to what is wrong.
abbrev pub TellsWhy : (h : Heard) → (before : ℕ) → Line → (text : List ℕ) → Type 0
TellsWhy h before line text =
    (known : Known) × (clues : Clues) × IsKnown h before line known × AreClues h before clues
    × (text ≡ why_text line known (open_of (thread_of line) h before) ++ clues_text clues)

-- A text tells a run with these rules, whose steps have these labels, newest first, if the witness is wanted; else
-- nothing.
abbrev pub TellsRun : Form → Rules → Bounds → List Label → (text : List ℕ) → Type 0
TellsRun Witness r l labels text = (last : Configuration) × IsRunTold r l labels last text
TellsRun form r l labels text = text ≡ []

-- A verdict that there is a run, which a text tells if it is wanted.
abbrev pub TellsVerdict : Form → Rules → Bounds → Verdict → (text : List ℕ) → Type 0
TellsVerdict form r l (Legal witness) text = TellsRun form r l witness.items text
TellsVerdict form r l (Illegal n) text = ⊥
TellsVerdict form r l (Undecided n) text = ⊥

-- The first answer of its run that no page has, if it has one.
abbrev pub HasUnlisted : Rules → Bounds → Verdict → Option Unlisted → Type 0
HasUnlisted r l (Legal witness) found = IsFirstUnlisted r l witness.items found
HasUnlisted r l (Illegal n) found = ⊥
HasUnlisted r l (Undecided n) found = ⊥

-- What is told of a history in lines, and how that ends: the verdict on it with the rules that it allows. Of a legal
-- one it is told how many calls it begins, and the first answer of the run that no page has, if it has one; and after
-- its line which calls are open at its end, and its witness, if it is wanted. If the search was given up, it is told up
-- to which line some run shows the lines.
pub data IsTold (form : Form) (h : Heard) (text : List ℕ) (end : Ended) : Type 0 where
  legal : (v : Verdict) (witness : List ℕ) (found : Option Unlisted) (at_end : AtEnd)
      → IsVerdictOf h.allowed (limits_of h) h.shown v
      → TellsVerdict form h.allowed (limits_of h) v witness → HasUnlisted h.allowed (limits_of h) v found
      → IsAtEnd h at_end → text ≡ legal_text h.count (calls_in h) h.numbers found ++ at_end_text at_end ++ witness
      → end ≡ legal_end (calls_in h)
      → IsTold form h text end
  illegal : (n number : ℕ) (line : Line) (why : List ℕ) → IsVerdictOf h.allowed (limits_of h) h.shown (Illegal n)
      → slice_get h.shown (n - 1) ≡ Some line → IsNumbered h n number → TellsWhy h (n - 1) line why
      → text ≡ illegal_line number line ++ why → end ≡ ended.Illegal number → IsTold form h text end
  undecided : (front : Option Front) (u : Unfound) → IsUndecided h front u → text ≡ legal_up_to_text u
      → end ≡ ended.Undecided u.number → IsTold form h text end

-- Bytes grew by what is told in lines of a history that ends so.
abbrev pub AppendsLines : Form → Heard → (end : Ended) → (old new : List ℕ) → Type 0
AppendsLines form h end old new = (text : List ℕ) × IsTold form h text end × (new ≡ old ++ text)

-- Bytes grew by the line of a legal history, by what is told of its end, and by what is told of the run whose steps
-- have these labels, and this is how it ends.
abbrev pub TellsLegal : Form → Heard → List Label → (old new : List ℕ) → Ended → Type 0
TellsLegal form h labels old new end =
    (witness : List ℕ) × (found : Option Unlisted) × (at_end : AtEnd) × TellsRun form h.allowed (limits_of h) labels witness
    × IsFirstUnlisted h.allowed (limits_of h) labels found × IsAtEnd h at_end
    × (new ≡ old ++ (legal_text h.count (calls_in h) h.numbers found ++ at_end_text at_end ++ witness))
    × (end ≡ legal_end (calls_in h))

-- Bytes grew by the line of a history whose nth line is the first up to which there is no run, and this is how it ends.
abbrev pub TellsIllegalLine : Heard → (n : ℕ) → (old new : List ℕ) → Ended → Type 0
TellsIllegalLine h n old new end =
    (number : ℕ) × (line : Line) × (slice_get h.shown (n - 1) ≡ Some line) × IsNumbered h n number
    × (new ≡ old ++ illegal_line number line) × (end ≡ ended.Illegal number)

-- Bytes grew by what is told of a history whose nth line is the first up to which there is no run, and this is how it
-- ends.
abbrev pub TellsIllegal : Heard → (n : ℕ) → (old new : List ℕ) → Ended → Type 0
TellsIllegal h n old new end =
    (number : ℕ) × (line : Line) × (why : List ℕ) × (slice_get h.shown (n - 1) ≡ Some line) × IsNumbered h n number
    × TellsWhy h (n - 1) line why × (new ≡ old ++ (illegal_line number line ++ why))
    × (end ≡ ended.Illegal number)

-- Bytes grew by what is told of an undecided history, and this is how it ends.
abbrev pub TellsUndecided : Heard → (old new : List ℕ) → Ended → Type 0
TellsUndecided h old new end =
    (front : Option Front) × (u : Unfound) × IsUndecided h front u × (new ≡ old ++ legal_up_to_text u)
    × (end ≡ ended.Undecided u.number)
