-- What is told of a history that is followed.
use Rattle.std.specs.Prelude.{ℕ, ◌≡◌, ◌-◌, List, [], ◌++◌, reverse, slice_get, take, Some, None, Result, Err}
use Rattle.pif_script_model.specs.declared.faults.CliFault.TheVariants.{Differs}
use Rattle.pif_history_model.specs.declared.lines.Line.{Line}
use Rattle.pif_history_model.specs.Shown.{IsShown}
use Rattle.pif_history_text.specs.Histories.{Heard, limits_of}
use Rattle.pif_history_text.specs.Verdicts.{illegal_line}
use Rattle.pif_history_told.specs.declared.ends.AtEnd.{AtEnd}
use Rattle.pif_history_told.specs.declared.verdicts.Unfound.{Unfound}
use Rattle.pif_history_told.specs.Ends.{at_end_text}
use Rattle.pif_history_told.specs.Texts.{calls_in, legal_text}
use Rattle.pif_history_told.specs.Why.{IsNumbered}
use Rattle.pif_history_told.specs.WhyTexts.{legal_up_to_text}
use Rattle.pif_parts.specs.declared.joining.WholeVerdict.{WholeVerdict}
use Rattle.pif_parts.specs.declared.joining.WholeVerdict.TheVariants as whole
use Rattle.pif_job_parts.specs.declared.faults.PartsFault.{PartsFault}
use Rattle.pif_job_parts.specs.declared.faults.PartsFault.TheVariants as fault
use Rattle.pif_job_parts.specs.Joining.{legal_end}
use Rattle.pif_job_follow.specs.Followed.{last_or}

-- how many lines and calls a legal history has, and which calls are open at its end
abbrev pub SaysLegal : Heard → (text : List ℕ) → Result (Unit {0}) PartsFault → Type 0
SaysLegal h text end =
    (at_end : AtEnd) × (text ≡ legal_text h.count (calls_in h) [] None ++ at_end_text at_end)
    × (end ≡ legal_end (calls_in h))

-- the nth line isn't legal
abbrev pub SaysIllegal : Heard → (n : ℕ) → (text : List ℕ) → Result (Unit {0}) PartsFault → Type 0
SaysIllegal h n text end =
    (number : ℕ) × (line : Line) × (slice_get h.shown (n - 1) ≡ Some line) × IsNumbered h n number
    × (text ≡ illegal_line number line) × (end ≡ Err (fault.Cli (Differs number)))

-- the first lines are legal, up to one that is named, if there are some; and of the rest that isn't known
abbrev pub SaysUndecided : Heard → (text : List ℕ) → Result (Unit {0}) PartsFault → Type 0
SaysUndecided h text end =
    (n : ℕ) × (u : Unfound) × IsShown (limits_of h) (reverse (take n h.shown)) × (u.up_to ≡ last_or (take n h.numbers) None)
    × (text ≡ legal_up_to_text u) × (end ≡ Err (fault.Undecided u.number))

-- what is told of a history of which this is so, and how that ends
abbrev pub IsSaid : Heard → WholeVerdict → (text : List ℕ) → Result (Unit {0}) PartsFault → Type 0
IsSaid h whole.Legal text end = SaysLegal h text end
IsSaid h (whole.Illegal n) text end = SaysIllegal h n text end
IsSaid h (whole.Undecided k) text end = SaysUndecided h text end
IsSaid h (whole.Foreign k) text end = ⊥
