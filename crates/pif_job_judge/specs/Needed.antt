-- What is told of the rules that a history needs.
use Rattle.std.specs.Prelude.{ℕ, ◌≡◌, List, ◌++◌}
use Rattle.pif_rules_model.specs.declared.rules.Rules.{Rules}
use Rattle.pif_history_text.specs.Histories.{Heard, limits_of}
use Rattle.pif_job_judge.specs.declared.search.Needed.{Needed}
use Rattle.pif_job_judge.specs.declared.search.Needed.TheVariants.{Legal, Undecided}
use Rattle.pif_job_judge.specs.LeastRules.{IsLeast}
use Rattle.pif_history_told.specs.Texts.{calls_in, legal_with, undecided_with}
use Rattle.pif_job_judge.specs.declared.faults.Ended.{Ended}
use Rattle.pif_job_judge.specs.declared.faults.Ended.TheVariants as ended
use Rattle.pif_job_judge.specs.Endings.{legal_end}
use Rattle.pif_history_told.specs.Why.{IsNumbered}

-- The line that tells what was found, and how that ends.
abbrev pub TellsFound : Heard → Needed → (text : List ℕ) → (end : Ended) → Type 0
TellsFound h (Legal e) text end = (text ≡ legal_with h.count (calls_in h) h.allowed e.rules) × (end ≡ legal_end (calls_in h))
TellsFound h (Undecided r n) text end =
    (number : ℕ) × IsNumbered h n number × (text ≡ undecided_with number h.allowed r) × (end ≡ ended.Undecided number)

-- The line of a history by what is so of the rules of a that it needs, and how that ends.
abbrev pub TellsNeeded : (a : Rules) → Heard → (text : List ℕ) → (end : Ended) → Type 0
TellsNeeded a h text end =
    (found : Needed) × IsLeast h.allowed a (limits_of h) h.shown found × TellsFound h found text end

-- Bytes grew by the line of a history that ends so.
abbrev pub AppendsNeeded : (a : Rules) → Heard → (end : Ended) → (old new : List ℕ) → Type 0
AppendsNeeded a h end old new = (text : List ℕ) × TellsNeeded a h text end × (new ≡ old ++ text)
