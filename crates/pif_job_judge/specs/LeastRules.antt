-- The least set of rules with which a history is legal.
use Rattle.std.specs.Prelude.{ℕ, ◌≡◌, ◌≤◌, List, ◌∷◌, ◌++◌, length, Option, Some, None, All}
use Rattle.pif_types.specs.Bounds.{Bounds}
use Rattle.pif_rules_model.specs.declared.rules.Rules.{Rules}
use Rattle.pif_history_model.specs.declared.labels.Label.{Label}
use Rattle.pif_history_model.specs.declared.lines.Line.{Line}
use Rattle.pif_history_model.specs.Verdicts.{IsLegal, IsIllegal}
use Rattle.pif_job_judge.specs.declared.search.Enough.{Enough}
use Rattle.pif_job_judge.specs.declared.search.Needed.{Needed}
use Rattle.pif_job_judge.specs.declared.search.Needed.TheVariants.{Legal, Undecided}
use Rattle.pif_history_told.specs.Sets.{sets_in_order}

-- Lines are legal with these rules.
abbrev pub IsLegalSomehow : Bounds → List Line → Rules → Type 0
IsLegalSomehow l lines r = (witness : List Label) × IsLegal r l lines witness

-- Lines are illegal with these rules.
abbrev pub IsIllegalSomewhere : Bounds → List Line → Rules → Type 0
IsIllegalSomewhere l lines r = (n : ℕ) × IsIllegal r l lines n

-- A set stands in these, and with each set before it lines are illegal.
abbrev pub IsBehind : Bounds → List Line → (sets : List Rules) → Rules → Type 0
IsBehind l lines sets r =
    (before behind : List Rules) × (sets ≡ before ++ r ∷ behind) × All (IsIllegalSomewhere l lines) before

-- r is a set with other bounds of `recursion`.
abbrev pub IsBoundAnew : (set r : Rules) → Type 0
IsBoundAnew set r = r ≡ record set { recursion = r.recursion }

-- Lines are legal with a set of rules, and by a run with it that may have other bounds of `recursion`.
abbrev pub IsEnough : Bounds → List Line → Enough → Type 0
IsEnough l lines e = IsLegalSomehow l lines e.set × IsBoundAnew e.set e.rules × IsLegal e.rules l lines e.labels.items

-- What is found in sets: the first one with which lines are legal, or one with which the search was given up at a line.
-- With each set before it they are illegal.
abbrev pub IsFoundIn : Bounds → List Line → (sets : List Rules) → Needed → Type 0
IsFoundIn l lines sets (Legal e) = IsEnough l lines e × IsBehind l lines sets e.set
IsFoundIn l lines sets (Undecided r n) = (1 ≤ n) × (n ≤ length lines) × IsBehind l lines sets r

-- What is found first in sets; nothing, if lines are illegal with each of them.
abbrev pub IsFirst : Bounds → List Line → (sets : List Rules) → Option Needed → Type 0
IsFirst l lines sets None = All (IsIllegalSomewhere l lines) sets
IsFirst l lines sets (Some found) = IsFoundIn l lines sets found

-- A set of rules of a, beside those of base, stands in the order, and with each set before it lines are illegal.
abbrev pub IsBehindIllegal : (base a : Rules) → Bounds → List Line → Rules → Type 0
IsBehindIllegal base a l lines r = IsBehind l lines (sets_in_order base a) r

-- What is found of the rules of a that lines need beside those of base.
abbrev pub IsLeast : (base a : Rules) → Bounds → List Line → Needed → Type 0
IsLeast base a l lines found = IsFoundIn l lines (sets_in_order base a) found
