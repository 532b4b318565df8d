-- With which numbers in the next line a run was found.
use Rattle.std.specs.Prelude.{ℕ, ◌≡◌, ◌≤◌, true, List, [], ◌∷◌, ◌++◌, All}
use Rattle.pif_types.specs.Bounds.{Bounds}
use Rattle.pif_rules_model.specs.declared.rules.Rules.{Rules}
use Rattle.pif_history_model.specs.declared.labels.Label.{Label}
use Rattle.pif_history_model.specs.declared.lines.Line.{Line}
use Rattle.pif_history_model.specs.declared.lines.Line.TheVariants.{Answer, Prio}
use Rattle.pif_history_model.specs.Verdicts.{IsLegal, is_answer}

-- Some run shows these lines, oldest first, and then this one.
abbrev pub IsLegalThen : Rules → Bounds → (before : List Line) → Line → Type 0
IsLegalThen r l before line = (labels : List Label) × IsLegal r l (before ++ line ∷ []) labels

-- A number may stand in a line in place of its answer, or of its priority: 0 or the number of an error of calls, or 1
-- to 99. No other line has such a number.
abbrev pub MayStand : Line → ℕ → Type 0
MayStand (Answer t a) n = is_answer n ≡ true
MayStand (Prio t p) n = (1 ≤ n) × (n ≤ 99)
MayStand line n = ⊥

-- The line with it.
abbrev pub with_number : Line → ℕ → Line
with_number (Answer t a) n = Answer t n
with_number (Prio t p) n = Prio t n
with_number line n = line

-- With this number in the line after these some run shows all of them.
abbrev pub IsFound : Rules → Bounds → (before : List Line) → Line → ℕ → Type 0
IsFound r l before line n = MayStand line n × IsLegalThen r l before (with_number line n)

-- So it is with each of these.
abbrev pub AreFound : Rules → Bounds → (before : List Line) → Line → List ℕ → Type 0
AreFound r l before line numbers = All (IsFound r l before line) numbers
