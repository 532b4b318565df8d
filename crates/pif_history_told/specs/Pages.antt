-- Pages around lines of JSON.
use Rattle.std.specs.Prelude.{ℕ, ◌≡◌, List, ◌++◌}

-- Bytes grew by a page that holds these lines, between what is before and after them in each page.
abbrev pub IsPageOf : (lines old new : List ℕ) → Type 0
IsPageOf lines old new = (before : List ℕ) × (behind : List ℕ) × (new ≡ old ++ (before ++ lines ++ behind))
