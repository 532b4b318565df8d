-- A counter that rises by 1 up to a top, beside a lamp that is switched at any time. A state is the count and whether the
-- lamp is on. What it says is its count.
use Rattle.std.specs.Prelude.{ℕ, ◌≡◌, ◌<◌, ◌+◌, Bool, true, false, not, Option, Some, None}

-- only what it says is shown
abbrev pub is_hidden : Option ℕ → Bool
is_hidden None = true
is_hidden (Some n) = false

-- one step of a counter with this top
pub data Counts (top : ℕ) (s : ℕ × Bool) (l : Option ℕ) (t : ℕ × Bool) : Type 0 where
  rises : l ≡ None → s.0 < top → t.0 ≡ s.0 + 1 → t.1 ≡ s.1 → Counts top s l t
  switches : l ≡ None → t.0 ≡ s.0 → t.1 ≡ not s.1 → Counts top s l t
  says : l ≡ Some s.0 → t ≡ s → Counts top s l t
