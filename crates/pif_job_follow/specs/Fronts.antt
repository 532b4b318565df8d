-- The lines of a history behind others that are forgotten.
use Rattle.std.specs.Prelude.{ℕ, ◌≡◌, ◌⊎◌, Bool, true, false, List, [], ◌++◌, Option, Some, None, Ok}
use Rattle.pif_types.specs.Bounds.{Bounds}
use Rattle.pif_history_model.specs.declared.lines.Line.{Line}
use Rattle.pif_history_text.specs.declared.said.Said.{Said}
use Rattle.pif_history_text.specs.declared.said.Said.TheVariants.{Allow, Limits, Nothing, Shown}
use Rattle.pif_history_text.specs.Histories.{Heard, after_line, limits_of, most}

-- whether what a line says is which rules are allowed
abbrev pub allows : Option Said → Bool
allows (Some (Allow r)) = true
allows (Some Nothing) = false
allows (Some (Limits t m c s)) = false
allows (Some (Shown l)) = false
allows None = false

-- the whole history: these lines, with their numbers, come first, and these limits were named
abbrev pub behind : (front : List Line) → (numbers : List ℕ) → (named : Option Bounds) → Heard → Heard
behind front numbers named h = record h { named = named; shown = front ++ h.shown; numbers = numbers ++ h.numbers }

-- the limits that were named, or the greatest
abbrev pub limits_named : Option Bounds → Bounds
limits_named named = elim named [ Some b ↦ b | None ↦ most ]

-- a history stands behind these lines: no line is forgotten yet; or it names the limits of the whole
abbrev pub IsFrontOf : (front : List Line) → (numbers : List ℕ) → (named : Option Bounds) → Heard → Type 0
IsFrontOf front numbers named h =
    ((front ≡ []) × (numbers ≡ []) × (named ≡ h.named))
    ⊎ ((b : Bounds) × (h.named ≡ Some b) × (limits_named named ≡ b))

-- one more line of these bytes was heard of a history, and so of the whole. Its limits stay once a line is forgotten
pub record HearsNext (front : List Line) (numbers : List ℕ) (named : Option Bounds) (h : Heard) (bytes : List ℕ) (m : Heard) : Type 0 where
  pub now_named : Option Bounds
  pub whole : after_line (behind front numbers named h) bytes ≡ Ok (behind front numbers now_named m)
  pub stays_behind : IsFrontOf front numbers now_named m
  pub limits : (front ≡ []) ⊎ (limits_of m ≡ limits_of h)
  pub more : List Line
  pub grows : m.shown ≡ h.shown ++ more
