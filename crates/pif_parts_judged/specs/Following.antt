-- A history that is judged while it is read: its front was judged, and is forgotten, and the lines behind it are open.
-- Lines are oldest first.
use Rattle.std.specs.Prelude.{ℕ, ◌≡◌, List, [], ◌++◌, length, reverse}
use Rattle.pif_types.specs.Bounds.{Bounds}
use Rattle.pif_history_model.specs.declared.lines.Line.{Line}
use Rattle.pif_history_model.specs.Shown.{IsShown}
use Rattle.pif_parts.specs.declared.joining.PartVerdict.{PartVerdict}
use Rattle.pif_parts.specs.declared.joining.WholeVerdict.{WholeVerdict}
use Rattle.pif_parts.specs.declared.joining.WholeVerdict.TheVariants as whole
use Rattle.pif_parts.specs.Parts.{IsOf, IsOfWhole}
use Rattle.pif_parts.specs.declared.parts.Span.{Span}
use Rattle.pif_parts.specs.Standing.{IsPast, StandFor}
use Rattle.pif_parts_judged.specs.declared.following.Judged.{Judged}
use Rattle.pif_parts_judged.specs.declared.following.Step.{Step}
use Rattle.pif_parts_judged.specs.declared.following.Step.TheVariants as step

-- the most lines that are judged at once: so many bytes are the most of a history that is read whole
abbrev pub lines_most : ℕ
lines_most = 268435456

-- so far the front is legal, other lines stand for it, and all lines are known. For a front of no lines they stand with any
-- limits, since a line `limits` may follow
pub record IsJudged (l : Bounds) (front later : List Line) (j : Judged) : Type 0 where
  pub count : j.count ≡ length front
  pub legal : IsShown l (reverse front)
  pub stands : StandFor l lines_most (reverse j.before.items) (reverse front)
  pub at_first : front ≡ [] → (m : Bounds) → StandFor m lines_most (reverse j.before.items) (reverse front)
  pub past : IsPast (reverse (front ++ later)) j.past

-- the lines that stand for the front, and those that are open
abbrev pub both : (before later : List Line) → List Line
both before later = before ++ later

-- the place of so many lines behind so many, which begin with these if they stand alone
abbrev pub span : (first count : ℕ) → (before : List Line) → Span
span first count before = record { first = first; count = count; before = length before }

-- this is so of these
abbrev pub IsOfOpen : Bounds → Judged → (later : List Line) → PartVerdict → Type 0
IsOfOpen l j later v = IsOf l (both j.before.items later) v

-- the whole isn't legal, or it isn't known whether it is
abbrev pub IsAgainst : WholeVerdict → Type 0
IsAgainst v = v ≡ whole.Legal → ⊥

-- what judging open lines came to
abbrev pub ComesTo : Bounds → (front later : List Line) → Judged → Step → Type 0
ComesTo l front later j step.Waits = IsJudged l front later j
ComesTo l front later j step.Legal = IsJudged l (front ++ later) [] j
ComesTo l front later j (step.Ends v) = IsJudged l front later j × IsOfWhole l (front ++ later) v × IsAgainst v
