-- What is known of a history once some of its components were judged.
use Rattle.std.specs.Prelude.{ℕ, ◌≡◌, ◌<◌, ◌-◌, min, true, false, List, length, reverse, take, Option, Some, None, if◌then◌else◌}
use Rattle.pif_types.specs.Bounds.{Bounds}
use Rattle.pif_history_model.specs.declared.lines.Line.{Line}
use Rattle.pif_history_model.specs.Shown.{IsShown}
use Rattle.pif_history_machine.specs.declared.verdicts.Verdict.{Verdict}
use Rattle.pif_history_machine.specs.declared.verdicts.Verdict.TheVariants as found
use Rattle.pif_components_model.specs.Components.{lines_of}
use Rattle.pif_components_model.specs.Places.{IsIllegalAt}
use Rattle.pif_parts.specs.declared.joining.PartVerdict.{PartVerdict}
use Rattle.pif_parts.specs.declared.joining.PartVerdict.TheVariants as part
use Rattle.pif_components.specs.declared.groups.Groups.{Groups}
use Rattle.pif_components.specs.declared.judging.Standing.{Standing}
use Rattle.pif_components.specs.Sides.{side_of}

-- the verdict on a history by that of a search
abbrev pub verdict_by : Verdict → PartVerdict
verdict_by (found.Legal witness) = part.Legal
verdict_by (found.Illegal n) = part.Illegal n
verdict_by (found.Undecided n) = part.Undecided

-- how many lines are still to be judged: those before the least that is known to be illegal
abbrev pub within : Option ℕ → ℕ → ℕ
within None n = n
within (Some p) n = min (p - 1) n

-- one more verdict is known
abbrev pub told : Standing → PartVerdict → Standing
told s part.Legal = s
told s (part.Illegal n) = record { illegal = Some n; undecided = s.undecided }
told s part.Undecided = record { illegal = s.illegal; undecided = true }

-- the verdict on the history
abbrev pub verdict_at : Option ℕ → PartVerdict
verdict_at None = part.Legal
verdict_at (Some n) = part.Illegal n

abbrev pub verdict_of : Standing → PartVerdict
verdict_of s = if s.undecided then part.Undecided else verdict_at s.illegal

-- a component is illegal, first at this line of all
pub record IsIllegalIn (l : Bounds) (lines : List Line) (g : Groups) (place : ℕ) : Type 0 where
  pub number : ℕ
  pub below : number < g.count
  pub illegal : IsIllegalAt l (side_of g number) lines place

-- if a line is told
abbrev pub IsTold : Bounds → List Line → Groups → Option ℕ → Type 0
IsTold l lines g None = Unit {0}
IsTold l lines g (Some place) = IsIllegalIn l lines g place

-- the first n components were judged: if none is undecided, all of them are legal up to the least line at which one is
-- illegal
pub record AreJudged (l : Bounds) (lines : List Line) (g : Groups) (n : ℕ) (s : Standing) : Type 0 where
  pub told : IsTold l lines g s.illegal
  pub legal : s.undecided ≡ false → (k : ℕ) → k < n
      → IsShown l (reverse (lines_of (side_of g k) (take (within s.illegal (length lines)) lines)))
