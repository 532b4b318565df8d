-- Which line of the whole a line of a side is, and what the verdict on a side is as one on the whole. Lines are oldest
-- first, as in a file, and are counted from 1.
use Rattle.std.specs.Prelude.{ℕ, ◌≡◌, ◌≤◌, ◌+◌, ◌-◌, List, length, reverse, take}
use Rattle.pif_types.specs.Bounds.{Bounds}
use Rattle.pif_rules_model.specs.Sets.{no_rules}
use Rattle.pif_history_model.specs.declared.lines.Line.{Line}
use Rattle.pif_history_model.specs.Shown.{IsShown}
use Rattle.pif_history_model.specs.Verdicts.{IsIllegal}
use Rattle.pif_components_model.specs.Components.{Side, lines_of}

-- line `place` of all lines is the nth line of the side: n of the lines up to it are of the side, and one less of those
-- before it
pub record IsPlaceOf (x : Side) (lines : List Line) (n place : ℕ) : Type 0 where
  pub some : 1 ≤ place
  pub within : place ≤ length lines
  pub count : length (lines_of x (take place lines)) ≡ n
  pub before : length (lines_of x (take (place - 1) lines)) + 1 ≡ n

-- the lines of the side are illegal, first at the one that is line `place` of all
pub record IsIllegalAt (l : Bounds) (x : Side) (lines : List Line) (place : ℕ) : Type 0 where
  pub number : ℕ
  pub is : IsPlaceOf x lines number place
  pub illegal : IsIllegal no_rules l (lines_of x lines) number

-- the lines of the side before line `place` of all are legal
abbrev pub IsLegalBefore : Bounds → Side → List Line → ℕ → Type 0
IsLegalBefore l x lines place = IsShown l (reverse (lines_of x (take (place - 1) lines)))
