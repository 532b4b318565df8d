-- A history that is cut where it is quiet: what is behind the cut is judged by itself, from the state in which the
-- history rests there.
use Rattle.std.specs.Prelude.{ℕ, ◌≤◌, ◌-◌, List, length, map, reverse, take}
use Rattle.pif_types.specs.Bounds.{Bounds}
use Rattle.pif_search.specs.Runs.{CanShow}
use Rattle.pif_history_model.specs.declared.lines.Line.{Line}
use Rattle.pif_history_model.specs.declared.labels.Label.TheVariants.{Shown}
use Rattle.pif_history_model.specs.Plain.{PlainConfiguration, PlainAdvances}
use Rattle.pif_history_model.specs.Searched.{hides}

-- some run of the machine that is searched shows these lines, newest first, from this state on
pub record IsShownFrom (l : Bounds) (start : PlainConfiguration) (lines : List Line) : Type 0 where
  pub last : PlainConfiguration
  pub run : CanShow (PlainAdvances l) hides start (map (λ x. Shown x) lines) last

-- no run from this state on shows the first n of these lines, oldest first, and one shows the first n - 1
pub record IsIllegalFrom (l : Bounds) (start : PlainConfiguration) (lines : List Line) (n : ℕ) : Type 0 where
  pub some : 1 ≤ n
  pub within : n ≤ length lines
  pub illegal : IsShownFrom l start (reverse (take n lines)) → ⊥
  pub legal : IsShownFrom l start (reverse (take (n - 1) lines))
