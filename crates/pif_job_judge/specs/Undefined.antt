-- Calls whose behaviour POSIX leaves undefined, before the line from which on it forbids a history.
use Rattle.std.specs.Prelude.{◌≡◌, ◌≤◌, ◌-◌, true, List, ◌∷◌, reverse, slice_get, take, Some}
use Rattle.pif_types.specs.Bounds.{Bounds}
use Rattle.pif_rules_model.specs.declared.rules.Rules.{Rules}
use Rattle.pif_history_model.specs.declared.facts.Fact.TheVariants.{LeftUndefined}
use Rattle.pif_history_model.specs.declared.lines.Line.{Line}
use Rattle.pif_history_model.specs.declared.lines.Line.TheVariants.{Begin, Asks}
use Rattle.pif_history_model.specs.Verdicts.{IsShownBy}
use Rattle.pif_job_judge.specs.declared.undefined.Begun.{Begun}

-- One of these lines, oldest first, begins a call. Some run with these rules shows the lines up to it, and POSIX leaves
-- undefined then what the call does.
pub record IsUndefinedBefore (r : Rules) (l : Bounds) (lines : List Line) (b : Begun) : Type 0 where
  pub some : 1 ≤ b.count
  pub begins : slice_get lines (b.count - 1) ≡ Some (Begin b.thread b.request)
  pub undefined : IsShownBy (record r { extra_lines = true }) l (Asks (LeftUndefined b.thread) true ∷ reverse (take b.count lines))
