-- Lines by which no variable is used as often as it may be, from a state on. How often each was used in that state
-- doesn't matter then. Lines may be listed in either order.
use Rattle.std.specs.Prelude.{ℕ, ◌≡◌, ◌+◌, ◌<◌, List, reverse}
use Rattle.std.specs.List.{sum_by}
use Rattle.pif_types.specs.Bounds.{Bounds}
use Rattle.pif_types.specs.declared.requests.Request.TheVariants.{Signal, Broadcast}
use Rattle.pif_model.specs.Posix.{World}
use Rattle.pif_uses_model.specs.Uses.{uses_in, uses_to_come, without_uses}
use Rattle.pif_history_model.specs.declared.lines.Line.{Line}
use Rattle.pif_history_model.specs.declared.lines.Line.TheVariants.{Begin}
use Rattle.pif_history_model.specs.Plain.{PlainConfiguration}
use Rattle.pif_parts_model.specs.Quiet.{IsQuiet}
use Rattle.pif_parts_model.specs.Resting.{world_by}

-- how many signals and broadcasts begin with a line
abbrev pub uses_by : Line → ℕ
uses_by (Begin t (Signal c)) = 1
uses_by (Begin t (Broadcast c)) = 1
uses_by _ = 0

-- how many begin with these lines
abbrev pub uses_begun : List Line → ℕ
uses_begun lines = sum_by uses_by lines

-- from this state on, with the uses that are to come and all that begin with these lines, each variable is used less
-- often than it may be
abbrev pub StaysBelow : World → List Line → Type 0
StaysBelow w lines = (c : ℕ) → uses_in w.variables c + uses_to_come w + uses_begun lines < w.signals

-- two states are the same but for uses
pub record AreSameButForUses (s n : PlainConfiguration) : Type 0 where
  pub world : without_uses s.world ≡ without_uses n.world
  pub dying : s.dying ≡ n.dying

-- lines before a part may stand for others before it, each oldest first, though they have used variables more often or
-- less often: both are quiet, and rest in states that are the same but for uses, and from either on the part stays below
-- the limit
pub record MayStandFor (l : Bounds) (before first part : List Line) : Type 0 where
  pub quiet : IsQuiet (reverse before)
  pub quiet_too : IsQuiet (reverse first)
  pub same : without_uses (world_by l (reverse before)) ≡ without_uses (world_by l (reverse first))
  pub below : StaysBelow (world_by l (reverse before)) part
  pub below_too : StaysBelow (world_by l (reverse first)) part
