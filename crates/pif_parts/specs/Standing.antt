-- Which lines stand for others: behind both the history is quiet, and rests in one state, so that what follows goes on
-- alike (`histories_that_rest_alike_go_on_alike` of pif_parts_model). How often a variable was used need not be the same,
-- if no variable can come to the limit of uses (`uses_below_the_limit_change_nothing`).
use Rattle.std.specs.Prelude.{ℕ, ◌≡◌, ◌≤◌, List, length}
use Rattle.pif_types.specs.Bounds.{Bounds}
use Rattle.pif_model.specs.Posix.{World}
use Rattle.pif_uses_model.specs.Uses.{without_uses}
use Rattle.pif_history_model.specs.declared.lines.Line.{Line}
use Rattle.pif_parts_model.specs.FewUses.{StaysBelow}
use Rattle.pif_parts_model.specs.Quiet.{IsQuiet}
use Rattle.pif_parts_model.specs.Resting.{world_by}
use Rattle.pif_parts.specs.declared.past.Past.{Past}
use Rattle.pif_parts.specs.Watching.{HasHeard}
use Rattle.pif_parts.specs.Resting.{IsRest}

-- however n lines go on from this state, no variable is used as often as it may be
abbrev pub StaysBelowFor : ℕ → World → Type 0
StaysBelowFor n w = (part : List Line) → length part ≤ n → StaysBelow w part

-- from these two states on n lines go on alike: they are one; or they are the same but for uses, and from neither a
-- variable can come to the limit of uses
pub data GoOnAlike (n : ℕ) (w v : World) : Type 0 where
  exactly : v ≡ w → GoOnAlike n w v
  but_for_uses : without_uses v ≡ without_uses w → StaysBelowFor n w → StaysBelowFor n v → GoOnAlike n w v

-- these lines stand for those, each newest first, if at most n lines follow, with these limits
pub record StandFor (l : Bounds) (n : ℕ) (lines others : List Line) : Type 0 where
  pub quiet : IsQuiet lines
  pub others_quiet : IsQuiet others
  pub alike : GoOnAlike n (world_by l lines) (world_by l others)

-- this is known of these lines, newest first
pub record IsPast (lines : List Line) (past : Past) : Type 0 where
  pub watch : HasHeard lines past.watch
  pub rest : IsRest lines past.rest
