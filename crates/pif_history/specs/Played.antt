-- What a player has played: a run from the start, and the lines that it shows.
use Rattle.std.specs.Prelude.{◌≡◌, List, ◌++◌, reverse}
use Rattle.pif_types.specs.Bounds.{Bounds}
use Rattle.pif_rules_model.specs.declared.rules.Rules.{Rules}
use Rattle.pif_search.specs.Runs.{Runs, shown}
use Rattle.pif_history_model.specs.declared.labels.Label.{Label}
use Rattle.pif_history_model.specs.Searched.{Advances, hides, start_of}
use Rattle.pif_history.specs.declared.player.Player.{Player}

-- the player's position is reached by its steps, which show these lines, newest first
pub record IsPlayed (r : Rules) (l : Bounds) (lines : List Label) (p : Player) : Type 0 where
  pub run : Runs (Advances r l) (start_of l) (reverse p.labels.items) p.position
  pub shows : shown hides (reverse p.labels.items) ≡ lines

-- the player went on from p to q, and these lines, newest first, came
abbrev pub Plays : Rules → Bounds → List Label → Player → Player → Type 0
Plays r l added p q = (lines : List Label) → IsPlayed r l lines p → IsPlayed r l (added ++ lines) q
