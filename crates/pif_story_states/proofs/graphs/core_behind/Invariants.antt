use Rattle.std.proofs.Common.{◌≡◌, drop, map, None}
use Rattle.pif_script_model.specs.Rows.{asked_in}
use Rattle.pif_story_states.specs.Stories.{core_behind}
use Rattle.pif_story_states.proofs.graphs.core_behind.Given as goal

abbrev pub invariant-loop-place : goal.invariant-loop-place
invariant-loop-place g l =
    core_behind None (map asked_in l.rows) ≡ core_behind l.core (map asked_in (drop l.place l.rows))
