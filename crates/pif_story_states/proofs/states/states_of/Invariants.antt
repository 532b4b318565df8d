use Rattle.std.proofs.Common.{◌≡◌, ◌++◌, drop, None}
use Rattle.pif_story_states.proofs.StateLemmas.{told_from}
use Rattle.pif_story_states.proofs.states.states_of.Given as goal

abbrev pub invariant-loop-place : goal.invariant-loop-place
invariant-loop-place g l =
    told_from l.names None l.rows ≡ l.text.items ++ told_from l.names l.core (drop l.place l.rows)
