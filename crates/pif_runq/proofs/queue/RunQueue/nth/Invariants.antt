use Rattle.std.proofs.Common.{◌≡◌, ◌-◌}
use Rattle.std.specs.List.{slice_get}
use Rattle.pif_nodes_model.specs.Levels.{all_below}
use Rattle.pif_runq.proofs.queue.RunQueue.nth.Given as goal

-- so many stand before the thread on the levels that are left
abbrev pub invariant-loop-above : goal.invariant-loop-above
invariant-loop-above l =
    slice_get (all_below l.self l.table 100) l.place ≡ slice_get (all_below l.self l.table (100 - l.above)) l.before
