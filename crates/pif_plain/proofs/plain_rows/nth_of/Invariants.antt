use Rattle.std.proofs.Common.{◌≡◌, ◌==◌, ◌-◌, map, filter}
use Rattle.std.specs.List.{slice_get}
use Rattle.pif_model.specs.Graph.{waiting_order, by_greatest}
use Rattle.pif_model.specs.PiKernel.{parked_pairs}
use Rattle.pif_plain.proofs.plain_rows.nth_of.Given as goal

-- so many stand before the thread among those of the levels that are left
abbrev pub invariant-loop-above : goal.invariant-loop-above
invariant-loop-above g l =
    slice_get (waiting_order (g.P.Priorities.priority_of l.priorities) (parked_pairs l.list) l.c) l.place
    ≡ slice_get (by_greatest (g.P.Priorities.priority_of l.priorities) (100 - l.above)
    (map (λ w. w.0) (filter (λ w. w.1 == l.c) (parked_pairs l.list)))) l.before
