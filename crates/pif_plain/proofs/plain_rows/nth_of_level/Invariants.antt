use Rattle.std.proofs.Common.{◌≡◌, ◌+◌, length, drop}
use Rattle.std.specs.List.{slice_get}
use Rattle.pif_model.specs.PiKernel.{parked_pairs}
use Rattle.pif_kernel_model.specs.Orders.{waiters_at_level}
use Rattle.pif_plain.proofs.plain_rows.nth_of_level.Given as goal

-- so many stand before the thread among those that were not gone through
abbrev pub invariant-loop-parking : goal.invariant-loop-parking
invariant-loop-parking g l = record {
  at : slice_get (waiters_at_level (g.P.Priorities.priority_of l.priorities) l.level (parked_pairs l.list) l.c) l.fn.before
      ≡ slice_get (waiters_at_level (g.P.Priorities.priority_of l.priorities) l.level (parked_pairs (drop l.parking-index l.list)) l.c) l.before;
  fewer : l.before + length (waiters_at_level (g.P.Priorities.priority_of l.priorities) l.level (parked_pairs l.list) l.c)
      ≡ l.fn.before + length (waiters_at_level (g.P.Priorities.priority_of l.priorities) l.level (parked_pairs (drop l.parking-index l.list)) l.c);
}
