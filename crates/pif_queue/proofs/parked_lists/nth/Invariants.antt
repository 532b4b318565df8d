use Rattle.std.proofs.Common.{◌≡◌, Some}
use Rattle.std.specs.List.{slice_get}
use Rattle.pif_nodes_model.specs.Table.{list_at}
use Rattle.pif_queue.proofs.parked_lists.nth.Given as goal

-- so many stand before the node that was reached
abbrev pub invariant-loop : goal.invariant-loop
invariant-loop l = slice_get (list_at l.table l.fn.list) l.counter ≡ Some l.node
