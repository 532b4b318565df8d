use Rattle.std.proofs.Common.{◌≡◌, ◌+◌, ◌-◌, ◌≤◌, length}
use Rattle.std.specs.List.{slice_get}
use Rattle.pif_nodes_model.specs.Table.{list_at}
use Rattle.pif_runq.proofs.queue.nth_of_list.Given as goal

-- the node at hand stands behind as many as were taken off
abbrev pub invariant-loop-next : goal.invariant-loop-next
invariant-loop-next l = record {
  fewer : l.before ≤ l.fn.before;
  within : l.fn.before ≤ l.before + length (list_at l.table l.fn.list);
  at : l.next ≡ slice_get (list_at l.table l.fn.list) (l.fn.before - l.before);
}

abbrev pub decreases-loop-next : goal.decreases-loop-next
decreases-loop-next l = l.before
