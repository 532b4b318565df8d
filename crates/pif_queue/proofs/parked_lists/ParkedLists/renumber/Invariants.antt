use Rattle.std.proofs.Common.{◌≡◌, ℕ, ◌+◌, ◌-◌}
use Rattle.pif_nodes_model.specs.Table.{holder}
use Rattle.pif_kernel_model.specs.QueueFrames.{KeepsOthers}
use Rattle.pif_kernel_model.specs.Parked.{IsThread, parking_node, parked_at, HoldsParked}
use Rattle.pif_queue.proofs.Numbering.{IsNumbering}
use Rattle.pif_queue.proofs.parked_lists.ParkedLists.renumber.Given as goal

-- the tickets below the next are given, and the table is otherwise as it was
abbrev pub invariant-loop-t : goal.invariant-loop-t
invariant-loop-t l =
    record {
      same : l.self ≡ l.initial.self;
      numbering : IsNumbering (parked_at l.initial.self l.initial.table) (parked_at l.self l.table) l.initial.self.threads l.ticket;
      outside : KeepsOthers l.initial.self.first_list l.initial.self.conds l.initial.self.first_node l.initial.self.threads l.initial.table l.table;
      nodes : (u : ℕ) → IsThread l.initial.self u
          → holder l.table (parking_node l.initial.self u) ≡ holder l.initial.table (parking_node l.initial.self u);
      holds : HoldsParked l.self l.table;
    }

abbrev pub decreases-loop-t : goal.decreases-loop-t
decreases-loop-t l = l.initial.self.threads + 1 - l.ticket
