-- A change of the owner states of words keeps what the parked threads have in the table.
use Rattle.std.proofs.Common.{◌≡◌, ◌⊎◌, ℕ, ◌+◌, ◌≤◌, length, sym, ◌∙◌, ap, inl, inr, arith}
use Rattle.pif_nodes_model.specs.Table.{NodeLists}
use Rattle.pif_kernel_model.specs.Frames.{KeepsLists}
use Rattle.pif_kernel_model.specs.QueueFrames.{KeepsOthers}
use Rattle.pif_kernel_model.specs.Entries.{Entries, HoldsEntries}
use Rattle.pif_kernel_model.specs.Parked.{parked_at}
use Rattle.pif_kernel_model.specs.Buckets.{Buckets, StandApart, HoldsBuckets}
use Rattle.pif_kernel_model.proofs.ParkedFrames.{seen-framed, parked-framed}

module _ (b : Buckets) (was now : NodeLists) (apart : StandApart b) where
  pub lists-keep : KeepsOthers b.entries.first_list 64 b.entries.first_node (length b.entries.items) was now
      → KeepsLists b.parked.first_list b.parked.conds was now
  lists-keep k =
      record {
        lists = λ l low high. k.lists l (inr (omega (arith, apart.lists)));
        keys = λ l n low high there. k.keys l n (inr (omega (arith, apart.lists))) there;
        list_count = k.list_count;
        node_count = k.node_count;
      }

-- the parked threads once the owner states of words changed
module _ (b : Buckets) (e : Entries) (was now : NodeLists) (h : HoldsBuckets b was)
    (k : KeepsOthers b.entries.first_list 64 b.entries.first_node (length b.entries.items) was now)
    (list : e.first_list ≡ b.entries.first_list) (node : e.first_node ≡ b.entries.first_node)
    (rows : length e.items ≡ length b.entries.items) (holds : HoldsEntries e now) where
  pub parked-same : (u : ℕ) → parked_at b.parked now u ≡ parked_at b.parked was u
  parked-same = seen-framed b.parked was now (lists-keep b was now h.apart k) h.parked

  pub words-changed : HoldsBuckets (record { entries = e; parked = b.parked }) now
  words-changed =
      record {
        apart = record { lists = h.apart.lists ∙ ap (λ n. n + 64) (sym list); nodes = nodes h.apart.nodes };
        entries = holds;
        parked = parked-framed b.parked was now (lists-keep b was now h.apart k) h.parked holds.apart;
      }
    where
      nodes : ((b.parked.first_node + b.parked.threads ≤ b.entries.first_node)
          ⊎ (b.entries.first_node + length b.entries.items ≤ b.parked.first_node))
          → (b.parked.first_node + b.parked.threads ≤ e.first_node)
          ⊎ (e.first_node + length e.items ≤ b.parked.first_node)
      nodes (inl before) = inl (omega (arith, before, node))
      nodes (inr behind) = inr (omega (arith, behind, node, rows))
