-- The owner states of words and the parked threads, in one table.
use Rattle.std.specs.Prelude.{◌≡◌, ◌+◌, ◌≤◌, ◌⊎◌, length, refl}
use Rattle.std.specs.Coded.{Coded, code_by, coded×}
use Rattle.pif_nodes_model.specs.Table.{NodeLists}
use Rattle.pif_kernel_model.specs.Entries.{Entries, entries_code, HoldsEntries, HasRoomForEntries}
use Rattle.pif_kernel_model.specs.Parked.{ParkedLists, parked_code, HoldsParked, HasRoomForParked}

pub record Buckets : Type 0 where
  pub entries : Entries
  pub parked : ParkedLists

-- the lists of the buckets come first, and then those of the variables; the nodes of the rows are others than those of
-- the threads
pub record StandApart (b : Buckets) : Type 0 where
  pub lists : b.parked.first_list ≡ b.entries.first_list + 64
  pub nodes : (b.parked.first_node + b.parked.threads ≤ b.entries.first_node)
      ⊎ (b.entries.first_node + length b.entries.items ≤ b.parked.first_node)

-- both stand in a table
pub record HoldsBuckets (b : Buckets) (t : NodeLists) : Type 0 where
  pub apart : StandApart b
  pub entries : HoldsEntries b.entries t
  pub parked : HoldsParked b.parked t

-- both may stand, with no word and nobody parked, in a table
pub record HasRoomForBuckets (b : Buckets) (t : NodeLists) : Type 0 where
  pub apart : StandApart b
  pub entries : HasRoomForEntries b.entries t
  pub parked : HasRoomForParked b.parked t

abbrev pub buckets_code : Coded Buckets
buckets_code =
    code_by (Entries × ParkedLists) (coded× entries_code parked_code) (λ b. (b.entries, b.parked))
    (λ p. record { entries = p.0; parked = p.1 }) (λ _. refl)
