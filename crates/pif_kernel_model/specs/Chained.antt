-- The threads of a kernel as their chains are seen: owner states and run queue, the table in which both may stand, the
-- keys of the mutexes, and who is parked.
use Rattle.std.specs.Prelude.{◌≡◌, ℕ, List, [], Option, refl}
use Rattle.std.specs.Coded.{Coded, code_by, coded×, coded_ℕ, coded_list, coded_option}
use Rattle.pif_nodes_model.specs.Table.{NodeLists}
use Rattle.pif_nodes_model.specs.Levels.{Queue, IsLevel, level_of, Holds}
use Rattle.pif_model.specs.PiKernel.{Parking}
use Rattle.pif_kernel_model.specs.Owners.{Owners, owners_code, no_owners}
use Rattle.pif_kernel_model.specs.Codes.{queue_code, table_code, parking_code}
use Rattle.pif_kernel_model.specs.Inside.{no_keys}

pub record Chained : Type 0 where
  pub owners : Owners
  pub queue : Queue
  pub table : NodeLists
  -- the key of the owner state of each mutex, by number; None if there is no owner state
  pub keys : List (Option ℕ)
  -- the parked threads, in the order in which they were parked
  pub parked : List Parking

abbrev pub chained_code : Coded Chained
chained_code =
    code_by (Owners × (Queue × (NodeLists × (List (Option ℕ) × List Parking))))
    (coded× owners_code (coded× queue_code (coded× table_code
    (coded× (coded_list (coded_option coded_ℕ)) (coded_list parking_code)))))
    (λ x. (x.owners, (x.queue, (x.table, (x.keys, x.parked)))))
    (λ p. record {
      owners = p.0;
      queue = p.1.0;
      table = p.1.1.0;
      keys = p.1.1.1.0;
      parked = p.1.1.1.1;
    })
    (λ _. refl)

-- nobody was admitted, of so many threads
pub record IsUnused (count : ℕ) (x : Chained) : Type 0 where
  pub owners : x.owners ≡ no_owners count
  pub threads : x.queue.threads ≡ count
  pub levels : (p : ℕ) → IsLevel p → level_of x.queue x.table p ≡ []
  pub holds : Holds x.queue x.table
  pub keys : x.keys ≡ no_keys
  pub parked : x.parked ≡ []

-- all but the owner states is as it was: each level, whatever became of the table, each key, and who is parked
pub record KeepsLevels (was now : Chained) : Type 0 where
  pub levels : (p : ℕ) → IsLevel p → level_of now.queue now.table p ≡ level_of was.queue was.table p
  pub queue : now.queue ≡ was.queue
  pub holds : Holds now.queue now.table
  pub keys : now.keys ≡ was.keys
  pub parked : now.parked ≡ was.parked
