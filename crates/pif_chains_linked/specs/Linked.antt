-- Owner states, a run queue, and the words and parked threads of buckets, that stand in one node table.
use Rattle.std.specs.Prelude.{◌≡◌, ℕ, ◌+◌, ◌*◌, ◌<◌, ◌≤◌, List, length, map, Option, Some, None, option_map}
use Rattle.std.specs.List.{range_with_len}
use Rattle.std.specs.FinMap.{get}
use Rattle.pif_nodes_model.specs.Table.{NodeLists}
use Rattle.pif_nodes_model.specs.Levels.{Queue, Holds}
use Rattle.pif_kernel_model.specs.Owners.{Owners, waits_on}
use Rattle.pif_kernel_model.specs.States.{States, owners_in}
use Rattle.pif_kernel_model.specs.Holds.{HoldsStates}
use Rattle.pif_kernel_model.specs.Boosts.{local_of}
use Rattle.pif_kernel_model.specs.Entries.{Entries, Found, found_in}
use Rattle.pif_kernel_model.specs.Parked.{Parked, parked_at}
use Rattle.pif_kernel_model.specs.Buckets.{Buckets, HoldsBuckets}
use Rattle.pif_chains_linked.specs.Parkings.{AreParked, ByPriority}

-- the places for keys: one for each of the 1,024 mutexes that can be, and one for number 0
abbrev pub key_count : ℕ
key_count = 1025

-- the key of what was found
abbrev pub key_of : Option Found → Option ℕ
key_of o = option_map (λ (f : Found). f.key) o

-- the key of the owner state of each mutex, by number; the word of a mutex has its number
abbrev pub keys_in : Entries → NodeLists → List (Option ℕ)
keys_in e t = map (λ w. key_of (found_in e t w)) (range_with_len 0 key_count)

-- where the lists and nodes of each user begin: waiters, top waiters, levels, buckets and variables, one after another;
-- and nodes of threads as waiters or parked, as top waiters and as ready ones, and of the rows of owner states
pub record IsLaidOut (m : States) (q : Queue) (b : Buckets) : Type 0 where
  pub waiters : m.first_list ≡ 0
  pub levels : q.first_list ≡ 2 * m.threads
  pub buckets : b.entries.first_list ≡ 2 * m.threads + 99
  pub variables : b.parked.first_list ≡ 2 * m.threads + 163
  pub wait_nodes : m.first_node ≡ 0
  pub ready_nodes : q.first_node ≡ 2 * m.threads
  pub row_nodes : b.entries.first_node ≡ 3 * m.threads
  pub parked_nodes : b.parked.first_node ≡ 0
  pub ready : q.threads ≡ m.threads
  pub rows : length b.entries.items ≡ m.threads
  pub parked : b.parked.threads ≡ m.threads
  pub conds : b.parked.conds ≡ 256

-- all stand in one table, which has no other lists
pub record StandLinked (m : States) (q : Queue) (b : Buckets) (t : NodeLists) : Type 0 where
  pub owners : HoldsStates m t
  pub queue : Holds q t
  pub buckets : HoldsBuckets b t
  pub laid : IsLaidOut m q b
  pub lists : length t.lists ≡ 2 * m.threads + 419

-- each word that has an owner state is that of a mutex, and names a state by its key and its row
pub record IsWordOf (m : States) (w : ℕ) (f : Found) : Type 0 where
  pub mutex : w < key_count
  pub row : get m.places f.key ≡ Some f.row

abbrev pub FitsWords : States → Entries → NodeLists → Type 0
FitsWords m e t = (w : ℕ) (f : Found) → found_in e t w ≡ Some f → IsWordOf m w f

-- a parked thread waits for nothing, was admitted, and stands among the others with its effective priority and with a
-- ticket of its own
pub record FitsParked (v : Owners) (at : ℕ → Option Parked) (threads next : ℕ) : Type 0 where
  pub parked : AreParked at threads next
  pub ranked : ByPriority at (local_of v)
  pub idle : (u : ℕ) (x : Parked) → at u ≡ Some x → waits_on v u ≡ None
  pub admitted : (u : ℕ) (x : Parked) → at u ≡ Some x → 1 ≤ local_of v u

-- what holds of linked chains between two calls; `next` is the next ticket of a parked thread
pub record IsLinked (m : States) (q : Queue) (b : Buckets) (t : NodeLists) (next : ℕ) : Type 0 where
  pub stand : StandLinked m q b t
  pub words : FitsWords m b.entries t
  pub parked : FitsParked (owners_in m t) (parked_at b.parked t) b.parked.threads next
