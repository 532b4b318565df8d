-- What is kept once a thread has left what it waited for and its level, before the others have their priorities.
use Rattle.std.specs.Prelude.{◌≡◌, ◌≢◌, ℕ, ◌<◌, true, if◌then◌else◌, length, Some, None}
use Rattle.pif_nodes_model.specs.Lists.{list_without}
use Rattle.pif_nodes_model.specs.Levels.{Holds, IsLevel, level_of}
use Rattle.pif_model.specs.Graph.{has_waiter, without}
use Rattle.pif_model.specs.PiKernel.{waits_for, parkings_without}
use Rattle.pif_kernel_model.specs.Owners.{task_at, owner_at, count}
use Rattle.pif_kernel_model.specs.Inside.{Inside, kernel_of, state_key_at}
use Rattle.pif_kernel_model.specs.Arrivals.{mutexes_of}

-- t has left: it waits for nothing, is not parked, and is on no level, and an owner state stays exactly if others
-- are queued. Nobody but `start` had it as a waiter. Its status, by which the waiters are found, is still the old one
pub record IsLeft (old now : Inside) (t start : ℕ) : Type 0 where
  pub frame : now ≡ record old {
    keys = now.keys;
    owners = now.owners;
    queue = now.queue;
    table = now.table;
    arrivals = now.arrivals;
    parked = parkings_without old.parked t;
  }
  pub rows : length now.owners.seats ≡ length old.owners.seats
  pub free : task_at now.owners t ≡ record (task_at old.owners t) { wait = None }
  pub others : (u : ℕ) → u ≢ t → task_at now.owners u ≡ task_at old.owners u
  pub places : length now.keys ≡ length old.keys
  pub keys : (m : ℕ) → state_key_at now m ≡ (if has_waiter (without old.arrivals t) m then state_key_at old m else None)
  pub states : (m k : ℕ) → has_waiter (without old.arrivals t) m ≡ true → state_key_at old m ≡ Some k
      → owner_at now.owners k ≡ owner_at old.owners k
  pub count : count now.owners ≡ mutexes_of (without old.arrivals t)
  pub levels : (r : ℕ) → IsLevel r
      → level_of now.queue now.table r ≡ list_without t (level_of old.queue old.table r)
  pub place : now.queue ≡ record old.queue { mask = now.queue.mask }
  pub holds : Holds now.queue now.table
  pub waited : (u : ℕ) → u ≢ 0 → waits_for (kernel_of old) t ≡ u → u ≡ start
  pub some : start ≢ 0
  pub added : start < length old.statuses
