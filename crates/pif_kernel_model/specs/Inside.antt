-- What a kernel keeps, and the kernel by itself that it stands for.
use Rattle.std.specs.Prelude.{◌≡◌, ◌≢◌, ℕ, ◌+◌, ◌<◌, ◌≤◌, true, List, [], ◌∷◌, length, map, replicate, get_or, Option, Some, None, IsSome, option_map, option_and_then, unwrap_or}
use Rattle.pif_types.specs.Bounds.{Bounds, IsWithin}
use Rattle.pif_model.specs.declared.lines.Status.{Status}
use Rattle.pif_model.specs.declared.lines.Status.TheVariants.{Ready}
use Rattle.pif_model.specs.declared.lines.Woken.TheVariants.{Fresh}
use Rattle.pif_model.specs.PiKernel.{Kernel, IsKernel, queued_on, is_ready, has_seat, is_among, level_at, levels_by, effective_in}
use Rattle.pif_model.specs.PiKernel.{Seat as KernelSeat, Parking}
use Rattle.pif_nodes_model.specs.declared.keys.Key.{Key}
use Rattle.pif_nodes_model.specs.Table.{NodeLists}
use Rattle.pif_nodes_model.specs.Levels.{Queue, Holds, level_of}
use Rattle.pif_kernel_model.specs.Arrivals.{in_order}
use Rattle.pif_kernel_model.specs.Owners.{Owners, Task, task_at, owner_at, count, waits_on, rank_of, no_task}
use Rattle.pif_kernel_model.specs.Arrivals.{Rise, mutexes_of}

-- what a kernel keeps
pub record Inside : Type 0 where
  pub limits : Bounds
  -- the status of each thread, by number; place 0 stands for nobody
  pub statuses : List Status
  -- the key of the owner state of each mutex, by number; None if there is no owner state
  pub keys : List (Option ℕ)
  pub owners : Owners
  -- the run queue, in its table
  pub queue : Queue
  pub table : NodeLists
  -- pairs of a thread and the mutex on which it is queued, in order of their tickets
  pub arrivals : List (ℕ × ℕ)
  -- the parked threads, in order of their tickets. Nothing but that order is asked of these
  pub parked : List Parking
  -- the next ticket
  pub next : ℕ

-- the status of a thread
abbrev pub status_at : Inside → ℕ → Status
status_at p t = get_or p.statuses t (Ready Fresh)

-- the key of the owner state of a mutex
abbrev pub state_key_at : Inside → ℕ → Option ℕ
state_key_at p m = get_or p.keys m None

-- the owner in the owner state under a key; 0 if there is no key
abbrev pub owner_under : Owners → Option ℕ → ℕ
owner_under v key = unwrap_or (option_and_then (owner_at v) key) 0

-- the owner in the owner state of a mutex; 0 if it has none
abbrev pub state_at : Inside → ℕ → ℕ
state_at p m = owner_under p.owners (state_key_at p m)

-- a thread, by its status and its row
abbrev pub seat_of : Status → Task → KernelSeat
seat_of x r = record { base = r.base; status = x }

-- the threads, by their statuses and rows
abbrev pub seats_of : List Status → List Task → List KernelSeat
seats_of [] rows = []
seats_of (x ∷ xs) [] = []
seats_of (x ∷ xs) (r ∷ rows) = seat_of x r ∷ seats_of xs rows

-- the kernel by itself
unfoldable pub kernel_of : Inside → Kernel
kernel_of p = record {
  limits = p.limits;
  seats = seats_of p.statuses p.owners.seats;
  states = map (owner_under p.owners) p.keys;
  waiters = p.arrivals;
  parked = p.parked;
  levels = levels_by (level_of p.queue p.table);
}

-- the next ticket of a kernel
abbrev pub next_ticket : Inside → ℕ
next_ticket p = p.next

-- the ticket with which a thread waits; 0 if it waits for nothing
abbrev pub ticket_of : Owners → ℕ → ℕ
ticket_of v t = unwrap_or (option_map (λ (r : Key). r.ticket) (rank_of v t)) 0

-- the threads that wait by their statuses, each with its mutex, in order of the tickets that they have in these states
abbrev pub arrivals_in : List Status → Owners → List (ℕ × ℕ)
arrivals_in statuses v =
    in_order (ticket_of v) (λ t. queued_on (get_or statuses t (Ready Fresh))) (length statuses)

-- no key, for each of the 1,024 mutexes that can be
unfoldable pub no_keys : List (Option ℕ)
no_keys = replicate 1025 None

-- a thread on a level of the run queue was added and may run, and the level is the effective priority that it has
pub record IsListed (p : Inside) (t level : ℕ) : Type 0 where
  pub added : has_seat (kernel_of p) t ≡ true
  pub ready : is_ready (status_at p t) ≡ true
  pub local : (task_at p.owners t).local ≡ level

-- what holds of the parts at any time, between the steps of a call too
pub record IsPlaced (p : Inside) : Type 0 where
  pub within : IsWithin p.limits
  -- a row for each thread that the limits allow, and a place for the key of each mutex that can be
  pub rows : length p.owners.seats ≡ p.limits.threads + 1
  pub keys : length p.keys ≡ 1025
  -- threads and rows: who was added was admitted, and nobody else
  pub some : 1 ≤ length p.statuses
  pub few : length p.statuses ≤ p.limits.threads + 1
  pub nobody : task_at p.owners 0 ≡ no_task
  pub admitted : (t : ℕ) → t ≢ 0 → t < length p.statuses → 1 ≤ (task_at p.owners t).base
  pub free : (t : ℕ) → length p.statuses ≤ t → task_at p.owners t ≡ no_task
  pub most : (t : ℕ) → (task_at p.owners t).base ≤ 99
  -- the run queue stands in its table, with a node for each thread that the limits allow
  pub threads : p.queue.threads ≡ p.limits.threads
  pub holds : Holds p.queue p.table
  pub listed : (t level : ℕ) → is_among (level_at (kernel_of p).levels level) t ≡ true → IsListed p t level
  -- a thread waits on the owner state of the mutex on which it is queued
  pub waits : (t : ℕ) → waits_on p.owners t ≡ state_key_at p (queued_on (status_at p t))
  -- each key is that of one mutex, and names an owner state; there are no others
  pub no_mutex : state_key_at p 0 ≡ None
  pub apart : (m n k : ℕ) → state_key_at p m ≡ Some k → state_key_at p n ≡ Some k → m ≡ n
  pub made : (m k : ℕ) → state_key_at p m ≡ Some k → IsSome (owner_at p.owners k)
  pub owned : (m k : ℕ) → state_key_at p m ≡ Some k → state_at p m ≢ 0
  pub count : count p.owners ≡ mutexes_of p.arrivals
  -- the owner in an owner state was added
  pub owners : (m : ℕ) → state_at p m < length p.statuses
  -- tickets rise along the arrivals, and lie below the next
  pub tickets : Rise (ticket_of p.owners) 1 p.arrivals p.next

-- what holds of the parts between two calls
pub record IsSoundInside (p : Inside) : Type 0 where
  pub placed : IsPlaced p
  -- threads stand with their effective priorities
  pub local : (t : ℕ) → (task_at p.owners t).local ≡ effective_in (kernel_of p) t
  pub rank : (t : ℕ) (r : Key) → rank_of p.owners t ≡ Some r → r.prio ≡ effective_in (kernel_of p) t
  pub kernel : IsKernel (kernel_of p)
