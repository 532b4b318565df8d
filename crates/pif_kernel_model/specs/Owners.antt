-- The kernel's owner states, each with its owner, and for each thread its priorities and what it waits for. (RT-mutex
-- design: rt_mutex, its owner and its waiters.) Threads are numbered from 1; place 0 of the seats stands for nobody.
use Rattle.std.specs.Prelude.{◌≡◌, ◌≢◌, ℕ, zero, suc, ◌+◌, ◌≤◌, false, List, length, replicate, get_or, set, Option, Some, None, IsSome, option_map, option_and_then, unwrap_or, refl}
use Rattle.std.proofs.Math.Nat.{not-suc-le-zero}
use Rattle.std.specs.Ordering.{nat_cmp}
use Rattle.std.specs.FinMap.{FinMap, empty, get, insert, remove, len}
use Rattle.std.specs.FinMap as map
use Rattle.std.specs.Coded.{Coded, code_by, coded×, coded_ℕ, coded_list, coded_option}
use Rattle.pif_nodes_model.specs.declared.keys.Key.{Key}
use Rattle.pif_nodes_model.specs.Order.{comes_before}
use Rattle.pif_model.specs.Graph.{Reaches}

-- what a thread waits for
pub record Wait : Type 0 where
  -- the owner state on which it is queued
  pub state : ℕ
  -- the priority with which it stands there, as last handed in, and its ticket
  pub rank : Key

-- what is known of a thread: its priorities and what it waits for (task_struct of Linux: normal_prio, prio and
-- pi_blocked_on)
pub record Task : Type 0 where
  -- its base priority; 0 if it was not admitted
  pub base : ℕ
  -- its effective priority, as last handed in
  pub local : ℕ
  pub wait : Option Wait

-- the priority of this number; None for 0
abbrev pub prio_of : ℕ → Option ℕ
prio_of zero = None
prio_of (suc n) = Some (suc n)

-- a priority, or none, has 1 to 99 for its number
abbrev pub IsPrio : Option ℕ → Type 0
IsPrio None = Unit {0}
IsPrio (Some p) = (1 ≤ p) × (p ≤ 99)

-- so its number gives it back
pub prio_of-unwrap_or : (o : Option ℕ) → IsPrio o → prio_of (unwrap_or o 0) ≡ o
prio_of-unwrap_or None h = refl
prio_of-unwrap_or (Some zero) h = absurd (not-suc-le-zero h.0)
prio_of-unwrap_or (Some (suc n)) h = refl

-- the owner states
pub record Owners : Type 0 where
  -- the threads, by number
  pub seats : List Task
  -- the owner of each state, by its key
  pub owners : FinMap nat_cmp ℕ

-- what stands at place 0 of the seats, and of a thread that was not admitted
abbrev pub no_task : Task
no_task = record { base = 0; local = 0; wait = None }

-- no state, and seats for so many threads, of which none was admitted
abbrev pub no_owners : ℕ → Owners
no_owners threads = record { seats = replicate (threads + 1) no_task; owners = empty }

abbrev pub task_at : Owners → ℕ → Task
task_at v t = get_or v.seats t no_task

-- the owner of a state; None if there is no such state
abbrev pub owner_at : Owners → ℕ → Option ℕ
owner_at v k = get v.owners k

-- how many states there are
abbrev pub count : Owners → ℕ
count v = len v.owners

-- the owner state on which a thread of which this is known is queued
abbrev pub state_of : Task → Option ℕ
state_of x = option_map (λ (w : Wait). w.state) x.wait

-- the owner state on which a thread is queued
abbrev pub waits_on : Owners → ℕ → Option ℕ
waits_on v t = state_of (task_at v t)

-- the priority with which a thread waits, and its ticket
abbrev pub rank_of : Owners → ℕ → Option Key
rank_of v t = option_map (λ (w : Wait). w.rank) (task_at v t).wait

-- the thread for which a thread waits: the owner of the state on which it is queued; 0 if it waits for nobody
abbrev pub waits_for : Owners → ℕ → ℕ
waits_for v t = unwrap_or (option_and_then (owner_at v) (waits_on v t)) 0

-- t waits for u
abbrev pub WaitsFor : Owners → ℕ → ℕ → Type 0
WaitsFor v t u = (waits_for v t ≡ u) × (u ≢ 0)

-- nobody waits for itself through any chain
abbrev pub IsAcyclic : Owners → Type 0
IsAcyclic v = (t u : ℕ) → WaitsFor v t u → Reaches (WaitsFor v) u t → ⊥

-- t is the top waiter of a state: it waits there, and none that waits there comes before it, by priority down and
-- ticket up (RT-mutex design, the top waiter)
pub record IsTop (v : Owners) (k t : ℕ) : Type 0 where
  pub waits : waits_on v t ≡ Some k
  pub rank : Key
  pub ranked : rank_of v t ≡ Some rank
  pub first : (u : ℕ) (other : Key) → waits_on v u ≡ Some k → rank_of v u ≡ Some other → comes_before other rank ≡ false

-- nobody is queued on a state
abbrev pub HasNoWaiter : Owners → ℕ → Type 0
HasNoWaiter v k = (t : ℕ) → waits_on v t ≢ Some k

-- with this ticket a thread stands before the same other waiters of its state as it does now, and behind the same
pub record KeepsOrder (v : Owners) (t ticket : ℕ) : Type 0 where
  pub before : (u : ℕ) (mine other : Key) → u ≢ t → waits_on v u ≡ waits_on v t
      → rank_of v t ≡ Some mine → rank_of v u ≡ Some other
      → comes_before (record mine { ticket = ticket }) other ≡ comes_before mine other
  pub behind : (u : ℕ) (mine other : Key) → u ≢ t → waits_on v u ≡ waits_on v t
      → rank_of v t ≡ Some mine → rank_of v u ≡ Some other
      → comes_before other (record mine { ticket = ticket }) ≡ comes_before other mine

-- the states with something else known of one thread; the same if the thread has no seat
abbrev pub with_task : ℕ → Task → Owners → Owners
with_task t x v = record v { seats = set v.seats t x }

-- a thread with another base priority
abbrev pub with_base : ℕ → ℕ → Owners → Owners
with_base t prio v = with_task t (record (task_at v t) { base = prio }) v

-- a thread with another effective priority
abbrev pub with_local : ℕ → ℕ → Owners → Owners
with_local t prio v = with_task t (record (task_at v t) { local = prio }) v

-- a thread that waits for this, or for nothing
abbrev pub with_wait : ℕ → Option Wait → Owners → Owners
with_wait t w v = with_task t (record (task_at v t) { wait = w }) v

-- a waiting thread that stands with another priority, and the ticket that it has
abbrev pub with_prio : ℕ → ℕ → Owners → Owners
with_prio t prio v =
    with_wait t (option_map (λ (w : Wait). record w { rank = record w.rank { prio = prio } }) (task_at v t).wait) v

-- a waiting thread that stands with another ticket, and the priority that it has
abbrev pub with_ticket : ℕ → ℕ → Owners → Owners
with_ticket t ticket v =
    with_wait t (option_map (λ (w : Wait). record w { rank = record w.rank { ticket = ticket } }) (task_at v t).wait) v

-- the states with this owner of one of them
abbrev pub with_owner : ℕ → ℕ → Owners → Owners
with_owner k owner v = record v { owners = insert v.owners k owner }

-- the states without one of them
abbrev pub without_state : ℕ → Owners → Owners
without_state k v = record v { owners = remove v.owners k }

-- what holds of a seat: its priorities are at most 99, and if the thread waits, it does so on a state that there is,
-- with a priority of 1 to 99
pub record IsSeat (v : Owners) (x : Task) : Type 0 where
  pub base : x.base ≤ 99
  pub local : x.local ≤ 99
  pub least : (w : Wait) → x.wait ≡ Some w → 1 ≤ w.rank.prio
  pub most : (w : Wait) → x.wait ≡ Some w → w.rank.prio ≤ 99
  pub state : (w : Wait) → x.wait ≡ Some w → IsSome (owner_at v w.state)

-- what holds of the owner states at any time
pub record AreSoundOwners (v : Owners) : Type 0 where
  -- place 0 and at most 1,024 threads
  pub least : 1 ≤ length v.seats
  pub most : length v.seats ≤ 1025
  pub nobody : task_at v 0 ≡ no_task
  pub seats : (t : ℕ) → IsSeat v (task_at v t)
  pub acyclic : IsAcyclic v

-- how priorities with tickets, waits, seats and states are stored
abbrev pub rank_code : Coded Key
rank_code =
    code_by (ℕ × ℕ) (coded× coded_ℕ coded_ℕ)
    (λ k. (k.prio, k.ticket)) (λ p. record { prio = p.0; ticket = p.1 }) (λ _. refl)

abbrev pub wait_code : Coded Wait
wait_code =
    code_by (ℕ × Key) (coded× coded_ℕ rank_code)
    (λ w. (w.state, w.rank)) (λ p. record { state = p.0; rank = p.1 }) (λ _. refl)

abbrev pub seat_code : Coded Task
seat_code =
    code_by (ℕ × (ℕ × Option Wait)) (coded× coded_ℕ (coded× coded_ℕ (coded_option wait_code)))
    (λ x. (x.base, (x.local, x.wait))) (λ p. record { base = p.0; local = p.1.0; wait = p.1.1 }) (λ _. refl)

abbrev pub owners_code : Coded Owners
owners_code =
    code_by (List Task × FinMap nat_cmp ℕ) (coded× (coded_list seat_code) (map.code coded_ℕ coded_ℕ))
    (λ v. (v.seats, v.owners)) (λ p. record { seats = p.0; owners = p.1 }) (λ _. refl)
