-- Priority inheritance over chains of owner states: what the effective priority of each thread is to be, and what a
-- walk leaves of the owner states and of the run queue. (RT-mutex design, the priority chain walk.)
use Rattle.std.specs.Prelude.{◌≡◌, ◌≢◌, ℕ, ◌-◌, ◌<◌, ◌≤◌, max, Bool, false, ◌==◌, not, ◌&&◌, List, ◌++◌, length, get_or, if◌then◌else◌, Option, Some, None, option_map, unwrap_or}
use Rattle.std.specs.List.{filter, range_with_len}
use Rattle.pif_nodes_model.specs.declared.keys.Key.{Key}
use Rattle.pif_nodes_model.specs.Table.{NodeLists}
use Rattle.pif_nodes_model.specs.Levels.{Queue, level_of, level_with}
use Rattle.pif_model.specs.Graph.{reaches_within, effective_among, greatest_where}
use Rattle.pif_kernel_model.specs.Owners.{Owners, Task, Wait, task_at, waits_on, rank_of, waits_for}

-- t is a thread that has a seat
abbrev pub IsThread : Owners → ℕ → Type 0
IsThread v t = (1 ≤ t) × (t < length v.seats)

-- all threads that have a seat, in order of their numbers
abbrev pub threads_of : Owners → List ℕ
threads_of v = range_with_len 1 (length v.seats - 1)

-- the base priority of a thread; 0 if it was not admitted
abbrev pub base_of : Owners → ℕ → ℕ
base_of v t = (task_at v t).base

-- the effective priority of a thread, as last handed in; 0 if it was not admitted
abbrev pub local_of : Owners → ℕ → ℕ
local_of v t = (task_at v t).local

-- what the effective priority of a thread is to be: the greatest base priority of it and of all that wait for it
-- through any chain
abbrev pub greatest_base : Owners → ℕ → ℕ
greatest_base v t = effective_among (length v.seats) (waits_for v) (base_of v) t

-- the priority at a place of a list; 0 for none
abbrev pub priority_at : List (Option ℕ) → ℕ → ℕ
priority_at xs t = unwrap_or (get_or xs t None) 0

-- what stands by thread u after a priority went from `t` to each that is reached from it over so many hops, if this
-- stood by each thread before
abbrev pub after_propagation : ℕ → (ℕ → ℕ) → ℕ → ℕ → (ℕ → ℕ) → ℕ → ℕ
after_propagation hops waits_for priority t before u =
    if reaches_within hops waits_for t u then max priority (before u) else before u

-- what a thread waits for, where it stands with this priority and the ticket that it has
abbrev pub with_rank_priority : ℕ → Wait → Wait
with_rank_priority p w = record { state = w.state; rank = record { prio = p; ticket = w.rank.ticket } }

-- a seat with this effective priority, also where its thread waits
abbrev pub with_effective : ℕ → Task → Task
with_effective p x = record { base = x.base; local = p; wait = option_map (with_rank_priority p) x.wait }

-- each thread of `old` has in `new` the effective priority that it is to have, also where it waits, and all else is as
-- it was: the states and their owners, the base priorities, and who waits on which state with which ticket
pub record IsRepaired (old new : Owners) : Type 0 where
  pub threads : length new.seats ≡ length old.seats
  pub owners : new.owners ≡ old.owners
  pub seats : (t : ℕ) → t < length old.seats → task_at new t ≡ with_effective (greatest_base old t) (task_at old t)

-- the greatest effective priority of the threads that wait for t; 0 if none does
abbrev pub greatest_waiting : Owners → ℕ → ℕ
greatest_waiting v t = greatest_where (λ u. waits_for v u == t) (local_of v) (length v.seats)

-- nothing is left to repair but the effective priority of one thread: that of each other thread is the greatest of its
-- base priority and of the effective priorities of those that wait for it, and every waiter stands with the effective
-- priority that it has
pub record IsRepairedBut (start : ℕ) (v : Owners) : Type 0 where
  pub locals : (t : ℕ) → IsThread v t → t ≢ start → local_of v t ≡ max (base_of v t) (greatest_waiting v t)
  pub ranks : (t : ℕ) (rank : Key) → rank_of v t ≡ Some rank → rank.prio ≡ local_of v t

-- whether a level is there and is another one than p
abbrev pub is_other : ℕ → Option ℕ → Bool
is_other p None = false
is_other p (Some level) = not (level == p)

-- whether u joins level p: it is on another level, and p is the effective priority that it is to have
abbrev pub joins : Owners → Queue → NodeLists → ℕ → ℕ → Bool
joins v q t p u = (greatest_base v u == p) && is_other p (level_with q t u)

-- level p of a run queue once each of its threads is at the level of the effective priority that it is to have: those
-- that keep their level in their order, then those that join it in order of their numbers. (sched(7) puts a thread whose
-- priority is lowered at the front of its new level; that all join the end is this project's choice.)
abbrev pub level_after_walk : Owners → Queue → NodeLists → ℕ → List ℕ
level_after_walk v q t p = filter (λ u. greatest_base v u == p) (level_of q t p) ++ filter (joins v q t p)
    (threads_of v)

-- t is the next waiter of a state: it waits there, none that waits there has a greater effective priority, and none of
-- the same has a lower ticket
pub record IsNext (v : Owners) (k t : ℕ) : Type 0 where
  pub waits : waits_on v t ≡ Some k
  pub greatest : (u : ℕ) → waits_on v u ≡ Some k → local_of v u ≤ local_of v t
  pub first : (u : ℕ) (mine other : Key) → waits_on v u ≡ Some k → local_of v u ≡ local_of v t
      → rank_of v t ≡ Some mine → rank_of v u ≡ Some other → mine.ticket ≤ other.ticket
