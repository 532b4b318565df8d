-- Who holds what, and who waits for whom: functions of what a core's readers answer.
use Rattle.std.specs.Prelude.{ℕ, ◌-◌, ◌==◌, Bool, false, not, ◌&&◌, List, Option, Some, None, length, take, option_and_then, option_map, is_some}
use Rattle.std.specs.List.{list_any}
use Rattle.pif_model.specs.declared.events.Order.{Order}
use Rattle.pif_model.specs.declared.events.Order.TheVariants as order
use Rattle.pif_model.specs.declared.lines.Status.{Status}
use Rattle.pif_model.specs.declared.lines.Status.TheVariants.{Ready, Queued, Parked, Stopped, Ended}
use Rattle.pif_model.specs.Table.{Table}
use Rattle.pif_model.specs.PiKernel.{parked_in, ready_in, waiters_in}
use Rattle.pif_model.specs.Calls.{owner_answer, status_answer, threads_answer, waiter_answer}
use Rattle.pif_text.specs.Json.{numbers}

-- how many condition variables were added
abbrev pub conds_added : Table → ℕ
conds_added s = length s.conds - 1

-- how many mutexes were added
abbrev pub mutexes_added : Table → ℕ
mutexes_added s = length s.mutexes - 1

-- the thread that holds a mutex
abbrev pub owner_of : ℕ → Table → Option ℕ
owner_of m s = option_map (λ owner. owner.0) (owner_answer m s)

-- whether the owner of a mutex, if it has one, is this thread
abbrev pub is_owner : ℕ → Option (ℕ × ℕ) → Bool
is_owner t None = false
is_owner t (Some owner) = owner.0 == t

-- whether a thread holds a mutex
abbrev pub has : ℕ → Table → ℕ → Bool
has t s m = is_owner t (owner_answer m s)

-- the mutex among whose waiters a thread of this status is
abbrev pub mutex_by : Status → Option ℕ
mutex_by (Ready woken) = None
mutex_by (Queued m) = Some m
mutex_by (Parked c) = None
mutex_by Stopped = None
mutex_by Ended = None

-- the mutex for which a thread waits
abbrev pub awaited : ℕ → Table → Option ℕ
awaited t s = option_and_then mutex_by (status_answer t s)

-- the owner of the mutex for which a thread waits
abbrev pub blocker : ℕ → Table → Option ℕ
blocker t s = option_and_then (λ m. owner_of m s) (awaited t s)

-- ---- orders

-- the threads of an order, the next one first
abbrev pub all_in : Order → Table → List ℕ
all_in (order.Waiters m) s = waiters_in s.kernel m
all_in (order.Parked c) s = parked_in s.kernel c
all_in order.Ready s = ready_in s.kernel

-- no more of them than were added: each stands there once
abbrev pub order_in : Order → Table → List ℕ
order_in o s = take (threads_answer s) (all_in o s)

-- ---- chains of waiting

-- whether a thread holds a mutex for which somebody waits
unfoldable pub blocks : ℕ → Table → ℕ → Bool
blocks t s m = has t s m && is_some (waiter_answer m 0 s)

-- whether somebody waits for a mutex that a thread holds
unfoldable pub has_waiter : ℕ → Table → Bool
has_waiter t s = list_any (blocks t s) (numbers (mutexes_added s))

-- whether a chain begins with a thread: it waits for a mutex, and nobody waits for it
abbrev pub begins_chain : Table → ℕ → Bool
begins_chain s t = is_some (awaited t s) && not (has_waiter t s)
