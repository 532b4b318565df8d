-- States of the POSIX machine that are the same but for the names of threads. (C. N. Ip and D. L. Dill, Better verification
-- through symmetry, Formal Methods in System Design 9, 1996: the numbers of alike processes are a scalarset.)
use Rattle.std.specs.Prelude.{ℕ, ◌≡◌, ◌<◌, ◌==◌, Bool, true, false, List, length, map, Option, Some, None, if◌then◌else◌}
use Rattle.std.specs.List.{list_any}
use Rattle.pif_types.specs.declared.requests.Request.{Request}
use Rattle.pif_types.specs.declared.requests.Request.TheVariants.{SetPrio}
use Rattle.pif_model.specs.declared.events.Event.{Event}
use Rattle.pif_model.specs.declared.events.Event.TheVariants.{Begin, Go, End, Tick}
use Rattle.pif_model.specs.declared.events.Entry.{Entry}
use Rattle.pif_model.specs.declared.events.Entry.TheVariants.{Step as Happened}
use Rattle.pif_model.specs.Posix.{World, Thread, Mutex, Call, thread_at}

-- f gives each of the threads below n another name, and each name once. Nobody stays nobody
pub record IsRenaming (f : ℕ → ℕ) (n : ℕ) : Type 0 where
  pub back : ℕ → ℕ
  pub there : (t : ℕ) → back (f t) ≡ t
  pub again : (t : ℕ) → f (back t) ≡ t
  pub nobody : f 0 ≡ 0
  pub below : (t : ℕ) → t < n → f t < n
  pub back_below : (t : ℕ) → t < n → back t < n

-- a request with the name that the thread has which it names
abbrev pub renamed_request : (ℕ → ℕ) → Request → Request
renamed_request f (SetPrio t p) = SetPrio (f t) p
renamed_request f q = q

-- so an event, and the entry of one
abbrev pub renamed_event : (ℕ → ℕ) → Event → Event
renamed_event f (Begin t q) = Begin (f t) (renamed_request f q)
renamed_event f (Go t) = Go (f t)
renamed_event f (End t) = End (f t)
renamed_event f (Tick n) = Tick n

abbrev pub renamed_entry : (ℕ → ℕ) → Entry → Entry
renamed_entry f (Happened x seen) = Happened (renamed_event f x) seen
renamed_entry f e = e

-- whether an entry is an event: not an addition
abbrev pub is_event : Entry → Bool
is_event (Happened x seen) = true
is_event _ = false

-- an open call with its request so
abbrev pub renamed_call : (ℕ → ℕ) → Option Call → Option Call
renamed_call f None = None
renamed_call f (Some x) = Some (record { request = renamed_request f x.request; progress = x.progress })

-- a mutex with its owner's name
abbrev pub renamed_mutex : (ℕ → ℕ) → Mutex → Mutex
renamed_mutex f x = record x { owner = f x.owner }

-- a waiter's name, beside its mutex
abbrev pub renamed_waiter : (ℕ → ℕ) → (ℕ × ℕ) → ℕ × ℕ
renamed_waiter f x = (f x.0, x.1)

-- whether somebody's wait of this number is among these
abbrev pub is_wait_among : List (ℕ × ℕ) → (u wait : ℕ) → Bool
is_wait_among found u wait = list_any (λ x. if x.0 == u then x.1 == wait else false) found

-- a thread and itself, once threads have other names. Whom its signal found is remembered in the order of names, so that
-- these lists are compared by what is among them
pub record IsRenamed (f : ℕ → ℕ) (x y : Thread) : Type 0 where
  pub base : y.base ≡ x.base
  pub living : y.living ≡ x.living
  pub call : y.call ≡ renamed_call f x.call
  pub timer : y.timer ≡ x.timer
  pub waits : y.memory.waits ≡ x.memory.waits
  pub found : (u wait : ℕ) → is_wait_among y.memory.found (f u) wait ≡ is_wait_among x.memory.found u wait

-- v is w, in which each thread t is called f t
pub record Mirrors (f : ℕ → ℕ) (w v : World) : Type 0 where
  pub renaming : IsRenaming f (length w.threads)
  pub thread : (t : ℕ) → IsRenamed f (thread_at w t) (thread_at v (f t))
  pub threads : length v.threads ≡ length w.threads
  pub mutexes : v.mutexes ≡ map (renamed_mutex f) w.mutexes
  pub waiters : v.waiters ≡ map (renamed_waiter f) w.waiters
  pub variables : v.variables ≡ w.variables
  pub signals : v.signals ≡ w.signals
  pub time : v.time ≡ w.time
