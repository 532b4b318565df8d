-- What is answered to what C asks of a machine, and what the handle holds then.
use Rattle.std.specs.Prelude.{ℕ, ◌≡◌, ◌==◌, Bool, true, false, not, nat_lt, List, length, Option, Some, None, option_map, slice_get, if◌then◌else◌}
use Rattle.pif_types.specs.Bounds.{Bounds}
use Rattle.pif_model.specs.declared.events.Event.TheVariants.{Begin, Go, End, Tick}
use Rattle.pif_model.specs.declared.events.Seen.TheVariants.{Begun, Answered, Ended, Ticked}
use Rattle.pif_model.specs.declared.events.Entry.TheVariants.{Thread, Mutex, Cond, Step}
use Rattle.pif_model.specs.Graph.{is_priority}
use Rattle.pif_model.specs.Posix.{World, effective_of, is_living}
use Rattle.pif_rules_model.specs.Lending.{looking_free}
use Rattle.pif_rules_model.specs.Rules.{Wide}
use Rattle.pif_rules.specs.Sets.{both}
use Rattle.pif_rules.specs.Words.{rules_named}
use Rattle.pif_c_numbers.specs.declared.numbers.PifDoing.{PifDoing}
use Rattle.pif_c_numbers.specs.declared.numbers.PifNumber.{PifNumber}
use Rattle.pif_c_numbers.specs.declared.numbers.PifOwned.{PifOwned}
use Rattle.pif_c_numbers.specs.declared.numbers.PifRequest.{PifRequest}
use Rattle.pif_c_numbers.specs.Codes as pif
use Rattle.pif_c_numbers.specs.Numbers.{if_named, kind_of, no_number, no_owner, no_state, number_told, request_of}
use Rattle.pif_search.specs.declared.machine.Stop.{Stop}
use Rattle.pif_search.specs.declared.machine.Stop.TheVariants.{NoMemory, Range, Many}
use Rattle.pif_c.specs.declared.machines.Ask.{Ask}
use Rattle.pif_c.specs.declared.machines.Ask.TheVariants.{Line, AddsNone, Move, EndsApart}
use Rattle.pif_c.specs.declared.machine_adding.Adding.{Adding}
use Rattle.pif_c.specs.declared.machine_adding.Adding.TheVariants.{AddThread, AddMutex, AddNone, AddCond}
use Rattle.pif_c.specs.Running.{Running}
use Rattle.pif_c.specs.Machines.{LeadsTo, by_numbered, doing_in, new_running, next_states, owner_in, result_in}

-- why a machine gives up: memory is refused, or a number or the states of a step pass what it has room for
abbrev pub stop_number : Stop → ℕ
stop_number NoMemory = pif.no_memory
stop_number Range = pif.too_many
stop_number Many = pif.too_many

-- MACHINES

-- a new machine of these limits, on what a handle held: what it holds then, and the result
pub data IsBegun (l : Bounds) : Option Running → Option Running → ℕ → Type 0 where
  begun : IsBegun l None (Some (new_running l)) pif.ok
  none_left : IsBegun l None None pif.no_memory
  there : (s : Running) → IsBegun l (Some s) (Some s) pif.full

-- the rules that a word names are allowed beside those that are
abbrev pub allowing : List ℕ → Running → Option Running
allowing word s = option_map (λ r. record s { rules = both s.rules r }) (rules_named word)

-- a word on what a handle holds: what it holds then, and the result
abbrev pub Allows : List ℕ → Option Running → Option Running → ℕ → Type 0
Allows word None after told = (after ≡ None) × (told ≡ pif.no_core)
Allows word (Some s) after told =
    elim (allowing word s) [
      | None ↦ (after ≡ Some s) × (told ≡ pif.invalid)
      | Some n ↦ (after ≡ Some n) × (told ≡ pif.ok)
    ]

-- STEPS

-- Something happens to what a handle holds: it goes to the state at this place of those to which that leads. If there are
-- so few, or the numbers name nothing, or memory or numbers give out, it is as it was
pub data Happens : Option Ask → (place : ℕ) → Option Running → Option Running → ℕ → Type 0 where
  happened : (x : Ask) (place : ℕ) (s : Running) (n : Wide) → slice_get (next_states x s) place ≡ Some n → LeadsTo x s n
      → Happens (Some x) place (Some s) (Some (record s { wide = n })) pif.ok
  none_there : (x : Ask) (place : ℕ) (s : Running) → slice_get (next_states x s) place ≡ None
      → Happens (Some x) place (Some s) (Some s) pif.none
  given_up : (x : Ask) (place : ℕ) (s : Running) (stop : Stop) → Happens (Some x) place (Some s) (Some s) (stop_number stop)
  unnamed : (place : ℕ) (s : Running) → Happens None place (Some s) (Some s) pif.invalid
  no_machine : (x : Option Ask) (place : ℕ) → Happens x place None None pif.no_core

-- how many states there are to which that leads, of what a handle holds
pub data Counts : Option Ask → Option Running → PifNumber → Type 0 where
  counted : (x : Ask) (s : Running) → Counts (Some x) (Some s) (record { result = pif.ok; number = length (next_states x s) })
  given_up : (x : Ask) (s : Running) (stop : Stop) → Counts (Some x) (Some s) (no_number (stop_number stop))
  unnamed : (s : Running) → Counts None (Some s) (no_number pif.invalid)
  no_machine : (x : Option Ask) → Counts x None (no_number pif.no_core)

-- what each call of the library names
abbrev pub begins : ℕ → PifRequest → Option Ask
begins t r = if t == 0 then None else option_map (λ q. Line (Step (Begin t q) Begun)) (request_of r)

abbrev pub ends : ℕ → Option Ask
ends t = if t == 0 then None else Some (Line (Step (End t) Ended))

abbrev pub ends_apart : ℕ → Option Ask
ends_apart t = if t == 0 then None else Some (EndsApart t)

abbrev pub ticks : ℕ → Option Ask
ticks n = Some (Line (Step (Tick n) Ticked))

abbrev pub moves : (thread by : ℕ) → Option Ask
moves t by = if t == 0 then None else option_map (Move t) (by_numbered by)

-- the answer of a thread's open call
abbrev pub answer_of : (thread answer : ℕ) → Ask
answer_of t a = Line (Step (Go t) (Answered a))

-- The open call of a thread is answered, and closes: its answer. If it has no result yet, or can't be answered, or memory
-- gives out, all is as it was
pub data IsAnswered (t : ℕ) : Option Running → Option Running → PifNumber → Type 0 where
  answered : (s : Running) (a : ℕ) (n : Wide) → result_in s.wide.world t ≡ Some a → LeadsTo (answer_of t a) s n
      → IsAnswered t (Some s) (Some (record s { wide = n })) (record { result = pif.ok; number = a })
  no_result : (s : Running) → result_in s.wide.world t ≡ None → IsAnswered t (Some s) (Some s) (no_number pif.none)
  not_there : (s : Running) (a : ℕ) → result_in s.wide.world t ≡ Some a → slice_get (next_states (answer_of t a) s) 0 ≡ None
      → IsAnswered t (Some s) (Some s) (no_number pif.none)
  nobody : (s : Running) → t ≡ 0 → IsAnswered t (Some s) (Some s) (no_number pif.none)
  given_up : (s : Running) (stop : Stop) → IsAnswered t (Some s) (Some s) (no_number (stop_number stop))
  no_machine : IsAnswered t None None (no_number pif.no_core)

-- ADDITIONS

-- the number that an addition gets, and what it asks
abbrev pub next_number : Adding → World → ℕ
next_number (AddThread p) w = length w.threads
next_number (AddMutex k robust) w = length w.mutexes
next_number (AddNone k robust) w = length w.mutexes
next_number (AddCond m) w = length w.variables

abbrev pub asks_to_add : Adding → World → Ask
asks_to_add (AddThread p) w = Line (Thread (length w.threads) p)
asks_to_add (AddMutex k robust) w = Line (Mutex (length w.mutexes) k robust)
asks_to_add (AddNone k robust) w = AddsNone (length w.mutexes) k robust
asks_to_add (AddCond m) w = Line (Cond (length w.variables) m)

-- whether an addition is one of a variable whose mutex was never added
abbrev pub lacks_mutex : Adding → World → Bool
lacks_mutex (AddCond m) w = not (nat_lt m (length w.mutexes))
lacks_mutex x w = false

-- what has this number is added by the first state to which that leads, if there is one
pub data IsAdded (number : ℕ) (x : Ask) (s : Running) : Running → PifNumber → Type 0 where
  added : (n : Wide) → LeadsTo x s n → IsAdded number x s (record s { wide = n }) (record { result = pif.ok; number = number })
  at_limit : slice_get (next_states x s) 0 ≡ None → IsAdded number x s s (no_number pif.too_many)
  given_up : (stop : Stop) → IsAdded number x s s (no_number (stop_number stop))

-- An addition to what a handle holds: its number. If the numbers name none, for this reason, or the limit is reached, or
-- memory gives out, all is as it was
pub data AddsTo (why : ℕ) : Option Adding → Option Running → Option Running → PifNumber → Type 0 where
  asked : (x : Adding) (s after : Running) (told : PifNumber)
      → IsAdded (next_number x s.wide.world) (asks_to_add x s.wide.world) s after told → AddsTo why (Some x) (Some s) (Some after) told
  no_mutex : (x : Adding) (s : Running) → lacks_mutex x s.wide.world ≡ true → AddsTo why (Some x) (Some s) (Some s) (no_number pif.no_mutex)
  given_up : (x : Adding) (s : Running) (stop : Stop) → AddsTo why (Some x) (Some s) (Some s) (no_number (stop_number stop))
  unnamed : (s : Running) → AddsTo why None (Some s) (Some s) (no_number why)
  no_machine : (x : Option Adding) → AddsTo why x None None (no_number pif.no_core)

-- what each call of the library names
abbrev pub thread_of : ℕ → Option Adding
thread_of p = if is_priority p then Some (AddThread p) else None

abbrev pub mutex_of : (kind : ℕ) → (robust inherits : Bool) → Option Adding
mutex_of kind robust inherits = option_map (λ k. if inherits then AddMutex k robust else AddNone k robust) (kind_of kind)

abbrev pub cond_of : ℕ → Option Adding
cond_of m = option_map AddCond (if_named m)

-- READERS

-- the number that a machine shows, of what a handle holds
abbrev pub shown_by : (Running → Option ℕ) → Option Running → PifNumber
shown_by f None = no_number pif.no_core
shown_by f (Some s) = number_told (f s)

abbrev pub owner_by_handle : ℕ → Option Running → PifOwned
owner_by_handle m None = no_owner pif.no_core
owner_by_handle m (Some s) = owner_in s.wide.world m

abbrev pub doing_by_handle : ℕ → Option Running → PifDoing
doing_by_handle t None = no_state pif.no_core
doing_by_handle t (Some s) = if t == 0 then no_state pif.none else doing_in s.wide.world t

-- the effective priority of a thread, of what a handle holds, as lending sees it
pub data EffectiveTold (t : ℕ) : Option Running → PifNumber → Type 0 where
  told : (s : Running)
      → EffectiveTold t (Some s) (record { result = pif.ok; number = effective_of (looking_free s.wide.prio_none s.wide.world) t })
  not_living : (s : Running) → is_living s.wide.world t ≡ false → EffectiveTold t (Some s) (no_number pif.none)
  given_up : (s : Running) (stop : Stop) → EffectiveTold t (Some s) (no_number (stop_number stop))
  no_machine : EffectiveTold t None (no_number pif.no_core)
