-- What a handle answers to what C asks: what its core answers, if it holds one and the numbers name something.
use Rattle.std.specs.Prelude.{ℕ, ◌≡◌, ◌==◌, ◌-◌, Bool, Option, Some, None, option_map, option_and_then, List, length, slice_get, Result, if◌then◌else◌}
use Rattle.pif_types.specs.declared.errors.AddFault.{AddFault}
use Rattle.pif_model.specs.declared.events.Event.TheVariants.{Begin, Go, End, Tick}
use Rattle.pif_model.specs.Word.{health_word}
use Rattle.pif_model.specs.Table.{Table}
use Rattle.pif_model.specs.Lines.{Outcome, event_outcome}
use Rattle.pif_model.specs.Calls.{add_thread_answer, add_thread_after, add_mutex_answer, add_mutex_after, add_cond_answer, add_cond_after, effective_answer, waiting_answer, word_answer, health_answer, cond_word_answer, pick_answer, owner_answer, status_answer, base_answer, kind_answer, bound_answer, waiter_answer, parked_answer, ready_answer, threads_answer, open_call_answer, IsPathAnswer}
use Rattle.pif_model_simulation.specs.Calls.{call_outcome, finish_outcome}
use Rattle.pif_c.specs.declared.asking.Turn.{Turn}
use Rattle.pif_c.specs.declared.asking.Turn.TheVariants.{Event as OneEvent, Call, Finish}
use Rattle.pif_c.specs.declared.adding.Addition.{Addition}
use Rattle.pif_c.specs.declared.adding.Addition.TheVariants.{Thread, Mutex, Cond}
use Rattle.pif_c.specs.declared.asking.Look.{Look}
use Rattle.pif_c.specs.declared.asking.Look.TheVariants.{Effective, Waiting, Word, Health, CondWord, Pick, Base, MutexKind, Robust, Bound, Waiter, ParkedOn, ReadyAt, Time, Threads, Mutexes, Conds}
use Rattle.pif_c_numbers.specs.declared.numbers.PifSeen.{PifSeen}
use Rattle.pif_c_numbers.specs.declared.numbers.PifNumber.{PifNumber}
use Rattle.pif_c_numbers.specs.declared.numbers.PifOwned.{PifOwned}
use Rattle.pif_c_numbers.specs.declared.numbers.PifDoing.{PifDoing}
use Rattle.pif_c_numbers.specs.declared.numbers.PifRequest.{PifRequest}
use Rattle.pif_c_numbers.specs.declared.numbers.PifOpen.{PifOpen}
use Rattle.pif_c_numbers.specs.declared.numbers.PifLimits.{PifLimits}
use Rattle.pif_c_numbers.specs.Codes as pif
use Rattle.pif_c_numbers.specs.Numbers.{if_named, no_number, no_owner, no_state, no_limits, no_request, limits_told, open_told, request_of, kind_of, kind_number, seen_reported, nothing_seen, unnamed_seen, number_told, owner_told, status_told, added_told}

-- TURNS

-- what a turn comes to: the event's, the whole call's, or that of the rest of one
abbrev pub outcome_of : Turn → Table → Outcome
outcome_of (OneEvent e) s = event_outcome e s
outcome_of (Call t q) s = call_outcome t q s
outcome_of (Finish t) s = finish_outcome t s

-- what is answered to a turn on what a handle holds, and what the handle holds then
abbrev pub turn_told : Option Turn → Option Table → PifSeen
turn_told x None = nothing_seen
turn_told None (Some s) = unnamed_seen
turn_told (Some x) (Some s) = seen_reported (outcome_of x s).seen

abbrev pub turn_after : Option Turn → Option Table → Option Table
turn_after x None = None
turn_after None (Some s) = Some s
turn_after (Some x) (Some s) = Some (outcome_of x s).after

-- the turn that each call of the library names
abbrev pub begin_of : ℕ → PifRequest → Option Turn
begin_of t r = if t == 0 then None else option_map (λ q. OneEvent (Begin t q)) (request_of r)

abbrev pub go_of : ℕ → Option Turn
go_of t = if t == 0 then None else Some (OneEvent (Go t))

abbrev pub end_of : ℕ → Option Turn
end_of t = if t == 0 then None else Some (OneEvent (End t))

abbrev pub tick_of : ℕ → Option Turn
tick_of n = Some (OneEvent (Tick n))

abbrev pub call_of : ℕ → PifRequest → Option Turn
call_of t r = if t == 0 then None else option_map (λ q. Call t q) (request_of r)

abbrev pub finish_of : ℕ → Option Turn
finish_of t = if t == 0 then None else Some (Finish t)

-- LOOKS

-- true as 1, and false as 0
abbrev pub bit_of : Bool → ℕ
bit_of b = if b then 1 else 0

-- the number that a core shows
abbrev pub shown : Look → Table → Option ℕ
shown (Effective t) s = effective_answer t s
shown (Waiting t) s = option_map bit_of (waiting_answer t s)
shown (Word m) s = word_answer m s
shown (Health m) s = option_map health_word (health_answer m s)
shown (CondWord c) s = cond_word_answer c s
shown Pick s = pick_answer s
shown (Base t) s = base_answer t s
shown (MutexKind m) s = option_map (λ x. kind_number x.0) (kind_answer m s)
shown (Robust m) s = option_map (λ x. bit_of x.1) (kind_answer m s)
shown (Bound c) s = bound_answer c s
shown (Waiter m place) s = option_and_then (λ n. waiter_answer n place s) (if_named m)
shown (ParkedOn c place) s = option_and_then (λ n. parked_answer n place s) (if_named c)
shown (ReadyAt place) s = ready_answer place s
shown Time s = Some s.time
shown Threads s = Some (threads_answer s)
shown Mutexes s = Some (length s.mutexes - 1)
shown Conds s = Some (length s.conds - 1)

-- what is answered of what a handle holds
abbrev pub shown_told : Look → Option Table → PifNumber
shown_told x None = no_number pif.no_core
shown_told x (Some s) = number_told (shown x s)

-- a look at what a handle holds: the answer, and it holds the same afterwards
pub record Looks (x : Look) (before after : Option Table) (told : PifNumber) : Type 0 where
  pub answer : told ≡ shown_told x before
  pub same : after ≡ before

-- the thread at a place of the path of waiting from a thread, 0 for that thread itself, if the path is so long
abbrev pub IsOnPath : (thread place : ℕ) → Table → Option ℕ → Type 0
IsOnPath t place s found = (path : List ℕ) × IsPathAnswer t s path × (found ≡ slice_get path place)

-- what is answered of that by what a handle holds
abbrev pub PathTold : (thread place : ℕ) → Option Table → PifNumber → Type 0
PathTold t place None told = told ≡ no_number pif.no_core
PathTold t place (Some s) told = (found : Option ℕ) × IsOnPath t place s found × (told ≡ number_told found)

-- the owner of a mutex, and what a thread does, by what a handle holds
abbrev pub owner_shown : ℕ → Option Table → PifOwned
owner_shown m None = no_owner pif.no_core
owner_shown m (Some s) = owner_told (owner_answer m s)

abbrev pub status_shown : ℕ → Option Table → PifDoing
status_shown t None = no_state pif.no_core
status_shown t (Some s) = status_told (status_answer t s)

-- the limits, and the open call of a thread, by what a handle holds
abbrev pub limits_shown : Option Table → PifLimits
limits_shown None = no_limits pif.no_core
limits_shown (Some s) = limits_told s.limits

abbrev pub open_shown : ℕ → Option Table → PifOpen
open_shown t None = record { result = pif.no_core; request = no_request }
open_shown t (Some s) = open_told (open_call_answer t s)

-- ADDITIONS

-- what an addition is answered by a core, and the core after it
abbrev pub added : Addition → Table → Result ℕ AddFault
added (Thread p) s = add_thread_answer p s
added (Mutex k robust) s = add_mutex_answer s
added (Cond m) s = add_cond_answer m s

abbrev pub added_after : Addition → Table → Table
added_after (Thread p) s = add_thread_after p (add_thread_answer p s) s
added_after (Mutex k robust) s = add_mutex_after k robust (add_mutex_answer s) s
added_after (Cond m) s = add_cond_after m (add_cond_answer m s) s

-- what is answered to an addition on what a handle holds, and what the handle holds then
abbrev pub add_told : Option Addition → Option Table → PifNumber
add_told x None = no_number pif.no_core
add_told None (Some s) = no_number pif.invalid
add_told (Some x) (Some s) = added_told (added x s)

abbrev pub add_after : Option Addition → Option Table → Option Table
add_after x None = None
add_after None (Some s) = Some s
add_after (Some x) (Some s) = Some (added_after x s)

-- the addition of a mutex of the kind that has this number
abbrev pub mutex_of : ℕ → Bool → Option Addition
mutex_of kind robust = option_map (λ k. Mutex k robust) (kind_of kind)
