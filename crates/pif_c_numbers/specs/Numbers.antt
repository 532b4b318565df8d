-- What the numbers that cross to C and back stand for.
use Rattle.std.specs.Prelude.{ℕ, ◌==◌, Option, Some, None, option_and_then, Result, Ok, Err, if◌then◌else◌}
use Rattle.pif_types.specs.Bounds.{Bounds}
use Rattle.pif_types.specs.declared.errors.AddFault.{AddFault}
use Rattle.pif_types.specs.declared.errors.AddFault.TheVariants.{TooMany, BadPrio, NoSuch as NoSuchMutex}
use Rattle.pif_types.specs.declared.errors.Refusal.{Refusal}
use Rattle.pif_types.specs.declared.errors.Refusal.TheVariants.{NoSuch, Dead, Busy, Idle, Past}
use Rattle.pif_types.specs.declared.requests.Kind.{Kind}
use Rattle.pif_types.specs.declared.requests.Kind.TheVariants.{Normal, ErrorCheck, Recursive}
use Rattle.pif_types.specs.declared.requests.Request.{Request}
use Rattle.pif_model.specs.declared.events.Seen.{Seen}
use Rattle.pif_model.specs.declared.events.Seen.TheVariants.{Begun, Went, Waits, Answered, Ended, Ticked, Refused}
use Rattle.pif_model.specs.declared.lines.Status.{Status}
use Rattle.pif_model.specs.declared.lines.Status.TheVariants.{Ready, Queued, Parked, Stopped, Ended as HasEnded}
use Rattle.pif_c_numbers.specs.declared.numbers.PifSeen.{PifSeen}
use Rattle.pif_c_numbers.specs.declared.numbers.PifNumber.{PifNumber}
use Rattle.pif_c_numbers.specs.declared.numbers.PifOwned.{PifOwned}
use Rattle.pif_c_numbers.specs.declared.numbers.PifDoing.{PifDoing}
use Rattle.pif_c_numbers.specs.declared.numbers.PifRequest.{PifRequest}
use Rattle.pif_c_numbers.specs.declared.numbers.PifOpen.{PifOpen}
use Rattle.pif_c_numbers.specs.declared.numbers.PifLimits.{PifLimits}
use Rattle.pif_text_model.specs.declared.calls.Arguments.{Arguments}
use Rattle.pif_text_model.specs.Calls.{arguments_of, call_numbered, kind_of as call_of, request_with, row_of}
use Rattle.pif_c_numbers.specs.Codes as pif

-- NUMBERS

-- no number, no owner and no state, and why
abbrev pub no_number : ℕ → PifNumber
no_number why = record { result = why; number = 0 }

abbrev pub no_owner : ℕ → PifOwned
no_owner why = record { result = why; thread = 0; count = 0 }

abbrev pub no_state : ℕ → PifDoing
no_state why = record { result = why; state = 0; waits_for = 0 }

-- no limits, and why
abbrev pub no_limits : ℕ → PifLimits
no_limits why = record { result = why; threads = 0; mutexes = 0; conds = 0; signals = 0 }

-- the limits of a core
abbrev pub limits_told : Bounds → PifLimits
limits_told l =
    record { result = pif.ok; threads = l.threads; mutexes = l.mutexes; conds = l.conds; signals = l.signals }

-- what kept an addition from being made
abbrev pub add_number : AddFault → ℕ
add_number TooMany = pif.too_many
add_number BadPrio = pif.bad_prio
add_number NoSuchMutex = pif.no_mutex

-- the number of an addition, or what kept it from being made
abbrev pub added_told : Result ℕ AddFault → PifNumber
added_told (Ok n) = record { result = pif.ok; number = n }
added_told (Err fault) = no_number (add_number fault)

-- a number that a core may show
abbrev pub number_told : Option ℕ → PifNumber
number_told None = no_number pif.none
number_told (Some n) = record { result = pif.ok; number = n }

-- an owner that a core may show, with how often it holds the mutex
abbrev pub owner_told : Option (ℕ × ℕ) → PifOwned
owner_told None = no_owner pif.none
owner_told (Some x) = record { result = pif.ok; thread = x.0; count = x.1 }

-- a kind by the number that it has in pthread.h of Linux
abbrev pub kind_of : ℕ → Option Kind
kind_of n =
    if n == pif.normal then Some Normal else
    if n == pif.recursive then Some Recursive else
    if n == pif.errorcheck then Some ErrorCheck else None

-- and the number that a kind has there
abbrev pub kind_number : Kind → ℕ
kind_number Normal = pif.normal
kind_number Recursive = pif.recursive
kind_number ErrorCheck = pif.errorcheck

-- what a thread does, and for which mutex or condition variable it waits
abbrev pub doing_told : Status → PifDoing
doing_told (Ready x) = record { result = pif.ok; state = pif.ready; waits_for = 0 }
doing_told (Queued m) = record { result = pif.ok; state = pif.queued; waits_for = m }
doing_told (Parked c) = record { result = pif.ok; state = pif.parked; waits_for = c }
doing_told Stopped = record { result = pif.ok; state = pif.stopped; waits_for = 0 }
doing_told HasEnded = record { result = pif.ok; state = pif.gone; waits_for = 0 }

abbrev pub status_told : Option Status → PifDoing
status_told None = no_state pif.none
status_told (Some x) = doing_told x

-- EVENTS

abbrev pub refusal_number : Refusal → ℕ
refusal_number NoSuch = pif.no_such
refusal_number Dead = pif.dead
refusal_number Busy = pif.busy
refusal_number Idle = pif.idle
refusal_number Past = pif.past

-- what was seen, and beside it the answer of a call, or the number of a refusal
abbrev pub seen_reported : Seen → PifSeen
seen_reported Begun = record { what = pif.begun; detail = 0 }
seen_reported Went = record { what = pif.went; detail = 0 }
seen_reported Waits = record { what = pif.waits; detail = 0 }
seen_reported (Answered a) = record { what = pif.answered; detail = a }
seen_reported Ended = record { what = pif.ended; detail = 0 }
seen_reported Ticked = record { what = pif.ticked; detail = 0 }
seen_reported (Refused r) = record { what = pif.refused; detail = refusal_number r }

-- what is answered if the handle holds no core, and if a number names nothing
abbrev pub nothing_seen : PifSeen
nothing_seen = record { what = pif.nothing; detail = 0 }

abbrev pub unnamed_seen : PifSeen
unnamed_seen = record { what = pif.unnamed; detail = 0 }

-- CALLS

-- a number that names something: numbers of threads, mutexes and condition variables begin at 1
abbrev pub if_named : ℕ → Option ℕ
if_named n = if n == 0 then None else Some n

-- the arguments that these numbers are. What a call doesn't take is not looked at
abbrev pub arguments_in : PifRequest → Arguments
arguments_in r = record {
  thread = if_named r.thread;
  mutex = if_named r.mutex;
  cond = if_named r.cond;
  priority = Some r.prio;
  deadline = Some r.deadline;
}

-- the call that these numbers name, if each number that it needs names something
abbrev pub request_of : PifRequest → Option Request
request_of r = option_and_then (λ k. request_with k (arguments_in r)) (call_numbered r.call)

-- a number, 0 if there is none
abbrev pub number_or_0 : Option ℕ → ℕ
number_or_0 None = 0
number_or_0 (Some n) = n

-- no call
abbrev pub no_request : PifRequest
no_request = record { call = 0; mutex = 0; cond = 0; thread = 0; prio = 0; deadline = 0 }

-- a call in numbers
abbrev pub request_told : Request → PifRequest
request_told q = record {
  call = (row_of (call_of q)).number;
  mutex = number_or_0 (arguments_of q).mutex;
  cond = number_or_0 (arguments_of q).cond;
  thread = number_or_0 (arguments_of q).thread;
  prio = number_or_0 (arguments_of q).priority;
  deadline = number_or_0 (arguments_of q).deadline;
}

-- the call that a thread may have open
abbrev pub open_told : Option Request → PifOpen
open_told None = record { result = pif.none; request = no_request }
open_told (Some q) = record { result = pif.ok; request = request_told q }
