-- What the public calls of a core answer, and the table that they leave, by the table before.
use Rattle.std.specs.Prelude.{ℕ, ◌-◌, Bool, true, false, ◌==◌, length, List, Option, Some, None, option_map, Result, Ok, Err, if◌then◌else◌}
use Rattle.std.specs.List.{slice_get}
use Rattle.pif_types.specs.declared.errors.AddFault.{AddFault}
use Rattle.pif_types.specs.declared.errors.AddFault.TheVariants.{TooMany, BadPrio, NoSuch}
use Rattle.pif_types.specs.declared.requests.Health.{Health}
use Rattle.pif_types.specs.declared.requests.Kind.{Kind}
use Rattle.pif_types.specs.declared.requests.Request.{Request}
use Rattle.pif_model.specs.declared.events.Order.{Order}
use Rattle.pif_model.specs.declared.events.Order.TheVariants.{Waiters, Parked, Ready}
use Rattle.pif_model.specs.declared.lines.Line.{Line}
use Rattle.pif_model.specs.declared.lines.Line.TheVariants.{Idle, At}
use Rattle.pif_model.specs.declared.lines.Status.{Status}
use Rattle.pif_model.specs.Graph.{is_priority}
use Rattle.pif_model.specs.Word.{bits_of, health_in}
use Rattle.pif_model.specs.PiKernel.{is_living, is_ready, seat_at, effective_in, pick_in, waiters_in, parked_in, ready_in, IsPathIn}
use Rattle.pif_model.specs.Table.{Table, cell_at, line_at, timer_at, status_at, has_thread, has_mutex, has_cond, bound_to, uses_of, has_thread_room, has_mutex_room, has_cond_room, thread_added, mutex_added, cond_added}
use Rattle.pif_model.specs.Lines.{is_open, is_due_in}
use Rattle.pif_model.specs.Deadlines.{with_deadline_if_any}

-- adding a thread of priority p: BadPrio, then TooMany, else its number
abbrev pub add_thread_answer : ℕ → Table → Result ℕ AddFault
add_thread_answer p s =
    if is_priority p then (if has_thread_room s then Ok (length s.lines) else Err TooMany) else Err BadPrio

abbrev pub add_thread_after : ℕ → Result ℕ AddFault → Table → Table
add_thread_after p (Ok t) s = thread_added p s
add_thread_after p (Err e) s = s

-- adding a mutex: TooMany, else its number
abbrev pub add_mutex_answer : Table → Result ℕ AddFault
add_mutex_answer s = if has_mutex_room s then Ok (length s.mutexes) else Err TooMany

abbrev pub add_mutex_after : Kind → Bool → Result ℕ AddFault → Table → Table
add_mutex_after k r (Ok m) s = mutex_added k r s
add_mutex_after k r (Err e) s = s

-- adding a condition variable that is bound to m: NoSuch, then TooMany, else its number
abbrev pub add_cond_answer : ℕ → Table → Result ℕ AddFault
add_cond_answer m s =
    if has_mutex s m then (if has_cond_room s then Ok (length s.conds) else Err TooMany) else Err NoSuch

abbrev pub add_cond_after : ℕ → Result ℕ AddFault → Table → Table
add_cond_after m (Ok c) s = cond_added m s
add_cond_after m (Err e) s = s

-- the effective priority of a living thread
abbrev pub effective_answer : ℕ → Table → Option ℕ
effective_answer t s = if is_living s.kernel t then Some (effective_in s.kernel t) else None

-- the 32 bits of the word of a mutex that was added
abbrev pub word_answer : ℕ → Table → Option ℕ
word_answer m s = if has_mutex s m then Some (bits_of (cell_at s m).word) else None

-- the health of a mutex that was added, by its health word
abbrev pub health_answer : ℕ → Table → Option Health
health_answer m s = if has_mutex s m then Some (health_in (cell_at s m).health) else None

-- the condition word of a variable that was added
abbrev pub cond_word_answer : ℕ → Table → Option ℕ
cond_word_answer c s = if has_cond s c then Some (uses_of s c) else None

-- the thread that runs next, if one is ready
abbrev pub pick_answer : Table → Option ℕ
pick_answer s = if pick_in s.kernel == 0 then None else Some (pick_in s.kernel)

-- how many threads were ever added
abbrev pub threads_answer : Table → ℕ
threads_answer s = length s.lines - 1

-- whether a living thread with a call open rests, and goes on resting at its next step: it may not run, and its call is
-- not due
abbrev pub waiting_answer : ℕ → Table → Option Bool
waiting_answer t s =
    if is_living s.kernel t
    then (if is_open (line_at s t)
    then Some (if is_ready (status_at s t) then false else (if is_due_in s t then false else true)) else None)
    else None

-- WHAT A PERSON LOOKS AT

-- the base priority of a living thread
abbrev pub base_answer : ℕ → Table → Option ℕ
base_answer t s = if is_living s.kernel t then Some (seat_at s.kernel t).base else None

-- what a thread does that was added
abbrev pub status_answer : ℕ → Table → Option Status
status_answer t s = if has_thread s t then Some (status_at s t) else None

-- the request of the open call at a line
abbrev pub request_at : Line → Option Request
request_at Idle = None
request_at (At q p) = Some q

-- the open call of a thread that was added, as it was made
abbrev pub open_call_answer : ℕ → Table → Option Request
open_call_answer t s = if has_thread s t then option_map (with_deadline_if_any (timer_at s t).deadline) (request_at (line_at s t)) else None

-- the number in a word and how often its thread holds the mutex; none if the word has no number
abbrev pub owner_by : ℕ → ℕ → Option (ℕ × ℕ)
owner_by number count = if number == 0 then None else Some (number, count)

-- the owner of a mutex that was added, by its word, and how often that one holds it
abbrev pub owner_answer : ℕ → Table → Option (ℕ × ℕ)
owner_answer m s =
    if has_mutex s m then owner_by (cell_at s m).word.number (cell_at s m).count else None

-- the kind of a mutex that was added, and whether it is robust
abbrev pub kind_answer : ℕ → Table → Option (Kind × Bool)
kind_answer m s = if has_mutex s m then Some ((cell_at s m).kind, (cell_at s m).robust) else None

-- the mutex to which a variable is bound that was added
abbrev pub bound_answer : ℕ → Table → Option ℕ
bound_answer c s = if has_cond s c then Some (bound_to s c) else None

-- the waiter of a mutex before which this many others get it
abbrev pub waiter_answer : ℕ → ℕ → Table → Option ℕ
waiter_answer m place s = slice_get (waiters_in s.kernel m) place

-- the thread that is parked on a variable and before which this many others are taken
abbrev pub parked_answer : ℕ → ℕ → Table → Option ℕ
parked_answer c place s = slice_get (parked_in s.kernel c) place

-- the ready thread before which this many others run
abbrev pub ready_answer : ℕ → Table → Option ℕ
ready_answer place s = slice_get (ready_in s.kernel) place

-- the thread of an order before which this many others stand
abbrev pub order_answer : Order → ℕ → Table → Option ℕ
order_answer (Waiters m) place s = waiter_answer m place s
order_answer (Parked c) place s = parked_answer c place s
order_answer Ready place s = ready_answer place s

-- these are the threads from a living one on along whom each waits for, in order, up to the one that waits for nobody
abbrev pub IsPathAnswer : ℕ → Table → List ℕ → Type 0
IsPathAnswer t s us = IsPathIn s.kernel t us
