-- Lines that no run has, whatever was answered: the POSIX machine refuses what they show. The lines before tell whether
-- it does, since no hidden entry changes what is read here. The order of the reasons is that of scripts. Lines are
-- listed newest first.
use Rattle.std.specs.Prelude.{ℕ, ◌+◌, Bool, true, false, ◌==◌, nat_lt, not, List, [], ◌∷◌, Option, Some, None, if◌then◌else◌}
use Rattle.pif_types.specs.Bounds.{Bounds}
use Rattle.pif_types.specs.declared.errors.AddFault.TheVariants.{TooMany, BadPrio, NoSuch}
use Rattle.pif_types.specs.declared.errors.Refusal.{Refusal}
use Rattle.pif_types.specs.declared.errors.Refusal.TheVariants as refusal
use Rattle.pif_model.specs.Graph.{is_priority}
use Rattle.pif_model.specs.Posix.{names_known}
use Rattle.pif_model.specs.Refusals.{begin_refused, go_refused, end_refused, tick_refused}
use Rattle.pif_history_model.specs.declared.lines.Line.{Line}
use Rattle.pif_history_model.specs.declared.lines.Line.TheVariants.{Thread, Mutex, Cond, Begin, Answer, Dying, End, Tick, Rests, Prio, Process, Halted, Resumed, Asks}
use Rattle.pif_history_model.specs.declared.refusals.LineRefusal.{LineRefusal}
use Rattle.pif_history_model.specs.declared.refusals.LineRefusal.TheVariants.{Addition, Event, Halt}
use Rattle.pif_history_model.specs.Lines.{is_among, dying_by, halted_by, comes_while}

-- how many threads, mutexes and variables were added by these lines
abbrev pub threads_in : List Line → ℕ
threads_in [] = 0
threads_in (Thread p ∷ xs) = threads_in xs + 1
threads_in (x ∷ xs) = threads_in xs

abbrev pub mutexes_in : List Line → ℕ
mutexes_in [] = 0
mutexes_in (Mutex k r p ∷ xs) = mutexes_in xs + 1
mutexes_in (x ∷ xs) = mutexes_in xs

abbrev pub conds_in : List Line → ℕ
conds_in [] = 0
conds_in (Cond m ∷ xs) = conds_in xs + 1
conds_in (x ∷ xs) = conds_in xs

-- whether a number is one of the first n, from 1
abbrev pub is_known : ℕ → ℕ → Bool
is_known n t = if t == 0 then false else nat_lt t (n + 1)

-- the time behind these lines
abbrev pub time_by : List Line → ℕ
time_by [] = 0
time_by (Tick n ∷ xs) = n
time_by (x ∷ xs) = time_by xs

-- whether t has a call open behind these lines, if it lives
abbrev pub is_open : List Line → ℕ → Bool
is_open [] t = false
is_open (Begin u q ∷ xs) t = if u == t then true else is_open xs t
is_open (Answer u a ∷ xs) t = if u == t then false else is_open xs t
is_open (x ∷ xs) t = is_open xs t

-- whether these lines said that t is dying, or has ended
abbrev pub is_gone : List Line → ℕ → Bool
is_gone [] t = false
is_gone (Dying u ∷ xs) t = if u == t then true else is_gone xs t
is_gone (End u ∷ xs) t = if u == t then true else is_gone xs t
is_gone (x ∷ xs) t = is_gone xs t

-- an addition if there are so many already, and a limit
abbrev pub room_refused : (count limit : ℕ) → Option LineRefusal
room_refused count limit = if nat_lt count limit then None else Some (Addition TooMany)

-- an event that the machine refuses so, if it does
abbrev pub event_refused : Option Refusal → Option LineRefusal
event_refused None = None
event_refused (Some r) = Some (Event r)

-- a line of a thread that only has to live
abbrev pub living_refused : List Line → ℕ → Option LineRefusal
living_refused before t = event_refused (end_refused (is_known (threads_in before) t) (not (is_gone before t)))

-- why no run has a line behind these lines, if there is such a reason and threads run
abbrev pub refusal_while_running : Bounds → List Line → Line → Option LineRefusal
refusal_while_running l before (Thread p) =
    if is_priority p then room_refused (threads_in before) l.threads else Some (Addition BadPrio)
refusal_while_running l before (Mutex k r p) = room_refused (mutexes_in before) l.mutexes
refusal_while_running l before (Cond m) =
    if is_known (mutexes_in before) m then room_refused (conds_in before) l.conds else Some (Addition NoSuch)
refusal_while_running l before (Begin t q) =
    event_refused (begin_refused (is_known (threads_in before) t) (not (is_gone before t)) (is_open before t)
    (names_known (is_known (mutexes_in before)) (is_known (conds_in before)) q))
refusal_while_running l before (Answer t a) =
    event_refused (go_refused (is_known (threads_in before) t) (not (is_gone before t)) (is_open before t))
refusal_while_running l before (Dying t) = living_refused before t
refusal_while_running l before (End t) = if is_among (dying_by before) t then None else living_refused before t
refusal_while_running l before (Tick n) = event_refused (tick_refused (time_by before) n)
refusal_while_running l before (Rests t) = living_refused before t
refusal_while_running l before (Prio t p) = living_refused before t
refusal_while_running l before (Process t) =
    event_refused (if is_known (threads_in before) t then (if is_among (dying_by before) t then Some refusal.Dead else None)
    else Some refusal.NoSuch)
refusal_while_running l before Halted = None
refusal_while_running l before Resumed = None
refusal_while_running l before (Asks f b) = None

-- why no run has a line behind these lines, if there is such a reason
abbrev pub refusal_of_line : Bounds → List Line → Line → Option LineRefusal
refusal_of_line l before line =
    if comes_while (halted_by before) line then refusal_while_running l before line else Some Halt
