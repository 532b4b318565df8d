-- What lines say by themselves: which entry of the POSIX machine a line shows, whose line it is, and who is dying.
use Rattle.std.specs.Prelude.{ℕ, Bool, true, false, ◌==◌, List, [], ◌∷◌, Option, Some, None, filter, not}
use Rattle.std.specs.List.{list_any}
use Rattle.pif_model.specs.declared.events.Event.TheVariants as event
use Rattle.pif_model.specs.declared.events.Seen.TheVariants as seen
use Rattle.pif_model.specs.declared.events.Entry.{Entry}
use Rattle.pif_model.specs.declared.events.Entry.TheVariants as entry
use Rattle.pif_history_model.specs.declared.lines.Protocol.TheVariants.{PrioInherit, PrioNone}
use Rattle.pif_history_model.specs.declared.lines.Line.{Line}
use Rattle.pif_history_model.specs.declared.lines.Line.TheVariants.{Thread, Mutex, Cond, Begin, Answer, Dying, End, Tick, Rests, Prio, Process, Halted, Resumed, Asks}

-- the line that shows an entry: an addition, the begin of a call, its answer, the end of a thread, or a tick. A step
-- that went or waited has none, nor has a refused event. Each mutex of the machine inherits
abbrev pub line_of : Entry → Option Line
line_of (entry.Thread t p) = Some (Thread p)
line_of (entry.Mutex m k r) = Some (Mutex k r PrioInherit)
line_of (entry.Cond c m) = Some (Cond m)
line_of (entry.Step (event.Begin t q) seen.Begun) = Some (Begin t q)
line_of (entry.Step (event.Go t) (seen.Answered a)) = Some (Answer t a)
line_of (entry.Step (event.End t) seen.Ended) = Some (End t)
line_of (entry.Step (event.Tick n) seen.Ticked) = Some (Tick n)
line_of _ = None

-- whether a line adds no mutex of PTHREAD_PRIO_NONE
abbrev pub adds_no_none : Line → Bool
adds_no_none (Mutex k r PrioNone) = false
adds_no_none _ = true

-- whether a line is none of `process`, `halted` and `resumed`, and asks for no fact
abbrev pub is_no_extra : Line → Bool
is_no_extra (Process t) = false
is_no_extra Halted = false
is_no_extra Resumed = false
is_no_extra (Asks f b) = false
is_no_extra _ = true

-- whether nothing runs behind one more line, if it did or didn't before it
abbrev pub halted_after : Line → Bool → Bool
halted_after Halted b = true
halted_after Resumed b = false
halted_after _ b = b

-- whether nothing runs behind these lines, newest first
abbrev pub halted_by : List Line → Bool
halted_by [] = false
halted_by (x ∷ xs) = halted_after x (halted_by xs)

-- whether a line may come if nothing runs, or if threads run
abbrev pub comes_while : (halted : Bool) → Line → Bool
comes_while true (Rests t) = true
comes_while true (Prio t p) = true
comes_while true (End t) = true
comes_while true Resumed = true
comes_while true (Asks f b) = true
comes_while true _ = false
comes_while false Resumed = false
comes_while false _ = true

-- the thread that a line says has ended
abbrev pub ended_by : Line → Option ℕ
ended_by (End t) = Some t
ended_by _ = None

-- the thread whose line it is: a setprio is a line of the thread that begins it
abbrev pub thread_of : Line → Option ℕ
thread_of (Begin t q) = Some t
thread_of (Answer t a) = Some t
thread_of (Dying t) = Some t
thread_of (End t) = Some t
thread_of (Rests t) = Some t
thread_of (Prio t p) = Some t
thread_of (Process t) = Some t
thread_of _ = None

-- whether t is among these threads
abbrev pub is_among : List ℕ → ℕ → Bool
is_among us t = list_any (λ u. u == t) us

-- whether it is a line of one of these threads
abbrev pub is_line_among : List ℕ → Line → Bool
is_line_among us x = elim (thread_of x) [ None ↦ false | Some t ↦ is_among us t ]

-- who is dying behind one more line, if these were before it
abbrev pub dying_after : Line → List ℕ → List ℕ
dying_after (Dying t) us = t ∷ us
dying_after (End t) us = filter (λ u. not (u == t)) us
dying_after _ us = us

-- who is dying behind these lines, newest first: of whom it was said, and whose end was not said since
abbrev pub dying_by : List Line → List ℕ
dying_by [] = []
dying_by (x ∷ xs) = dying_after x (dying_by xs)
