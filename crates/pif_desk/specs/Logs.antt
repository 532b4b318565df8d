-- The calls of a thread in a history, and the log that a client keeps of its own.
use Rattle.std.specs.Prelude.{ℕ, Bool, true, false, ◌==◌, List, [], ◌∷◌, length, reverse, Option, Some, None, is_some, unwrap_or, if◌then◌else◌}
use Rattle.pif_types.specs.declared.errors.Refusal.TheVariants.{Past}
use Rattle.pif_types.specs.declared.requests.Request.{Request}
use Rattle.pif_model.specs.declared.events.Event.{Event}
use Rattle.pif_model.specs.declared.events.Event.TheVariants.{Begin, Go as Goes, End as Ends, Tick}
use Rattle.pif_model.specs.declared.events.Seen.{Seen}
use Rattle.pif_model.specs.declared.events.Seen.TheVariants.{Begun, Went, Waits, Answered, Ended, Ticked, Refused}
use Rattle.pif_model.specs.declared.events.Entry.{Entry}
use Rattle.pif_model.specs.declared.events.Entry.TheVariants.{Step as Happened}
use Rattle.pif_desk.specs.declared.log.Act.{Act}
use Rattle.pif_desk.specs.declared.log.Act.TheVariants.{Begin as Begins, Go, End}
use Rattle.pif_desk.specs.declared.log.Mark.{Mark}
use Rattle.pif_desk.specs.declared.log.Mark.TheVariants.{Begun as MarkBegun, Answered as MarkAnswered, Ended as MarkEnded, Nothing}
use Rattle.pif_desk.specs.declared.log.Reply.{Reply}
use Rattle.pif_desk.specs.declared.log.Call.{Call}

-- the calls of a thread, the newest first, and whether the thread has ended
pub record Log : Type 0 where
  pub calls : List Call
  pub ended : Bool

-- the log with these calls, the oldest first
abbrev pub log_of : List Call → Bool → Log
log_of calls e = record { calls = reverse calls; ended = e }

-- no call was made
abbrev pub no_calls : Log
no_calls = record { calls = []; ended = false }

-- a call that is open
abbrev pub new_call : Request → Call
new_call q = record { request = q; reply = None }

-- a call with its reply
abbrev pub closed_call : Request → Reply → Call
closed_call q r = record { request = q; reply = Some r }

-- the last call has this reply, if it was open
abbrev pub with_reply : Reply → List Call → List Call
with_reply r [] = []
with_reply r (c ∷ cs) = closed_call c.request (unwrap_or c.reply r) ∷ cs

-- one call more, which is open
abbrev pub begun : Request → Log → Log
begun q l = record l { calls = new_call q ∷ l.calls }

-- the last call has this answer, which stands at this position, if it was open
abbrev pub with_answer : ℕ → ℕ → Log → Log
with_answer a at l = record l { calls = with_reply (record { answer = a; at = at }) l.calls }

-- the thread has ended
abbrev pub log_after_end : Log → Log
log_after_end l = record l { ended = true }

-- whether the last of these calls is open
abbrev pub is_last_open : List Call → Bool
is_last_open [] = false
is_last_open (c ∷ cs) = if is_some c.reply then false else true

-- the request of the last of these calls, if it is open
abbrev pub last_open : List Call → Option Request
last_open [] = None
last_open (c ∷ cs) = if is_some c.reply then None else Some c.request

-- whether a call is open
abbrev pub has_open_call : Log → Bool
has_open_call l = is_last_open l.calls

-- what is told of a thread's log if it did this and was answered so
abbrev pub mark_of : Act → Seen → Mark
mark_of (Begins q) Begun = MarkBegun q
mark_of Go (Answered a) = MarkAnswered a
mark_of End Ended = MarkEnded
mark_of _ _ = Nothing

-- a log after what was told of it at this position of the history
abbrev pub log_after : Mark → ℕ → Log → Log
log_after (MarkBegun q) at l = begun q l
log_after (MarkAnswered a) at l = with_answer a at l
log_after MarkEnded at l = log_after_end l
log_after Nothing at l = l

-- the event by which t does this
abbrev pub event_of : Act → ℕ → Event
event_of (Begins q) t = Begin t q
event_of Go t = Goes t
event_of End t = Ends t

-- what an entry tells of the log of t; an addition and a tick belong to no thread
abbrev pub mark_in : ℕ → Entry → Mark
mark_in t (Happened (Begin u q) x) = if u == t then mark_of (Begins q) x else Nothing
mark_in t (Happened (Goes u) x) = if u == t then mark_of Go x else Nothing
mark_in t (Happened (Ends u) x) = if u == t then mark_of End x else Nothing
mark_in t _ = Nothing

-- the calls of t in a history, newest entry first: those that it began, each with the next answer to t if there is one,
-- and whether t has ended
abbrev pub calls_of : ℕ → List Entry → Log
calls_of t [] = no_calls
calls_of t (e ∷ h) = log_after (mark_in t e) (length h) (calls_of t h)

-- whether it is the beginning of a call
abbrev pub begins : Act → Bool
begins (Begins q) = true
begins Go = false
begins End = false

-- whether a call has begun
abbrev pub is_begun : Mark → Bool
is_begun (MarkBegun q) = true
is_begun _ = false

-- whether it can be answered so
abbrev pub is_answer_to : Act → Seen → Bool
is_answer_to (Begins q) Begun = true
is_answer_to (Begins q) (Refused r) = true
is_answer_to Go Went = true
is_answer_to Go Waits = true
is_answer_to Go (Answered a) = true
is_answer_to Go (Refused r) = true
is_answer_to End Ended = true
is_answer_to End (Refused r) = true
is_answer_to _ _ = false

-- whether an event can be answered so
abbrev pub is_answer_of : Event → Seen → Bool
is_answer_of (Begin t q) x = is_answer_to (Begins q) x
is_answer_of (Goes t) x = is_answer_to Go x
is_answer_of (Ends t) x = is_answer_to End x
is_answer_of (Tick n) Ticked = true
is_answer_of (Tick n) (Refused Past) = true
is_answer_of (Tick n) _ = false
