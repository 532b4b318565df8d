-- Which event comes next in a call, and what a caller does after an answer.
use Rattle.std.specs.Prelude.{ℕ, if◌then◌else◌, is_some}
use Rattle.pif_types.specs.declared.requests.Request.{Request}
use Rattle.pif_model.specs.declared.events.Event.{Event}
use Rattle.pif_model.specs.declared.events.Event.TheVariants.{Begin, Go}
use Rattle.pif_model.specs.declared.events.Seen.{Seen}
use Rattle.pif_model.specs.declared.events.Seen.TheVariants as seen
use Rattle.pif_core_callers.specs.declared.events.Next.{Next}
use Rattle.pif_core_callers.specs.declared.events.Next.TheVariants.{GoOn, LetOthersGo, Closed, Gone, Ticked, Refused}
use Rattle.pif_model.specs.Calls.{waiting_answer}
use Rattle.pif_model.specs.Table.{Table}

-- the next event of a thread that makes this call: it goes on if it has a call open, else it begins this one
abbrev pub event_for : ℕ → Request → Table → Event
event_for t q s = if is_some (waiting_answer t s) then Go t else Begin t q

-- what a caller does after an answer: the call goes on, rests, is closed, is gone with its thread, or was refused; or
-- the time is another
abbrev pub next_after : Seen → Next
next_after seen.Begun = GoOn
next_after seen.Went = GoOn
next_after seen.Waits = LetOthersGo
next_after (seen.Answered a) = Closed a
next_after seen.Ended = Gone
next_after seen.Ticked = Ticked
next_after (seen.Refused r) = Refused r
