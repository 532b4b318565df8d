-- What a room and its clients show.
use Rattle.std.specs.Prelude.{ℕ, ◌≡◌, ⊤, List, [], ◌∷◌, ◌++◌, reverse, Result, Err}
use Rattle.pif_types.specs.declared.errors.AddFault.{AddFault}
use Rattle.pif_types.specs.declared.errors.Refusal.TheVariants.{Past}
use Rattle.pif_model.specs.declared.events.Event.{Event}
use Rattle.pif_model.specs.declared.events.Seen.{Seen}
use Rattle.pif_model.specs.declared.events.Entry.{Entry}
use Rattle.pif_model.specs.declared.events.Entry.TheVariants.{Step as Happened}
use Rattle.pif_model.specs.Posix.{World}
use Rattle.pif_model.specs.Standing.{Stands}
use Rattle.pif_model.specs.Table.{Table}
use Rattle.pif_model.specs.Lines.{event_outcome}
use Rattle.pif_desk.specs.declared.faults.DeskFault.{DeskFault}
use Rattle.pif_desk.specs.declared.faults.DeskFault.TheVariants.{NoMemory, Refused, NotAdded}
use Rattle.pif_desk.specs.declared.book.Receipt.{Receipt}
use Rattle.pif_desk.specs.declared.log.Act.{Act}
use Rattle.pif_desk.specs.declared.log.Call.{Call}
use Rattle.pif_desk.specs.Logs.{Log, new_call, closed_call, log_after_end, mark_of, log_after, calls_of}

-- a core and the journal of what was done with it, the oldest entry first
pub record RoomState : Type 0 where
  pub core : Table
  pub journal : List Entry

-- the history that a journal tells: its entries, the newest first
abbrev pub history_of : List Entry → List Entry
history_of journal = reverse journal

-- a core with this table stands after the history that the journal tells
pub record StandsAfter (core : Table) (journal : List Entry) : Type 0 where
  pub states : List World
  pub last : World
  pub stands : Stands core (history_of journal) states last

-- the event was answered so: the core has made that step, and the journal has this one entry more
pub record Turns (e : Event) (seen : Seen) (old new : RoomState) : Type 0 where
  pub answer : seen ≡ (event_outcome e old.core).seen
  pub core : new.core ≡ (event_outcome e old.core).after
  pub journal : new.journal ≡ old.journal ++ Happened e seen ∷ []

-- an addition: the core is this one, and the journal has this one entry more
pub record Adds (s : Table) (e : Entry) (old new : RoomState) : Type 0 where
  pub core : new.core ≡ s
  pub journal : new.journal ≡ old.journal ++ e ∷ []

-- a client: its thread, and the log of its calls
pub record ClientState : Type 0 where
  pub thread : ℕ
  pub log : Log

-- a client after it did this and was answered so, at this position of the journal
abbrev pub client_after : Act → Seen → ℕ → ClientState → ClientState
client_after act seen at c = record c { log = log_after (mark_of act seen) at c.log }

-- a client with one call more
abbrev pub with_call : Call → ClientState → ClientState
with_call call c = record c { log = record c.log { calls = call ∷ c.log.calls } }

-- a client whose thread has ended
abbrev pub with_end : ClientState → ClientState
with_end c = record c { log = log_after_end c.log }

-- the call for which a receipt was given, as a log has it
abbrev pub receipt_call : Receipt → Call
receipt_call r = closed_call r.request (record { answer = r.answer; at = r.at })

-- a receipt closes the open call of a client: it has the call's request, and the log is as before but for that call
pub record Closes (r : Receipt) (old new : ClientState) : Type 0 where
  pub before : ClientState
  pub was : old ≡ with_call (new_call r.request) before
  pub now : new ≡ with_call (receipt_call r) before

-- an event was refused, by the core or for being out of memory
abbrev pub IsEventFault : DeskFault → Type 0
IsEventFault NoMemory = ⊤
IsEventFault (Refused x) = ⊤
IsEventFault (NotAdded f) = ⊥

-- a tick was refused: its time is before the present one, or memory was refused
abbrev pub IsTickFault : DeskFault → Type 0
IsTickFault NoMemory = ⊤
IsTickFault (Refused Past) = ⊤
IsTickFault _ = ⊥

-- a client's log is just the calls of its thread in the journal
abbrev pub IsExact : ClientState → List Entry → Type 0
IsExact c journal = c.log ≡ calls_of c.thread (history_of journal)

-- why an addition that the core answers so was not made: the core refused it, or memory was refused
abbrev pub IsWhyNotAdded : DeskFault → Result ℕ AddFault → Type 0
IsWhyNotAdded NoMemory r = ⊤
IsWhyNotAdded (Refused x) r = ⊥
IsWhyNotAdded (NotAdded f) r = r ≡ Err f
