-- Traces: what a trace comes to, and the trace of a history.
use Rattle.std.specs.Prelude.{ℕ, ◌≡◌, ◌-◌, ◌==◌, true, nat_lt, List, [], ◌∷◌, ◌++◌, Option, Some, None, Result, Ok, Err, is_ok, option_and_then, option_map, if◌then◌else◌, bytes_eq, flat_map, ◌+◌, ◌≤◌, All, length}
use Rattle.std.specs.Io.KnownBytes.{Appends, Consumes, IsAtEnd, Keeps}
use Rattle.pif_types.specs.Bounds.{Bounds, IsWithin}
use Rattle.pif_model.specs.declared.events.Entry.{Entry}
use Rattle.pif_model.specs.declared.events.Entry.TheVariants.{Thread as AddedThread, Mutex as AddedMutex, Cond as AddedCond, Step}
use Rattle.pif_model.specs.Calls.{add_thread_answer, add_thread_after, add_mutex_answer, add_mutex_after, add_cond_answer, add_cond_after}
use Rattle.pif_model.specs.Lines.{event_outcome}
use Rattle.pif_model.specs.Table.{Table, new_table}
use Rattle.pif_text_model.specs.declared.commands.Command.{Command}
use Rattle.pif_text_model.specs.declared.commands.Command.TheVariants.{Limits, Add, Event}
use Rattle.pif_text_model.specs.declared.commands.Addition.TheVariants.{Thread, Mutex, Cond}
use Rattle.pif_text_model.specs.declared.replies.Cause.{Cause}
use Rattle.pif_text_model.specs.declared.replies.Cause.TheVariants.{Command as NoCommand}
use Rattle.pif_text_model.specs.declared.replies.Reply.{Reply}
use Rattle.pif_text_model.specs.declared.replies.Reply.TheVariants as reply
use Rattle.pif_text_model.specs.declared.replies.Added.TheVariants as added
use Rattle.pif_text_model.specs.Commands.{command_in}
use Rattle.pif_text_model.specs.CommandTexts.{IsWritten, command_text}
use Rattle.pif_text_model.specs.Replies.{text_of}
use Rattle.pif_text_model.specs.declared.traces.Version.{Version}
use Rattle.pif_text_model.specs.declared.traces.Version.TheVariants.{Two}
use Rattle.pif_text_model.specs.Traces.{IsTraced, header_text, if_traced, parts_of, answer_text, same_of, version_in}
use Rattle.pif_script_model.specs.declared.faults.CliFault.{CliFault}
use Rattle.pif_script_model.specs.declared.faults.CliFault.TheVariants as fault
use Rattle.pif_script_model.specs.declared.ending.Ending.TheVariants.{Fault, Differs}
use Rattle.pif_script_model.specs.declared.ending.End.{End}
use Rattle.pif_script_model.specs.Scripts.{Meaning, FirstMeaning, Hearing, Reading, start, reading_of, ended_by, NeedsIn}
use Rattle.pif_script_model.specs.Runs.{WritesPart, end_line, last_text}
use Rattle.pif_script_model.specs.Running.{Answer, answer_or_fault, command_answer, first_answer, made_by}

-- ---- reading

-- the command of a line of a trace of a version, and the answer that it records
unfoldable pub traced_in : Version → List ℕ → Option (Command × List ℕ)
traced_in version line =
    option_and_then (λ parts. option_map (λ c. (c, parts.1)) (option_and_then (if_traced version) (command_in parts.0)))
    (parts_of line)

-- a trace of a version, and the core that is held to it
pub record Replay : Type 0 where
  pub version : Version
  pub core : Table

-- a recorded answer beside the answer that is given: nothing is told, and another answer is a difference
abbrev pub comparison : Version → List ℕ → Result Answer Cause → Meaning Replay
comparison version recorded (Ok a) =
    if bytes_eq (text_of a.0) recorded then Ok ([], record { version = version; core = a.1 }) else Err (Differs a.0)
comparison version recorded (Err c) = Err (Fault c)

-- the first line of a trace is the header, which makes nobody who hears it
abbrev pub header_meaning : {S : Type 0} → Option Version → FirstMeaning S
header_meaning (Some version) = Ok None
header_meaning None = Err (Fault NoCommand)

-- what the second line of a trace means, whose command makes the core
unfoldable pub second_line_meaning : Version → List ℕ → FirstMeaning Replay
second_line_meaning version line =
    elim (traced_in version line) [
      | None ↦ Err (Fault NoCommand)
      | Some p ↦ made_by (comparison version p.1 (first_answer p.0))
    ]

-- what the first line of a trace means, and the second one, before which the first has named the version
abbrev pub opening_meaning : Option Version → List ℕ → FirstMeaning Replay
opening_meaning None line = header_meaning (version_in line)
opening_meaning (Some version) line = second_line_meaning version line

-- what a later line of a trace means to a core
unfoldable pub traced_meaning : Replay → List ℕ → Meaning Replay
traced_meaning r line =
    elim (traced_in r.version line) [
      | None ↦ Err (Fault NoCommand)
      | Some p ↦ comparison r.version p.1 (answer_or_fault (command_answer p.0 r.core))
    ]

-- what is said at the end of a trace, where the next line would have this number: how many lines stand behind the
-- first; a trace without a line is no trace
abbrev pub traced_end : ℕ → Result (List ℕ) Cause
traced_end number = if nat_lt 1 number then Ok (same_of (number - 2) ++ 10 ∷ []) else Err NoCommand

-- how a trace is heard
abbrev pub trace_hearing : Hearing Replay
trace_hearing = record {
  first_meaning = opening_meaning;
  meaning = traced_meaning;
  end_text = traced_end;
  said_of = end_line;
}

-- where a trace of these bytes stands behind them
abbrev pub trace_reading : List ℕ → Reading Replay
trace_reading bytes = reading_of trace_hearing start bytes

-- how a trace of these bytes ends: with what is said at its end, or with the line of its first fault or difference
unfoldable pub trace_end : List ℕ → Result (List ℕ) End
trace_end bytes = ended_by trace_hearing (trace_reading bytes).stands

-- what a trace of these bytes comes to: `same`, `differs` or `fault`, with what belongs to it
unfoldable pub verdict : List ℕ → List ℕ
verdict bytes = last_text end_line (trace_end bytes)

-- replaying a trace of which these bytes were read:
--   ended well: all was read, and each answer is the recorded one; the verdict was written
--   a fault: it is the first of these bytes, or they end there and all was read; the verdict was written
--   a difference: it is the first of these bytes, before any fault; the verdict was written
--   a read failed: these bytes have no fault and no difference so far, and nothing was written
--   a write failed: a proper part of the verdict was written, from its front
--   out of memory: the header and the line after it are among these bytes and have no fault, and nothing was written
abbrev pub Replays : List ℕ → (after held holds : Option (List ℕ)) → Result (Unit {0}) CliFault → Type 0
Replays read after held holds (Ok x) =
    (is_ok (trace_end read) ≡ true) × IsAtEnd after × Appends held holds (verdict read)
Replays read after held holds (Err (fault.Script line cause)) =
    (trace_end read ≡ Err (record { line = line; ending = Fault cause }))
    × (is_ok (trace_reading read).stands ≡ true → IsAtEnd after)
    × Appends held holds (verdict read)
Replays read after held holds (Err (fault.Differs line)) =
    ((given : Reply) × (trace_end read ≡ Err (record { line = line; ending = Differs given })))
    × Appends held holds (verdict read)
Replays read after held holds (Err fault.Read) = (is_ok (trace_reading read).stands ≡ true) × Keeps held holds
Replays read after held holds (Err fault.Write) = WritesPart held holds (verdict read)
Replays read after held holds (Err fault.NoMemory) = NeedsIn trace_hearing start read × Keeps held holds

-- replaying a trace, by what the reader had and has left, and what the writer held and holds
abbrev pub ReplaysTo : (before after held holds : Option (List ℕ)) → Result (Unit {0}) CliFault → Type 0
ReplaysTo before after held holds result =
    (read : List ℕ) × Consumes before after read × Replays read after held holds result

-- ---- writing

-- the command that an entry asks for
abbrev pub entry_command : Entry → Command
entry_command (AddedThread t p) = Add (Thread p)
entry_command (AddedMutex m k robust) = Add (Mutex k robust)
entry_command (AddedCond c m) = Add (Cond m)
entry_command (Step e seen) = Event e

-- the answer that an entry records
abbrev pub entry_reply : Entry → Reply
entry_reply (AddedThread t p) = reply.Added (added.Thread t)
entry_reply (AddedMutex m k robust) = reply.Added (added.Mutex m)
entry_reply (AddedCond c m) = reply.Added (added.Cond c)
entry_reply (Step e seen) = reply.Seen seen

-- an entry of a history as a command and the answer to it
unfoldable pub entry_text : Entry → List ℕ
entry_text e = command_text (entry_command e) ++ answer_text (entry_reply e)

-- limits as the command that names them, and the answer to it
abbrev pub limits_text : Bounds → List ℕ
limits_text b = command_text (Limits b.threads b.mutexes b.conds b.signals) ++ answer_text reply.Done

-- an entry of a history as a line of a trace
abbrev pub entry_line : Entry → List ℕ
entry_line e = entry_text e ++ 10 ∷ []

-- the first two lines of the trace of a history: the header and the limits
unfoldable pub front_lines : Bounds → List ℕ
front_lines b = header_text Two ++ 10 ∷ limits_text b ++ 10 ∷ []

-- the trace of a history under these limits, whose entries are given in order: the header, the limits, and each entry
unfoldable pub trace : Bounds → List Entry → List ℕ
trace b entries = front_lines b ++ flat_map entry_line entries

-- ---- writing and reading again

-- an entry whose numbers a line can write, as those of each `Entry` are
abbrev pub IsEntryWritten : Entry → Type 0
IsEntryWritten e = IsWritten (entry_command e) × IsTraced (entry_reply e)

-- what a core that stands at s did and was answered, entry by entry in order
abbrev pub IsHistory : Table → List Entry → Type 0
IsHistory s [] = Unit {0}
IsHistory s (AddedThread t p ∷ entries) =
    (add_thread_answer p s ≡ Ok t) × IsHistory (add_thread_after p (Ok t) s) entries
IsHistory s (AddedMutex m k robust ∷ entries) =
    (add_mutex_answer s ≡ Ok m) × IsHistory (add_mutex_after k robust (Ok m) s) entries
IsHistory s (AddedCond c m ∷ entries) = (add_cond_answer m s ≡ Ok c) × IsHistory (add_cond_after m (Ok c) s) entries
IsHistory s (Step e seen ∷ entries) = ((event_outcome e s).seen ≡ seen) × IsHistory (event_outcome e s).after entries

-- the trace of what a core under these limits did is the same when it is replayed, as long as it is no larger than a
-- trace may be; the line of the limits is counted too
abbrev pub SameAgain : Type 0
SameAgain =
    (limits : Bounds) (entries : List Entry) → IsWithin limits → All IsEntryWritten entries
    → IsHistory (new_table limits) entries
    → length (trace limits entries) ≤ 16777216
    → verdict (trace limits entries) ≡ same_of (1 + length entries) ++ 10 ∷ []
