-- The trace of what a script asks of its core: the entries that its lines make, and what is written of them.
use Rattle.std.specs.Prelude.{ℕ, ◌≡◌, ◌==◌, ◌+◌, ◌≤◌, Bool, true, false, List, [], ◌∷◌, ◌++◌, Option, Some, None, option_and_then, Result, Ok, Err, is_ok, if◌then◌else◌, flat_map, length, reverse}
use Rattle.std.specs.Io.KnownBytes.{Appends, Consumes, IsAtEnd, Keeps}
use Rattle.pif_types.specs.Bounds.{Bounds}
use Rattle.pif_types.specs.declared.errors.AddFault.{AddFault}
use Rattle.pif_types.specs.declared.requests.Kind.{Kind}
use Rattle.pif_types.specs.declared.requests.Request.{Request}
use Rattle.pif_model.specs.declared.events.Entry.{Entry}
use Rattle.pif_model.specs.declared.events.Entry.TheVariants.{Thread as AddedThread, Mutex as AddedMutex, Cond as AddedCond, Step}
use Rattle.pif_model.specs.declared.events.Event.{Event}
use Rattle.pif_model.specs.Table.{Table, new_table}
use Rattle.pif_model.specs.Lines.{event_outcome}
use Rattle.pif_model.specs.Calls.{add_thread_answer, add_mutex_answer, add_cond_answer}
use Rattle.pif_model_simulation.specs.Calls.{after_call, after_going, most_further_steps}
use Rattle.pif_text_model.specs.declared.commands.Command.{Command}
use Rattle.pif_text_model.specs.declared.commands.Command.TheVariants.{Limits, Add, Event as EventOf, Run, Ask}
use Rattle.pif_text_model.specs.declared.commands.Addition.{Addition}
use Rattle.pif_text_model.specs.declared.commands.Addition.TheVariants.{Thread, Mutex, Cond}
use Rattle.pif_text_model.specs.declared.replies.Added.{Added}
use Rattle.pif_text_model.specs.declared.replies.Added.TheVariants as added
use Rattle.pif_text_model.specs.declared.replies.Reply.{Reply}
use Rattle.pif_text_model.specs.declared.replies.Reply.TheVariants as reply
use Rattle.pif_text_model.specs.Commands.{command_in}
use Rattle.pif_text_model.specs.CommandTexts.{command_text}
use Rattle.pif_text_model.specs.declared.traces.Version.TheVariants.{Two}
use Rattle.pif_text_model.specs.Traces.{if_traced, answer_text, same_of}
use Rattle.pif_script_model.specs.declared.faults.CliFault.{CliFault}
use Rattle.pif_script_model.specs.declared.faults.CliFault.TheVariants as fault
use Rattle.pif_script_model.specs.declared.ending.Ending.TheVariants.{Fault}
use Rattle.pif_script_model.specs.declared.ending.End.{End}
use Rattle.pif_script_model.specs.Scripts.{Meaning, FirstMeaning, Hearing, Scan, Reading, start, byte_taken, reading_of, ended_by, NeedsIn}
use Rattle.pif_script_model.specs.Runs.{WritesPart}
use Rattle.pif_text_model.specs.Limits.{default_limits}
use Rattle.pif_script_model.specs.Running.{command_answer, first_line_meaning, limits_in, line_meaning, script}
use Rattle.pif_script_model.specs.Traces.{entry_line, front_lines, trace, verdict}

-- ---- the entries that a script makes

-- the entry of an event, with what it is answered
abbrev pub event_entry : Event → Table → Entry
event_entry e s = Step e (event_outcome e s).seen

-- the entries of a thread that goes on up to the first answer that isn't Went, this often at most after a first time,
-- in their order
unfoldable pub going_entries : ℕ → ℕ → Table → List Entry
going_entries more t s = reverse (after_going more t s [])

-- the entries of a whole call, in their order
unfoldable pub call_entries : ℕ → Request → Table → List Entry
call_entries t q s = reverse (after_call t q s [])

-- the entries of a thread that goes on, with a request after it has begun that call
abbrev pub run_entries : ℕ → Option Request → Table → List Entry
run_entries t (Some q) s = call_entries t q s
run_entries t None s = going_entries most_further_steps t s

-- an addition that was made; a refused one is no entry
abbrev pub thread_entries : ℕ → Result ℕ AddFault → List Entry
thread_entries p (Ok t) = AddedThread t p ∷ []
thread_entries p (Err e) = []

abbrev pub mutex_entries : Kind → Bool → Result ℕ AddFault → List Entry
mutex_entries k robust (Ok m) = AddedMutex m k robust ∷ []
mutex_entries k robust (Err e) = []

abbrev pub cond_entries : ℕ → Result ℕ AddFault → List Entry
cond_entries m (Ok c) = AddedCond c m ∷ []
cond_entries m (Err e) = []

unfoldable pub addition_entries : Addition → Table → List Entry
addition_entries (Thread p) s = thread_entries p (add_thread_answer p s)
addition_entries (Mutex k robust) s = mutex_entries k robust (add_mutex_answer s)
addition_entries (Cond m) s = cond_entries m (add_cond_answer m s)

-- the entries that a command makes of a core that stands at s: additions that were made, and each event, refused or
-- not; a question makes none
unfoldable pub command_entries : Command → Table → List Entry
command_entries (Limits t m c n) s = []
command_entries (Add a) s = addition_entries a s
command_entries (EventOf e) s = event_entry e s ∷ []
command_entries (Run t q) s = run_entries t q s
command_entries (Ask q) s = []

-- the limits of the core that a first command makes: those that it names, if each is in its range, or else the default
unfoldable pub first_limits : Command → Option Bounds
first_limits (Limits t m c n) = limits_in (record { threads = t; mutexes = m; conds = c; signals = n })
first_limits (Add a) = Some default_limits
first_limits (EventOf e) = Some default_limits
first_limits (Run t q) = Some default_limits
first_limits (Ask q) = Some default_limits

-- the entries that a first command makes of the core that it makes
abbrev pub first_entries : Command → List Entry
first_entries c = elim (first_limits c) [ None ↦ [] | Some b ↦ command_entries c (new_table b) ]

-- the entries that a command makes of a core, or as the first one
abbrev pub entries_by : Option Table → Command → List Entry
entries_by None c = first_entries c
entries_by (Some s) c = command_entries c s

-- the entries that the line makes at which a script stands
unfoldable pub line_entries : Scan Table → List Entry
line_entries s = elim (command_in s.line) [ None ↦ [] | Some c ↦ entries_by s.listener c ]

-- the entries that a script makes that stands at s and goes on so, up to its first fault or its end: those of each
-- line, at its LF
unfoldable pub script_entries : Scan Table → List ℕ → List Entry
script_entries s [] = []
script_entries s (b ∷ bs) =
    elim (byte_taken script s b) [
      | Ok m ↦ (if b == 10 then line_entries s else []) ++ script_entries m.1 bs
      | Err e ↦ []
    ]

-- the limits of the core that a script makes that stands at s, with no core, and goes on so; none if it makes none
unfoldable pub script_limits : Scan Table → List ℕ → Option Bounds
script_limits s [] = None
script_limits s (b ∷ bs) =
    elim (byte_taken script s b) [
      | Ok m ↦ elim m.1.listener [
        | None ↦ script_limits m.1 bs
        | Some core ↦ option_and_then first_limits (command_in s.line)
      ]
      | Err e ↦ None
    ]

-- what is written of a script of these bytes: the trace of the entries that it makes, and nothing if it makes no core
unfoldable pub script_trace : List ℕ → List ℕ
script_trace bytes = elim (script_limits start bytes) [ None ↦ [] | Some b ↦ trace b (script_entries start bytes) ]

-- where a script of these bytes stands behind them
abbrev pub script_reading : List ℕ → Reading Table
script_reading bytes = reading_of script start bytes

-- how a script of these bytes ends
unfoldable pub script_end : List ℕ → Result (List ℕ) End
script_end bytes = ended_by script (script_reading bytes).stands

-- tracing a script of which these bytes were read; the results are those of a run:
--   ended well: all was read, and the script has no fault; its trace was written
--   a fault: it is the first of these bytes, or they end there and all was read; the trace up to it was written
--   a read failed: these bytes have no fault so far, and the trace of their lines was written
--   a write failed: a proper part of the trace was written, from its front
--   out of memory: a line of these bytes needs a core, it has no fault, and nothing was written
--   there are no differences
abbrev pub Transcribes : List ℕ → (after held holds : Option (List ℕ)) → Result (Unit {0}) CliFault → Type 0
Transcribes read after held holds (Ok x) =
    (is_ok (script_end read) ≡ true) × IsAtEnd after × Appends held holds (script_trace read)
Transcribes read after held holds (Err (fault.Script line cause)) =
    (script_end read ≡ Err (record { line = line; ending = Fault cause }))
    × (is_ok (script_reading read).stands ≡ true → IsAtEnd after)
    × Appends held holds (script_trace read)
Transcribes read after held holds (Err (fault.Differs line)) = ⊥
Transcribes read after held holds (Err fault.Read) =
    (is_ok (script_reading read).stands ≡ true) × Appends held holds (script_trace read)
Transcribes read after held holds (Err fault.Write) = WritesPart held holds (script_trace read)
Transcribes read after held holds (Err fault.NoMemory) = NeedsIn script start read × Keeps held holds

-- tracing a script, by what the reader had and has left, and what the writer held and holds
abbrev pub TracesTo : (before after held holds : Option (List ℕ)) → Result (Unit {0}) CliFault → Type 0
TracesTo before after held holds result =
    (read : List ℕ) × Consumes before after read × Transcribes read after held holds result

-- ---- the lines of a trace, line of a script by line

-- entries as lines
abbrev pub entry_lines : List Entry → List ℕ
entry_lines entries = flat_map entry_line entries

-- a command and what it was answered, as a line
abbrev pub row : Command → Reply → List ℕ
row c r = (command_text c ++ answer_text r) ++ 10 ∷ []

-- whether an addition was made
abbrev pub is_added : Added → Bool
is_added (added.Thread t) = true
is_added (added.Mutex m) = true
is_added (added.Cond c) = true
is_added (added.Refused e) = false

-- whether an addition was made, or it was none
abbrev pub was_made : Reply → Bool
was_made reply.Done = true
was_made (reply.Added a) = is_added a
was_made (reply.Seen s) = true
was_made (reply.Told f) = true

-- the line of a command that makes one entry at most, by what it was answered
abbrev pub single_line : Command → Reply → List ℕ
single_line c r = elim (if_traced Two c) [ None ↦ [] | Some d ↦ (if was_made r then row d r else []) ]

-- what a line means whose meaning is this one, but for what it is answered
abbrev pub with_text : List ℕ → Meaning Table → Meaning Table
with_text text (Ok m) = Ok (text, m.1)
with_text text (Err e) = Err e

abbrev pub first_with_text : List ℕ → FirstMeaning Table → FirstMeaning Table
first_with_text text (Ok (Some m)) = Ok (Some (text, m.1))
first_with_text text (Ok None) = Ok None
first_with_text text (Err e) = Err e

-- the lines that a first command makes: those in front, and those of its entries
unfoldable pub first_lines : Command → List ℕ
first_lines c = elim (first_limits c) [ None ↦ [] | Some b ↦ front_lines b ++ entry_lines (command_entries c (new_table b)) ]

-- what the first line of a script makes of a trace
unfoldable pub first_line_lines : List ℕ → List ℕ
first_line_lines line = elim (command_in line) [ None ↦ [] | Some c ↦ first_lines c ]

-- what a later line makes of it
unfoldable pub later_line_lines : Table → List ℕ → List ℕ
later_line_lines s line = elim (command_in line) [ None ↦ [] | Some c ↦ entry_lines (command_entries c s) ]

-- how a script is heard whose trace is written: as in a run, but for what its lines are answered; nothing is said of
-- the line that ends it
abbrev pub transcript : Hearing Table
transcript = record {
  first_meaning = λ version line. first_with_text (first_line_lines line) (first_line_meaning line);
  meaning = λ s line. with_text (later_line_lines s line) (line_meaning s line);
  end_text = λ number. Ok [];
  said_of = λ e. [];
}

-- what a command did to a core, and what was told of it
abbrev pub Transcribed : Command → (s t : Table) → (old new : List ℕ) → Option Reply → Type 0
Transcribed c s t old new None = (command_answer c s ≡ None) × (t ≡ s) × (new ≡ old)
Transcribed c s t old new (Some r) = (command_answer c s ≡ Some (r, t)) × (new ≡ old ++ entry_lines (command_entries c s))

-- ---- replaying it

-- the trace of a script that makes a core is the same when it is replayed, as long as it is no larger than a trace may
-- be: with the number of its entries, and one more for the line of the limits
abbrev pub SameAsTraced : Type 0
SameAsTraced =
    (bytes : List ℕ) (limits : Bounds) → script_limits start bytes ≡ Some limits
    → length (script_trace bytes) ≤ 16777216
    → verdict (script_trace bytes) ≡ same_of (1 + length (script_entries start bytes)) ++ 10 ∷ []
