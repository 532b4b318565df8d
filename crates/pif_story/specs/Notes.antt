-- Notes on a story: names in its commands that nobody has, priorities that are out of range, and what else is asked for
-- and isn't there: room for one more, and a time that is past.
use Rattle.std.specs.Prelude.{ℕ, ◌≡◌, ◌≤◌, ◌<◌, ◌+◌, ◌-◌, ◌==◌, ◌&&◌, not, nat_le, nat_lt, nat_eq, Bool, true, false, List, [], ◌∷◌, ◌++◌, length, drop, flat_map, slice_get, Option, Some, None, Result, Ok, Err, option_and_then, option_map, if◌then◌else◌, bytes_eq, codes, decimal}
use Rattle.std.specs.Io.KnownBytes.{Consumes}
use Rattle.std.specs.List.{cons_option, starts_with, zip}
use Rattle.pif_types.specs.declared.requests.Request.{Request}
use Rattle.pif_types.specs.declared.requests.Named.{Named}
use Rattle.pif_types.specs.Shapes.{names_of}
use Rattle.pif_model.specs.declared.events.Event.{Event}
use Rattle.pif_model.specs.declared.events.Event.TheVariants.{Begin, Go, End, Tick}
use Rattle.pif_text_model.specs.declared.commands.Command.{Command}
use Rattle.pif_text_model.specs.declared.commands.Command.TheVariants as command
use Rattle.pif_text_model.specs.declared.commands.Addition.{Addition}
use Rattle.pif_text_model.specs.declared.commands.Addition.TheVariants as addition
use Rattle.pif_text_model.specs.Commands.{command_in}
use Rattle.pif_text_model.specs.Questions.{asked_names}
use Rattle.pif_text_model.specs.Replies.{thread_name, mutex_name, cond_name}
use Rattle.pif_script_model.specs.declared.faults.CliFault.{CliFault}
use Rattle.pif_script_model.specs.Running.{RunsTo}
use Rattle.pif_script_model.specs.Showing.{ShowsTo, as_done}
use Rattle.pif_script_model.specs.Checks.{Telling, TellsOfStory, text_of_run}
use Rattle.pif_script_model.specs.Lines.{StoryRow, commentless, is_blank, lines, without_mark}
use Rattle.pif_script_model.specs.StoryShowing.{EndsWith, LeavesScript}
use Rattle.pif_script_model.specs.Stories.{NumberedRow, rows_of, script_of}
use Rattle.pif_script_model.specs.Verdicts.{is_refusal}
use Rattle.pif_story.specs.declared.missing.Known.{Known}
use Rattle.pif_story.specs.declared.missing.Missing.{Missing}
use Rattle.pif_story.specs.declared.missing.Missing.TheVariants.{Thread, Mutex, Cond, Priority, ThreadRoom, MutexRoom, CondRoom, Time}
use Rattle.pif_story.specs.declared.missing.Note.{Note}

-- ---- what was added, and the time

-- before the first command
abbrev pub nothing_known : Known
nothing_known = record { threads = 0; mutexes = 0; conds = 0; time = 0 }

-- one more; there are no more names than this
abbrev pub one_more : ℕ → ℕ
one_more count = if nat_lt count 4294967295 then count + 1 else count

-- what is there once this was added
unfoldable pub known_with : Known → Addition → Known
known_with known (addition.Thread p) = record known { threads = one_more known.threads }
known_with known (addition.Mutex k robust) = record known { mutexes = one_more known.mutexes }
known_with known (addition.Cond m) = record known { conds = one_more known.conds }

-- what is there after this event
unfoldable pub known_after : Known → Event → Known
known_after known (Tick n) = record known { time = n }
known_after known (Begin t q) = known
known_after known (Go t) = known
known_after known (End t) = known

-- what is there behind a command that is answered so; a refused one adds nothing, and no time passes
unfoldable pub known_behind : Known → Command → (given : List ℕ) → Known
known_behind known (command.Add a) given = if is_refusal given then known else known_with known a
known_behind known (command.Limits t m c n) given = known
known_behind known (command.Event e) given = if is_refusal given then known else known_after known e
known_behind known (command.Run t q) given = known
known_behind known (command.Ask q) given = known

-- ---- what is missing

-- the name of a thread that nobody has: threads are numbered from 1, one after the other
abbrev pub missing_thread : Known → ℕ → Option Missing
missing_thread known t = if nat_le t known.threads then None else Some (Thread t)

-- the same of a mutex
abbrev pub missing_mutex : Known → ℕ → Option Missing
missing_mutex known m = if nat_le m known.mutexes then None else Some (Mutex m)

-- the same of a condition variable
abbrev pub missing_cond : Known → ℕ → Option Missing
missing_cond known c = if nat_le c known.conds then None else Some (Cond c)

-- the first of two that is missing
abbrev pub first_of : (one other : Option Missing) → Option Missing
first_of None other = other
first_of (Some m) other = Some m

-- the first of these names that nobody has: of a condition variable, a mutex and a thread, in this order
unfoldable pub missing_in_names : Known → Named → Option Missing
missing_in_names known named =
    first_of (option_and_then (missing_cond known) named.cond)
    (first_of (option_and_then (missing_mutex known) named.mutex) (option_and_then (missing_thread known) named.thread))

-- the first name in a request that nobody has, if there is a request
abbrev pub missing_in_run : Known → Option Request → Option Missing
missing_in_run known None = None
missing_in_run known (Some q) = missing_in_names known (names_of q)

-- the same of an event
unfoldable pub missing_in_event : Known → Event → Option Missing
missing_in_event known (Begin t q) = first_of (missing_thread known t) (missing_in_names known (names_of q))
missing_in_event known (Go t) = missing_thread known t
missing_in_event known (End t) = missing_thread known t
missing_in_event known (Tick n) = None

-- the same of an addition: a condition variable is bound to a mutex
abbrev pub missing_in_addition : Known → Addition → Option Missing
missing_in_addition known (addition.Thread p) = None
missing_in_addition known (addition.Mutex k robust) = None
missing_in_addition known (addition.Cond m) = missing_mutex known m

-- the same of a command
unfoldable pub missing_in : Known → Command → Option Missing
missing_in known (command.Limits t m c n) = None
missing_in known (command.Add a) = missing_in_addition known a
missing_in known (command.Event e) = missing_in_event known e
missing_in known (command.Run t q) = first_of (missing_thread known t) (missing_in_run known q)
missing_in known (command.Ask q) = missing_in_names known (asked_names q)

-- the priority that a command asks for, if it adds a thread
unfoldable pub asked_priority : Command → Option Missing
asked_priority (command.Add (addition.Thread p)) = Some (Priority p)
asked_priority (command.Add (addition.Mutex k robust)) = None
asked_priority (command.Add (addition.Cond m)) = None
asked_priority (command.Limits t m c n) = None
asked_priority (command.Event e) = None
asked_priority (command.Run t q) = None
asked_priority (command.Ask q) = None

-- room for one more of what is added: there are as many of these as may be
abbrev pub room_for : Known → Addition → Missing
room_for known (addition.Thread p) = ThreadRoom known.threads
room_for known (addition.Mutex k robust) = MutexRoom known.mutexes
room_for known (addition.Cond m) = CondRoom known.conds

-- the room that a command asks for, if it adds something
unfoldable pub asked_room : Known → Command → Option Missing
asked_room known (command.Add a) = Some (room_for known a)
asked_room known (command.Limits t m c n) = None
asked_room known (command.Event e) = None
asked_room known (command.Run t q) = None
asked_room known (command.Ask q) = None

-- the time that a command asks for, if it is a tick, and the time that it is
unfoldable pub asked_time : Known → Command → Option Missing
asked_time known (command.Event (Tick n)) = Some (Time n known.time)
asked_time known (command.Event (Begin t q)) = None
asked_time known (command.Event (Go t)) = None
asked_time known (command.Event (End t)) = None
asked_time known (command.Limits t m c n) = None
asked_time known (command.Add a) = None
asked_time known (command.Run t q) = None
asked_time known (command.Ask q) = None

-- what is noted of a command that is answered so: if it names something that is not there, the first name that nobody
-- has; if a priority is out of range, that priority; if there are as many as may be, the room for one more; and if a time
-- is past, that time
unfoldable pub noted : Known → Command → (given : List ℕ) → Option Missing
noted known c given =
    if bytes_eq given (codes "refused nosuch") then missing_in known c
    else if bytes_eq given (codes "refused badprio") then asked_priority c
    else if bytes_eq given (codes "refused toomany") then asked_room known c
    else if bytes_eq given (codes "refused past") then asked_time known c else None

-- ---- where it stands

-- the word in a command that is missing
unfoldable pub missing_word : Missing → List ℕ
missing_word (Thread t) = thread_name t
missing_word (Mutex m) = mutex_name m
missing_word (Cond c) = cond_name c
missing_word (Priority p) = decimal p
missing_word (ThreadRoom n) = codes "thread"
missing_word (MutexRoom n) = codes "mutex"
missing_word (CondRoom n) = codes "cond"
missing_word (Time n now) = decimal n

-- whether a text is at an end of a word
abbrev pub ends_word : List ℕ → Bool
ends_word [] = true
ends_word (byte ∷ more) = is_blank byte

-- whether a text begins with this word
abbrev pub begins_with : (word text : List ℕ) → Bool
begins_with word text = starts_with nat_eq text word && ends_word (drop (length word) text)

-- the column of a word in a text that begins in this column, and where a word may begin or not; that behind the text if
-- it has no such word
unfoldable pub column_from : ℕ → (begins : Bool) → (word text : List ℕ) → ℕ
column_from column begins word [] = column
column_from column begins word (byte ∷ more) =
    if begins && begins_with word (byte ∷ more) then column
    else column_from (column + 1) (is_blank byte) word more

-- the column of a word in a line as it is written, from 1
abbrev pub column_of : (word line : List ℕ) → ℕ
column_of word line = column_from 1 true word (commentless line)

-- a line, or an empty one if there is none
abbrev pub line_or_empty : Option (List ℕ) → List ℕ
line_or_empty None = []
line_or_empty (Some line) = line

-- the line of this number in a text, from 1
abbrev pub line_in : (text : List ℕ) → ℕ → List ℕ
line_in text number = line_or_empty (slice_get (lines text) (number - 1))

-- ---- the notes on a story

-- an answer that is written behind a command wants what is noted, so that nothing is told
abbrev pub if_unanswered : Option (List ℕ) → Option Missing → Option Missing
if_unanswered None missing = missing
if_unanswered (Some written) missing = None

-- the note in a line of this number and text on what is missing
abbrev pub note_at : ℕ → (text : List ℕ) → Missing → Note
note_at line text m = record { line = line; column = column_of (missing_word m) text; missing = m }

-- the same in the line of this number of a story, as it is written
abbrev pub note_in : (story : List ℕ) → ℕ → Missing → Note
note_in story line m = note_at line (line_in (without_mark story) line) m

-- what is noted of the command that these words are
unfoldable pub words_noted : Known → (words given : List ℕ) → Option Missing
words_noted known words given = elim (command_in words) [ None ↦ None | Some c ↦ noted known c given ]

-- what is noted of a command, beside what `run` prints for it
abbrev pub row_missing : Known → StoryRow → (given : List ℕ) → Option Missing
row_missing known row given = if_unanswered row.1 (words_noted known row.0 given)

-- the note on a command in the line of this number of a story, likewise, if there is one
unfoldable pub row_note : (story : List ℕ) → Known → ℕ → StoryRow → (given : List ℕ) → Option Note
row_note story known line row given = option_map (note_in story line) (row_missing known row given)

-- what is there behind it
unfoldable pub row_known : Known → (words given : List ℕ) → Known
row_known known words given = elim (command_in words) [ None ↦ known | Some c ↦ known_behind known c given ]

-- the notes on commands of a story, each beside what `run` prints for it, in their order
unfoldable pub rows_notes : (story : List ℕ) → Known → List (NumberedRow × List ℕ) → List Note
rows_notes story known [] = []
rows_notes story known (pair ∷ more) =
    cons_option (row_note story known pair.0.0 pair.0.1 pair.1)
    (rows_notes story (row_known known pair.0.1.0 pair.1) more)

-- whether two are the same, whatever time it is
abbrev pub is_same : Missing → Missing → Bool
is_same (Thread m) (Thread n) = m == n
is_same (Mutex m) (Mutex n) = m == n
is_same (Cond m) (Cond n) = m == n
is_same (Priority m) (Priority n) = m == n
is_same (ThreadRoom m) (ThreadRoom n) = m == n
is_same (MutexRoom m) (MutexRoom n) = m == n
is_same (CondRoom m) (CondRoom n) = m == n
is_same (Time m a) (Time n b) = m == n
is_same one other = false

-- whether a note is on this
unfoldable pub is_told : Missing → List Note → Bool
is_told missing [] = false
is_told missing (note ∷ more) = if is_same note.missing missing then true else is_told missing more

-- a note behind those that are told: each thing that is missing is told once, and there are 20 notes at most
unfoldable pub with_note : (told : List Note) → Note → List Note
with_note told note =
    if nat_lt (length told) 20 && not (is_told note.missing told) then told ++ note ∷ [] else told

-- a note behind those that are told, if there is one
abbrev pub with_found : (told : List Note) → Option Note → List Note
with_found told None = told
with_found told (Some note) = with_note told note

-- notes behind those that are told, one after the other
unfoldable pub with_notes : (told notes : List Note) → List Note
with_notes told [] = told
with_notes told (note ∷ more) = with_notes (with_note told note) more

-- the notes on these commands of a story beside the lines that `run` prints for them
unfoldable pub notes_of_rows : (story : List ℕ) → List NumberedRow → (answers : List (List ℕ)) → List Note
notes_of_rows story rows answers = with_notes [] (rows_notes story nothing_known (zip rows answers))

-- the notes on a story whose commands stand beside these lines; there are none on one that is too large
unfoldable pub notes_beside : (story : List ℕ) → (answers : List (List ℕ)) → List Note
notes_beside story answers =
    if nat_lt 16777216 (length story) then [] else notes_of_rows story (rows_of story) answers

-- the notes on a story: its commands beside the lines that `run` prints for its script
unfoldable pub story_notes : (story : List ℕ) → List Note
story_notes story = notes_beside story (lines (text_of_run (script_of story)))

-- ---- how they are told

-- what is said before the word that is missing
unfoldable pub words_before : Missing → List ℕ
words_before (Thread t) = codes "there is no thread "
words_before (Mutex m) = codes "there is no mutex "
words_before (Cond c) = codes "there is no condition variable "
words_before (Priority p) = codes "priority "
words_before (ThreadRoom n) = codes "there is no room for another "
words_before (MutexRoom n) = codes "there is no room for another "
words_before (CondRoom n) = codes "there is no room for another "
words_before (Time n now) = codes "time "

-- how many may be added
abbrev pub room_words : ℕ → List ℕ
room_words n = codes " (" ++ decimal n ++ codes " may be added)"

-- and behind it
unfoldable pub words_behind : Missing → List ℕ
words_behind (Thread t) = []
words_behind (Mutex m) = []
words_behind (Cond c) = []
words_behind (Priority p) = codes " is out of range (1 to 99)"
words_behind (ThreadRoom n) = room_words n
words_behind (MutexRoom n) = room_words n
words_behind (CondRoom n) = room_words n
words_behind (Time n now) = codes " is past (it is " ++ decimal now ++ codes ")"

-- what is said of what is missing
abbrev pub missing_text : Missing → List ℕ
missing_text m = words_before m ++ missing_word m ++ words_behind m

-- the place of a note behind the name of its file, by line and column
abbrev pub place_text : (line column : ℕ) → List ℕ
place_text line column = codes ":" ++ decimal line ++ codes ":" ++ decimal column ++ codes ": "

-- what is told of a note behind that name
unfoldable pub note_text : Note → List ℕ
note_text note = place_text note.line note.column ++ missing_text note.missing ++ codes "\n"

-- the line of a note on a file of this name
abbrev pub note_line : (name : List ℕ) → Note → List ℕ
note_line name note = name ++ note_text note

-- the lines of notes on a file of this name
abbrev pub notes_text : (name : List ℕ) → List Note → List ℕ
notes_text name notes = flat_map (note_line name) notes

-- ---- jobs with notes

-- these are the notes on a story that was read, if the job was done
abbrev pub AreNotes : (story : List ℕ) → Result (List Note) CliFault → Type 0
AreNotes story (Ok notes) = notes ≡ story_notes story
AreNotes story (Err fault) = Unit {0}

-- what is to be told of a story was, and these are the notes on it
abbrev pub TellsNoting : (List ℕ → Telling) → (before after held holds : Option (List ℕ))
    → Result (List Note) CliFault → Type 0
TellsNoting telling before after held holds result =
    (read : List ℕ) × Consumes before after read × (length read ≤ 16777217)
    × TellsOfStory telling read after held holds (as_done result) × AreNotes read result

-- the script that is left of these bytes of a story was shown
abbrev pub Shows : List ℕ → (after held holds : Option (List ℕ)) → Result (Unit {0}) CliFault → Type 0
Shows read after held holds result =
    (script : Result (List ℕ) CliFault) × LeavesScript read after script × EndsWith ShowsTo script held holds result

-- the script that is left of a story was shown, and these are the notes on it
abbrev pub ShowsNoting : (before after held holds : Option (List ℕ)) → Result (List Note) CliFault → Type 0
ShowsNoting before after held holds result =
    (read : List ℕ) × Consumes before after read × (length read ≤ 16777217)
    × Shows read after held holds (as_done result) × AreNotes read result
