-- The lines of traces.
use Rattle.std.specs.Prelude.{ℕ, ◌==◌, ◌&&◌, Bool, true, false, not, List, [], ◌∷◌, ◌++◌, drop, take, Option, Some, None, is_some, option_map, if◌then◌else◌, bytes_eq, codes, decimal}
use Rattle.pif_text_model.specs.declared.commands.Command.{Command}
use Rattle.pif_text_model.specs.declared.commands.Command.TheVariants as command
use Rattle.pif_text_model.specs.declared.replies.Reply.{Reply}
use Rattle.pif_text_model.specs.declared.replies.Reply.TheVariants as reply
use Rattle.pif_text_model.specs.declared.replies.Added.{Added}
use Rattle.pif_text_model.specs.declared.replies.Added.TheVariants as added
use Rattle.pif_model.specs.Deadlines.{deadline_of}
use Rattle.pif_model.specs.declared.events.Event.{Event}
use Rattle.pif_model.specs.declared.events.Event.TheVariants.{Begin, Tick}
use Rattle.pif_model.specs.declared.events.Seen.{Seen}
use Rattle.pif_model.specs.declared.events.Seen.TheVariants as seen
use Rattle.pif_text_model.specs.declared.traces.Version.{Version}
use Rattle.pif_text_model.specs.declared.traces.Version.TheVariants.{One, Two}
use Rattle.pif_text_model.specs.Numbers.{IsNumber}
use Rattle.pif_text_model.specs.Replies.{text_of}

-- The first line of a trace of a version.
abbrev pub header_text : Version → List ℕ
header_text One = codes "pif-trace 1"
header_text Two = codes "pif-trace 2"

-- The version of a trace that begins with this line; none if no trace begins so.
unfoldable pub version_in : List ℕ → Option Version
version_in line =
    if bytes_eq line (header_text One) then Some One
    else if bytes_eq line (header_text Two) then Some Two
    else None

-- What stands between a command and the answer to it: a space, an equals sign and a space.
abbrev pub answer_mark : List ℕ
answer_mark = codes " = "

-- Whether a line that begins with this byte, and goes on so, begins with ` = `.
abbrev pub is_marked : ℕ → List ℕ → Bool
is_marked byte more = byte == 32 && bytes_eq (codes "= ") (take 2 more)

-- A line that is cut at its first ` = `: what stands before it, and what stands behind it.
unfoldable pub parts_of : List ℕ → Option (List ℕ × List ℕ)
parts_of [] = None
parts_of (byte ∷ more) =
    if is_marked byte more then Some ([], drop 2 more)
    else option_map (λ parts. (byte ∷ parts.0, parts.1)) (parts_of more)

-- Whether an event stands in traces of version 2 alone: a tick, and the begin of a request with a deadline.
abbrev pub is_of_two : Event → Bool
is_of_two (Begin t q) = is_some (deadline_of q)
is_of_two (Tick n) = true
is_of_two e = false

-- Whether an event stands in traces of a version.
abbrev pub knows : Version → Event → Bool
knows One e = not (is_of_two e)
knows Two e = true

-- A command, if it stands in traces of a version: limits, additions and events that the version knows do.
abbrev pub if_traced : Version → Command → Option Command
if_traced v (command.Limits t m c s) = Some (command.Limits t m c s)
if_traced v (command.Add a) = Some (command.Add a)
if_traced v (command.Event e) = if knows v e then Some (command.Event e) else None
if_traced v (command.Run t q) = None
if_traced v (command.Ask q) = None

-- An answer as it stands behind its command in a line of a trace.
abbrev pub answer_text : Reply → List ℕ
answer_text reply = answer_mark ++ text_of reply

-- The text of a trace in which each answer is the recorded one, without a line feed: how many lines stand behind the
-- first.
unfoldable pub same_of : ℕ → List ℕ
same_of lines = codes "same " ++ decimal lines

-- The text of a difference at a line, without a line feed: the line's number, from 1, and what is answered there.
unfoldable pub differs_of : ℕ → Reply → List ℕ
differs_of line_number reply = codes "differs " ++ decimal line_number ++ codes " " ++ text_of reply

-- What an addition is answered, with a number that a line can write.
abbrev pub IsAddedTraced : Added → Type 0
IsAddedTraced (added.Thread t) = IsNumber t
IsAddedTraced (added.Mutex m) = IsNumber m
IsAddedTraced (added.Cond c) = IsNumber c
IsAddedTraced (added.Refused why) = Unit {0}

-- What an event is answered, with a number that a line can write.
abbrev pub IsSeenTraced : Seen → Type 0
IsSeenTraced seen.Begun = Unit {0}
IsSeenTraced seen.Went = Unit {0}
IsSeenTraced seen.Waits = Unit {0}
IsSeenTraced (seen.Answered n) = IsNumber n
IsSeenTraced seen.Ended = Unit {0}
IsSeenTraced seen.Ticked = Unit {0}
IsSeenTraced (seen.Refused why) = Unit {0}

-- An answer that stands in traces, with numbers that a line can write. That of a question doesn't.
abbrev pub IsTraced : Reply → Type 0
IsTraced reply.Done = Unit {0}
IsTraced (reply.Added a) = IsAddedTraced a
IsTraced (reply.Seen s) = IsSeenTraced s
IsTraced (reply.Told f) = ⊥
