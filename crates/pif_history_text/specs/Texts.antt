-- The texts of lines.
use Rattle.std.specs.Prelude.{ℕ, List, [], ◌++◌, codes, decimal}
use Rattle.pif_model.specs.declared.events.Event.TheVariants as event
use Rattle.pif_text_model.specs.declared.commands.Command.TheVariants as command
use Rattle.pif_text_model.specs.declared.commands.Addition.TheVariants as addition
use Rattle.pif_text_model.specs.CommandTexts.{IsRequestWritten, command_text, mutex_text}
use Rattle.pif_text_model.specs.Numbers.{IsName, IsNumber}
use Rattle.pif_text_model.specs.Replies.{thread_name}
use Rattle.pif_history_model.specs.declared.lines.Protocol.{Protocol}
use Rattle.pif_history_model.specs.declared.lines.Protocol.TheVariants.{PrioInherit, PrioNone}
use Rattle.pif_history_model.specs.declared.lines.Line.{Line}
use Rattle.pif_history_model.specs.declared.lines.Line.TheVariants.{Thread, Mutex, Cond, Begin, Answer, Dying, End, Tick, Rests, Prio, Process, Halted, Resumed, Asks}

-- What stands after the kind of a mutex, and whether it is robust, for its protocol.
abbrev pub protocol_text : Protocol → List ℕ
protocol_text PrioInherit = []
protocol_text PrioNone = codes " none"

-- The text of a line, without a line feed: the words that say it, with one space between them. No history has the last.
unfoldable pub line_text : Line → List ℕ
line_text (Thread p) = command_text (command.Add (addition.Thread p))
line_text (Mutex k robust p) = mutex_text k robust ++ protocol_text p
line_text (Cond m) = command_text (command.Add (addition.Cond m))
line_text (Begin t q) = command_text (command.Event (event.Begin t q))
line_text (End t) = command_text (command.Event (event.End t))
line_text (Tick n) = command_text (command.Event (event.Tick n))
line_text (Answer t a) = codes "answer " ++ thread_name t ++ (codes " " ++ decimal a)
line_text (Dying t) = codes "dying " ++ thread_name t
line_text (Rests t) = codes "rests " ++ thread_name t
line_text (Prio t p) = codes "prio " ++ thread_name t ++ (codes " " ++ decimal p)
line_text (Process t) = codes "process " ++ thread_name t
line_text Halted = codes "halted"
line_text Resumed = codes "resumed"
line_text (Asks f b) = codes "asks"

-- A line whose numbers a text can write.
abbrev pub IsLineWritten : Line → Type 0
IsLineWritten (Thread p) = IsNumber p
IsLineWritten (Mutex k robust p) = Unit {0}
IsLineWritten (Cond m) = IsName m
IsLineWritten (Begin t q) = IsName t × IsRequestWritten q
IsLineWritten (End t) = IsName t
IsLineWritten (Tick n) = IsNumber n
IsLineWritten (Answer t a) = IsName t × IsNumber a
IsLineWritten (Dying t) = IsName t
IsLineWritten (Rests t) = IsName t
IsLineWritten (Prio t p) = IsName t × IsNumber p
IsLineWritten (Process t) = IsName t
IsLineWritten Halted = Unit {0}
IsLineWritten Resumed = Unit {0}
IsLineWritten (Asks f b) = ⊥
