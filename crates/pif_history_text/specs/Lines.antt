-- The lines of a history: what each of them says.
use Rattle.std.specs.Prelude.{ℕ, ◌==◌, ◌-◌, nat_lt, Bool, List, [], ◌∷◌, drop, length, take, Option, Some, None, option_map, if◌then◌else◌, bytes_eq, codes}
use Rattle.std.specs.Str.Lines.{strip_carriage_return}
use Rattle.pif_types.specs.Numbers.{number_of}
use Rattle.pif_model.specs.declared.events.Event.{Event}
use Rattle.pif_model.specs.declared.events.Event.TheVariants as event
use Rattle.pif_text_model.specs.declared.commands.Command.{Command}
use Rattle.pif_text_model.specs.declared.commands.Command.TheVariants as command
use Rattle.pif_text_model.specs.declared.commands.Addition.{Addition}
use Rattle.pif_text_model.specs.declared.commands.Addition.TheVariants as addition
use Rattle.pif_text_model.specs.Calls.{◌>>=◌}
use Rattle.pif_text_model.specs.Commands.{command_in}
use Rattle.pif_text_model.specs.Errors.{error_named}
use Rattle.pif_text_model.specs.Numbers.{number_in, thread_in}
use Rattle.pif_text_model.specs.Words.{words}
use Rattle.pif_script_model.specs.Lines.{is_passed, without_mark}
use Rattle.pif_history_model.specs.declared.lines.Protocol.TheVariants.{PrioInherit, PrioNone}
use Rattle.pif_history_model.specs.declared.lines.Line.{Line}
use Rattle.pif_history_model.specs.declared.lines.Line.TheVariants as line
use Rattle.pif_history_text.specs.Allowed.{allowed_in}
use Rattle.pif_history_text.specs.declared.said.Said.{Said}
use Rattle.pif_history_text.specs.declared.said.Said.TheVariants.{Allow, Limits, Nothing, Shown}

-- What a call returned: a number as scripts write it, or else the number of the error that the word names.
unfoldable pub answer_in : List ℕ → Option ℕ
answer_in word = elim (number_in word) [ Some n ↦ Some n | None ↦ option_map number_of (error_named word) ]

-- What an event of scripts says in a history: begins, ends and ticks stand there. What a step of a thread came to is
-- not seen from outside.
abbrev pub event_said : Event → Option Said
event_said (event.Begin t q) = Some (Shown (line.Begin t q))
event_said (event.End t) = Some (Shown (line.End t))
event_said (event.Tick n) = Some (Shown (line.Tick n))
event_said (event.Go t) = None

-- What an addition says. The mutexes of scripts inherit.
abbrev pub addition_said : Addition → Said
addition_said (addition.Thread p) = Shown (line.Thread p)
addition_said (addition.Mutex k robust) = Shown (line.Mutex k robust PrioInherit)
addition_said (addition.Cond m) = Shown (line.Cond m)

-- What a command of scripts says in a history, if it stands there: limits, additions, begins, ends and ticks do.
abbrev pub command_said : Command → Option Said
command_said (command.Limits t m c s) = Some (Limits t m c s)
command_said (command.Add a) = Some (addition_said a)
command_said (command.Event e) = event_said e
command_said (command.Run t q) = None
command_said (command.Ask q) = None

-- The line of a mutex that lends nothing, if this command adds a mutex.
abbrev pub lending_nothing : Command → Option Line
lending_nothing (command.Add (addition.Mutex k robust)) = Some (line.Mutex k robust PrioNone)
lending_nothing _ = None

-- The line of a mutex that lends nothing, if a text is the command that adds a mutex.
abbrev pub none_before : List ℕ → Option Line
none_before front = command_in front >>= lending_nothing

-- A mutex of PTHREAD_PRIO_NONE: `mutex K none` or `mutex K robust none`. In front of the last word stands the command
-- that adds it to a script.
unfoldable pub none_in : List ℕ → Option Line
none_in text =
    if nat_lt (length text) 5 then None
    else if bytes_eq (drop (length text - 5) text) (codes " none")
    then none_before (take (length text - 5) text) else None

-- A line of one word: `halted` or `resumed`.
unfoldable pub line_of_one : List ℕ → Option Line
line_of_one name =
    if bytes_eq name (codes "halted") then Some line.Halted
    else if bytes_eq name (codes "resumed") then Some line.Resumed
    else None

-- A line of two words that is no command of scripts: `dying tN`, `rests tN` or `process tN`.
unfoldable pub line_of_two : List ℕ → List ℕ → Option Line
line_of_two name word =
    if bytes_eq name (codes "dying") then option_map line.Dying (thread_in word)
    else if bytes_eq name (codes "rests") then option_map line.Rests (thread_in word)
    else if bytes_eq name (codes "process") then option_map line.Process (thread_in word)
    else None

-- A line of three words that is no command of scripts: `answer tN A` or `prio tN P`.
unfoldable pub line_of_three : List ℕ → List ℕ → List ℕ → Option Line
line_of_three name first second =
    if bytes_eq name (codes "answer") then (do
      t ← thread_in first
      a ← answer_in second
      Some (line.Answer t a))
    else if bytes_eq name (codes "prio") then (do
      t ← thread_in first
      p ← number_in second
      Some (line.Prio t p))
    else None

-- The line that words make, if they make one that is no command of scripts.
unfoldable pub line_of_words : List (List ℕ) → Option Line
line_of_words (a ∷ []) = line_of_one a
line_of_words (a ∷ b ∷ []) = line_of_two a b
line_of_words (a ∷ b ∷ c ∷ []) = line_of_three a b c
line_of_words more = None

-- What words say that make no command of scripts: a line, or which rules are allowed.
abbrev pub said_by_words : List (List ℕ) → Option Said
said_by_words ws = elim (line_of_words ws) [ Some l ↦ Some (Shown l) | None ↦ option_map Allow (allowed_in ws) ]

-- What a text says that is no command of scripts: what its words say, or else a mutex of PTHREAD_PRIO_NONE.
abbrev pub said_by_text : List ℕ → Option Said
said_by_text text = elim (said_by_words (words text)) [ Some said ↦ Some said | None ↦ option_map Shown (none_in text) ]

-- What the text of a line says, if it is no fault: an empty line and a comment say nothing.
unfoldable pub said_in : List ℕ → Option Said
said_in text =
    if is_passed text then Some Nothing
    else elim (command_in text) [ Some c ↦ command_said c | None ↦ said_by_text text ]

-- ---- the threads of a process

-- What words say after `process`, if there are two or more: a line of one thread is a line of two words.
unfoldable pub several_in : List (List ℕ) → Option (List (List ℕ))
several_in (name ∷ first ∷ second ∷ more) = if bytes_eq name (codes "process") then Some (first ∷ second ∷ more) else None
several_in fewer = None

-- The threads that words name, if each names one.
abbrev pub threads_in : List (List ℕ) → Option (List ℕ)
threads_in [] = Some []
threads_in (word ∷ more) = do
  t ← thread_in word
  ts ← threads_in more
  Some (t ∷ ts)

-- ---- the text of a line

-- A line is passed over a byte order mark at the front of the history, and over a CR at its own end.
unfoldable pub text_of_line : (number : ℕ) → List ℕ → List ℕ
text_of_line number bytes =
    if number == 1 then without_mark (strip_carriage_return bytes) else strip_carriage_return bytes

-- A line has at most 120 bytes of text.
abbrev pub is_long : (number : ℕ) → List ℕ → Bool
is_long number bytes = nat_lt 120 (length (text_of_line number bytes))
