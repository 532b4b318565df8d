-- What a mistake of the log names or asks for that isn't there. It is what is noted of a command of a script that names or
-- asks for the same.
use Rattle.std.specs.Prelude.{ℕ, List, [], ◌∷◌, ◌++◌, Option, Some, None, option_map, codes}
use Rattle.pif_model.specs.declared.events.Event.TheVariants as event
use Rattle.pif_text_model.specs.declared.commands.Command.{Command}
use Rattle.pif_text_model.specs.declared.commands.Command.TheVariants as command
use Rattle.pif_text_model.specs.declared.commands.Addition.TheVariants as addition
use Rattle.pif_history_model.specs.declared.lines.Line.{Line}
use Rattle.pif_history_model.specs.declared.lines.Line.TheVariants.{Thread, Mutex, Cond, Begin, Answer, Dying, End, Tick, Rests, Prio, Process, Halted, Resumed, Asks}
use Rattle.pif_history_model.specs.declared.refusals.LineRefusal.{LineRefusal}
use Rattle.pif_history_text.specs.Texts.{line_text}
use Rattle.pif_history_text.specs.Verdicts.{line_refusal_word}
use Rattle.pif_story.specs.declared.missing.Known.{Known}
use Rattle.pif_story.specs.declared.missing.Missing.{Missing}
use Rattle.pif_story.specs.declared.missing.Note.{Note}
use Rattle.pif_story.specs.Notes.{known_behind as known_behind_command, note_at, noted, nothing_known}

-- The command that adds the same as a line, or names it. A line that only names a thread is like its end.
abbrev pub command_of : Line → Option Command
command_of (Thread p) = Some (command.Add (addition.Thread p))
command_of (Mutex k robust p) = Some (command.Add (addition.Mutex k robust))
command_of (Cond m) = Some (command.Add (addition.Cond m))
command_of (Begin t q) = Some (command.Event (event.Begin t q))
command_of (Tick n) = Some (command.Event (event.Tick n))
command_of (Answer t a) = Some (command.Event (event.End t))
command_of (Prio t p) = Some (command.Event (event.End t))
command_of (Dying t) = Some (command.Event (event.End t))
command_of (End t) = Some (command.Event (event.End t))
command_of (Rests t) = Some (command.Event (event.End t))
command_of (Process t) = Some (command.Event (event.End t))
command_of Halted = None
command_of Resumed = None
command_of (Asks f b) = None

-- What is there behind a line, if this is there before it; and behind lines, oldest first.
abbrev pub known_after : Known → Line → Known
known_after known line = elim (command_of line) [ None ↦ known | Some c ↦ known_behind_command known c [] ]

abbrev pub known_from : Known → List Line → Known
known_from known [] = known
known_from known (line ∷ more) = known_from (known_after known line) more

abbrev pub known_behind : List Line → Known
known_behind lines = known_from nothing_known lines

-- What a line that is refused for this reason behind these lines names or asks for that isn't there, if that is why.
abbrev pub missing_in : (before : List Line) → Line → LineRefusal → Option Missing
missing_in before line why =
    elim (command_of line) [ None ↦ None | Some c ↦ noted (known_behind before) c (codes "refused " ++ line_refusal_word why) ]

-- The text of a line, in which a column is told. A line that tells of a process may name several threads.
abbrev pub told_text : Line → List ℕ
told_text (Process t) = []
told_text line = line_text line

-- The note on it, in the line of this number.
abbrev pub note_on : (before : List Line) → (number : ℕ) → Line → LineRefusal → Option Note
note_on before number line why = option_map (note_at number (told_text line)) (missing_in before line why)
