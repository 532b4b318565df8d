-- The texts of commands.
use Rattle.std.specs.Prelude.{ℕ, ◌+◌, Bool, List, [], ◌∷◌, ◌++◌, Option, Some, None, IfSome, codes, decimal, if◌then◌else◌}
use Rattle.pif_types.specs.declared.requests.Kind.{Kind}
use Rattle.pif_types.specs.declared.requests.Kind.TheVariants.{Normal, ErrorCheck, Recursive}
use Rattle.pif_types.specs.declared.requests.Request.{Request}
use Rattle.pif_text_model.specs.declared.calls.Arguments.{Arguments}
use Rattle.pif_text_model.specs.declared.calls.Parameter.{Parameter}
use Rattle.pif_text_model.specs.declared.calls.Parameter.TheVariants as parameter
use Rattle.pif_text_model.specs.declared.commands.Command.{Command}
use Rattle.pif_text_model.specs.declared.commands.Command.TheVariants as command
use Rattle.pif_text_model.specs.declared.commands.Addition.{Addition}
use Rattle.pif_text_model.specs.declared.commands.Addition.TheVariants.{Thread, Mutex, Cond}
use Rattle.pif_model.specs.declared.events.Event.{Event}
use Rattle.pif_model.specs.declared.events.Event.TheVariants.{Begin, Go, End, Tick}
use Rattle.pif_text_model.specs.Calls.{arguments_of, kind_of, row_of}
use Rattle.pif_text_model.specs.Numbers.{IsName, IsNumber}
use Rattle.pif_text_model.specs.Questions.{question_text, IsQuestionWritten}
use Rattle.pif_text_model.specs.Replies.{thread_name, mutex_name, cond_name}

-- The type of a mutex, in one word.
abbrev pub kind_word : Kind → List ℕ
kind_word Normal = codes "normal"
kind_word ErrorCheck = codes "errorcheck"
kind_word Recursive = codes "recursive"

-- A mutex of this type, which is robust or not, as the command that adds it.
abbrev pub mutex_text : Kind → Bool → List ℕ
mutex_text k robust = codes "mutex " ++ kind_word k ++ (if robust then codes " robust" else [])

-- The text of a name or a number, if there is one.
abbrev pub text_if_any : (ℕ → List ℕ) → Option ℕ → List ℕ
text_if_any text None = []
text_if_any text (Some n) = text n

-- The text of the argument for a parameter.
abbrev pub argument_text : Parameter → Arguments → List ℕ
argument_text parameter.Thread a = text_if_any thread_name a.thread
argument_text parameter.Mutex a = text_if_any mutex_name a.mutex
argument_text parameter.Cond a = text_if_any cond_name a.cond
argument_text parameter.Priority a = text_if_any decimal a.priority
argument_text parameter.Deadline a = text_if_any decimal a.deadline

-- The texts of the arguments for these parameters, each behind a space.
abbrev pub arguments_text : List Parameter → Arguments → List ℕ
arguments_text [] a = []
arguments_text (p ∷ ps) a = codes " " ++ argument_text p a ++ arguments_text ps a

-- The text of a request: the word of its call, and its arguments behind it.
unfoldable pub request_text : Request → List ℕ
request_text q =
    let row = row_of (kind_of q) in
    row.name ++ arguments_text row.parameters (arguments_of q)

-- How many bytes the argument for a parameter has at most, with the space before it.
abbrev pub room_of_one : Parameter → ℕ
room_of_one parameter.Thread = 12
room_of_one parameter.Mutex = 12
room_of_one parameter.Cond = 12
room_of_one parameter.Priority = 11
room_of_one parameter.Deadline = 11

-- How many bytes the arguments for these parameters have at most, with the spaces before them.
abbrev pub room_of : List Parameter → ℕ
room_of [] = 0
room_of (p ∷ ps) = room_of_one p + room_of ps

-- The text of an addition.
unfoldable pub addition_text : Addition → List ℕ
addition_text (Thread p) = codes "thread " ++ decimal p
addition_text (Mutex k robust) = mutex_text k robust
addition_text (Cond m) = codes "cond " ++ mutex_name m

-- The text of an event.
unfoldable pub event_text : Event → List ℕ
event_text (Begin t q) = codes "begin " ++ thread_name t ++ codes " " ++ request_text q
event_text (Go t) = codes "go " ++ thread_name t
event_text (End t) = codes "end " ++ thread_name t
event_text (Tick n) = codes "tick " ++ decimal n

-- The text by which a thread goes on with a request or, with none, with what it has open.
unfoldable pub run_text : ℕ → Option Request → List ℕ
run_text t (Some q) = codes "call " ++ thread_name t ++ codes " " ++ request_text q
run_text t None = codes "finish " ++ thread_name t

-- The text of a command, without a line feed: the words by which a line asks for it, with one space between them.
unfoldable pub command_text : Command → List ℕ
command_text (command.Limits t m c s) =
    codes "limits " ++ decimal t ++ codes " " ++ decimal m ++ codes " " ++ decimal c ++ codes " " ++ decimal s
command_text (command.Add a) = addition_text a
command_text (command.Event e) = event_text e
command_text (command.Run t q) = run_text t q
command_text (command.Ask q) = question_text q

-- Arguments that a line can write.
pub record AreArgumentsWritten (a : Arguments) : Type 0 where
  pub thread : IfSome a.thread IsName
  pub mutex : IfSome a.mutex IsName
  pub cond : IfSome a.cond IsName
  pub priority : IfSome a.priority IsNumber
  pub deadline : IfSome a.deadline IsNumber

-- A request whose numbers a line can write.
abbrev pub IsRequestWritten : Request → Type 0
IsRequestWritten q = AreArgumentsWritten (arguments_of q)

-- An addition whose numbers a line can write.
abbrev pub IsAdditionWritten : Addition → Type 0
IsAdditionWritten (Thread p) = IsNumber p
IsAdditionWritten (Mutex k robust) = Unit {0}
IsAdditionWritten (Cond m) = IsName m

-- An event whose numbers a line can write.
abbrev pub IsEventWritten : Event → Type 0
IsEventWritten (Begin t q) = IsName t × IsRequestWritten q
IsEventWritten (Go t) = IsName t
IsEventWritten (End t) = IsName t
IsEventWritten (Tick n) = IsNumber n

-- A thread, and a request if there is one, whose numbers a line can write.
abbrev pub IsRunWritten : ℕ → Option Request → Type 0
IsRunWritten t (Some q) = IsName t × IsRequestWritten q
IsRunWritten t None = IsName t

-- A command whose numbers a line can write.
abbrev pub IsWritten : Command → Type 0
IsWritten (command.Limits t m c s) = IsNumber t × IsNumber m × IsNumber c × IsNumber s
IsWritten (command.Add a) = IsAdditionWritten a
IsWritten (command.Event e) = IsEventWritten e
IsWritten (command.Run t q) = IsRunWritten t q
IsWritten (command.Ask q) = IsQuestionWritten q
