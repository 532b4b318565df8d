-- The command of a line.
use Rattle.std.specs.Prelude.{ℕ, true, false, List, [], ◌∷◌, Option, Some, None, option_map, if◌then◌else◌, bytes_eq, codes}
use Rattle.pif_types.specs.declared.requests.Kind.{Kind}
use Rattle.pif_types.specs.declared.requests.Kind.TheVariants.{Normal, ErrorCheck, Recursive}
use Rattle.pif_types.specs.declared.requests.Request.{Request}
use Rattle.pif_text_model.specs.declared.calls.Arguments.{Arguments}
use Rattle.pif_text_model.specs.declared.calls.Parameter.{Parameter}
use Rattle.pif_text_model.specs.declared.calls.Parameter.TheVariants as parameter
use Rattle.pif_text_model.specs.declared.commands.Command.{Command}
use Rattle.pif_text_model.specs.declared.commands.Command.TheVariants.{Limits, Add, Event, Run, Ask}
use Rattle.pif_text_model.specs.declared.commands.Addition.TheVariants.{Thread, Mutex, Cond}
use Rattle.pif_model.specs.declared.events.Event.TheVariants.{Begin, Go, End, Tick}
use Rattle.pif_text_model.specs.Calls.{◌>>=◌, call_named, no_arguments, request_with, row_of}
use Rattle.pif_text_model.specs.Numbers.{number_in, thread_in, mutex_in, cond_in}
use Rattle.pif_text_model.specs.Questions.{question_in_one, question_in_two}
use Rattle.pif_text_model.specs.Words.{words}

-- The type of a mutex: `normal`, `default`, which is the same, `errorcheck` or `recursive`.
unfoldable pub kind_in : List ℕ → Option Kind
kind_in word =
    if bytes_eq word (codes "normal") then Some Normal
    else if bytes_eq word (codes "default") then Some Normal
    else if bytes_eq word (codes "errorcheck") then Some ErrorCheck
    else if bytes_eq word (codes "recursive") then Some Recursive
    else None

-- Arguments with what a word writes for a parameter: `tN`, `mN`, `cN` or a number.
unfoldable pub with_argument : Parameter → List ℕ → Arguments → Option Arguments
with_argument parameter.Thread word a = option_map (λ t. record a { thread = Some t }) (thread_in word)
with_argument parameter.Mutex word a = option_map (λ m. record a { mutex = Some m }) (mutex_in word)
with_argument parameter.Cond word a = option_map (λ c. record a { cond = Some c }) (cond_in word)
with_argument parameter.Priority word a = option_map (λ p. record a { priority = Some p }) (number_in word)
with_argument parameter.Deadline word a = option_map (λ d. record a { deadline = Some d }) (number_in word)

-- Arguments with those that words write, one word for each parameter.
unfoldable pub with_arguments : List Parameter → List (List ℕ) → Arguments → Option Arguments
with_arguments [] [] a = Some a
with_arguments [] (word ∷ more) a = None
with_arguments (p ∷ ps) [] a = None
with_arguments (p ∷ ps) (word ∷ more) a = with_argument p word a >>= (λ b. with_arguments ps more b)

-- The request that words write: the word of a call, and then a word for each of its parameters.
unfoldable pub request_in : List (List ℕ) → Option Request
request_in [] = None
request_in (name ∷ more) = do
  kind ← call_named name
  a ← with_arguments (row_of kind).parameters more no_arguments
  request_with kind a

-- A command of one word: a question.
unfoldable pub command_of_one : List ℕ → Option Command
command_of_one name = option_map Ask (question_in_one name)

-- A command of two words: `go tN`, `finish tN`, `end tN`, `tick N`, `thread P`, `mutex K`, `cond mN` or a question.
unfoldable pub command_of_two : List ℕ → List ℕ → Option Command
command_of_two name word =
    if bytes_eq name (codes "go") then option_map (λ t. Event (Go t)) (thread_in word)
    else if bytes_eq name (codes "finish") then option_map (λ t. Run t None) (thread_in word)
    else if bytes_eq name (codes "end") then option_map (λ t. Event (End t)) (thread_in word)
    else if bytes_eq name (codes "tick") then option_map (λ n. Event (Tick n)) (number_in word)
    else if bytes_eq name (codes "thread") then option_map (λ p. Add (Thread p)) (number_in word)
    else if bytes_eq name (codes "mutex") then option_map (λ kind. Add (Mutex kind false)) (kind_in word)
    else if bytes_eq name (codes "cond") then option_map (λ m. Add (Cond m)) (mutex_in word)
    else option_map Ask (question_in_two name word)

-- The command `mutex K robust`, behind its first word.
unfoldable pub robust_in : List ℕ → List (List ℕ) → Option Command
robust_in kind (last ∷ []) =
    if bytes_eq last (codes "robust") then option_map (λ k. Add (Mutex k true)) (kind_in kind) else None
robust_in kind _ = None

-- The command `limits T M C S`, for four numbers, behind its first word.
unfoldable pub limits_in : List ℕ → List (List ℕ) → Option Command
limits_in first (second ∷ third ∷ fourth ∷ []) = do
  t ← number_in first
  m ← number_in second
  c ← number_in third
  s ← number_in fourth
  Some (Limits t m c s)
limits_in first _ = None

-- A command of three words or more: `call tN Q` or `begin tN Q`, for a request Q, `limits T M C S` or `mutex K robust`.
unfoldable pub command_of_more : List ℕ → List ℕ → List (List ℕ) → Option Command
command_of_more name word more =
    if bytes_eq name (codes "call") then (do
      t ← thread_in word
      q ← request_in more
      Some (Run t (Some q)))
    else if bytes_eq name (codes "begin") then (do
      t ← thread_in word
      q ← request_in more
      Some (Event (Begin t q)))
    else if bytes_eq name (codes "limits") then limits_in word more
    else if bytes_eq name (codes "mutex") then robust_in word more
    else None

-- The command that words make, if they make one: by how many they are.
unfoldable pub command_of_words : List (List ℕ) → Option Command
command_of_words [] = None
command_of_words (a ∷ []) = command_of_one a
command_of_words (a ∷ b ∷ []) = command_of_two a b
command_of_words (a ∷ b ∷ c ∷ more) = command_of_more a b (c ∷ more)

-- The command of a line, given as its bytes without the line feed.
unfoldable pub command_in : List ℕ → Option Command
command_in line = command_of_words (words line)
