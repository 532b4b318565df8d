-- What there is behind a command, as objects of JSON. Each is a function of what a core's readers answer.
use Rattle.std.specs.Prelude.{ℕ, zero, suc, List, [], ◌++◌, Option, Some, None, codes, decimal, filter, option_and_then, option_map}
use Rattle.pif_model.specs.declared.events.Seen.{Seen}
use Rattle.pif_model.specs.declared.events.Seen.TheVariants as seen
use Rattle.pif_model.specs.declared.events.Order.TheVariants as order
use Rattle.pif_model.specs.declared.lines.Status.{Status}
use Rattle.pif_model.specs.declared.lines.Status.TheVariants.{Ready, Queued, Parked, Stopped, Ended}
use Rattle.pif_model.specs.Table.{Table}
use Rattle.pif_model.specs.Calls.{base_answer, bound_answer, cond_word_answer, effective_answer, health_answer, kind_answer, open_call_answer, owner_answer, status_answer, threads_answer, word_answer}
use Rattle.pif_text_model.specs.declared.replies.Reply.{Reply}
use Rattle.pif_text_model.specs.declared.replies.Reply.TheVariants as reply
use Rattle.pif_text_model.specs.CommandTexts.{kind_word, request_text}
use Rattle.pif_text_model.specs.Errors.{errno_name, error_of}
use Rattle.pif_text_model.specs.Replies.{health_text, text_of}
use Rattle.pif_story.specs.Names.{name_of}
use Rattle.pif_text_core.specs.Waiting.{awaited, blocker, has, mutexes_added, order_in, owner_of}
use Rattle.pif_text.specs.Json.{bool_text, name_or_null, name_text, names_array, number_or_null, numbers, or_null, quoted}

-- ---- answers

-- the name of the error that has this number, if one has it
abbrev pub error_name : ℕ → Option (List ℕ)
error_name number = option_map errno_name (error_of number)

-- the answer of a call, with the name of the error if it is one
abbrev pub called_object : ℕ → List ℕ
called_object number =
    codes "{\"answer\":" ++ decimal number ++ codes ",\"error\":" ++ or_null quoted (error_name number) ++ codes "}"

-- what `run` prints
abbrev pub text_object : List ℕ → List ℕ
text_object text = codes "{\"text\":" ++ quoted text ++ codes "}"

-- what an event was answered
abbrev pub seen_object : Seen → List ℕ
seen_object (seen.Answered number) = called_object number
seen_object other = text_object (text_of (reply.Seen other))

-- what a command was answered: the answer of a call, or what `run` prints
unfoldable pub answer_object : Reply → List ℕ
answer_object (reply.Seen s) = seen_object s
answer_object other = text_object (text_of other)

-- ---- threads

-- what a thread does, in one word
abbrev pub state_word : Status → List ℕ
state_word (Ready woken) = codes "ready"
state_word (Queued m) = codes "waits"
state_word (Parked c) = codes "parked"
state_word Stopped = codes "stopped"
state_word Ended = codes "ended"

-- the condition variable on which it is parked
abbrev pub cond_by : Status → Option ℕ
cond_by (Ready woken) = None
cond_by (Queued m) = None
cond_by (Parked c) = Some c
cond_by Stopped = None
cond_by Ended = None

-- what a thread does, and for what it waits
unfoldable pub doing_members : ℕ → Table → List ℕ
doing_members t s =
    codes ",\"state\":" ++ or_null (λ x. quoted (state_word x)) (status_answer t s) ++ codes ",\"waits_for\":"
    ++ name_or_null 109 (awaited t s) ++ codes ",\"parked_on\":"
    ++ name_or_null 99 (option_and_then cond_by (status_answer t s))

-- the priority at which it runs, and its own
unfoldable pub priority_members : ℕ → Table → List ℕ
priority_members t s =
    codes ",\"priority\":" ++ number_or_null (effective_answer t s) ++ codes ",\"base\":"
    ++ number_or_null (base_answer t s)

-- the call that it has open, as in a script
unfoldable pub call_member : ℕ → Table → List ℕ
call_member t s = codes ",\"call\":" ++ or_null (λ q. quoted (request_text q)) (open_call_answer t s)

-- the mutexes that it holds
unfoldable pub holds_member : ℕ → Table → List ℕ
holds_member t s = codes ",\"holds\":" ++ names_array 109 (filter (has t s) (numbers (mutexes_added s)))

-- a thread, with the name that these comments give it
unfoldable pub thread_object : (names : List ℕ) → Table → ℕ → List ℕ
thread_object names s t =
    codes "{\"name\":" ++ name_text 116 t ++ codes ",\"label\":" ++ or_null quoted (name_of names t) ++ doing_members t s ++ priority_members t s ++ call_member t s
    ++ holds_member t s ++ codes "}"

-- ---- mutexes

-- the kind of a mutex, and whether it is robust
unfoldable pub kind_members : ℕ → Table → List ℕ
kind_members m s =
    codes ",\"kind\":" ++ or_null (λ k. quoted (kind_word k.0)) (kind_answer m s) ++ codes ",\"robust\":"
    ++ or_null (λ k. bool_text k.1) (kind_answer m s)

-- its health word, and its word
unfoldable pub word_members : ℕ → Table → List ℕ
word_members m s =
    codes ",\"health\":" ++ or_null (λ h. quoted (health_text h)) (health_answer m s) ++ codes ",\"word\":"
    ++ number_or_null (word_answer m s)

-- how often an owner holds a mutex
abbrev pub times : Option (ℕ × ℕ) → ℕ
times None = 0
times (Some owner) = owner.1

-- the owner, and how often it holds the mutex
unfoldable pub owner_members : ℕ → Table → List ℕ
owner_members m s =
    codes ",\"owner\":" ++ name_or_null 116 (owner_of m s) ++ codes ",\"count\":"
    ++ decimal (times (owner_answer m s))

-- a mutex
unfoldable pub mutex_object : Table → ℕ → List ℕ
mutex_object s m =
    codes "{\"name\":" ++ name_text 109 m ++ kind_members m s ++ word_members m s ++ owner_members m s
    ++ codes ",\"waiters\":" ++ names_array 116 (order_in (order.Waiters m) s) ++ codes "}"

-- ---- condition variables

-- a condition variable
unfoldable pub cond_object : Table → ℕ → List ℕ
cond_object s c =
    codes "{\"name\":" ++ name_text 99 c ++ codes ",\"mutex\":" ++ name_or_null 109 (bound_answer c s)
    ++ codes ",\"uses\":" ++ number_or_null (cond_word_answer c s) ++ codes ",\"parked\":"
    ++ names_array 116 (order_in (order.Parked c) s) ++ codes "}"

-- ---- chains of waiting

-- what stands behind a thread, if it waits for a mutex: that
abbrev pub mutex_link : Option ℕ → List ℕ
mutex_link None = []
mutex_link (Some m) = codes "," ++ name_text 109 m

-- the threads and the mutexes for which they wait by turns, from a thread on, with so many threads behind it at most
unfoldable pub chain_from : ℕ → Table → ℕ → List ℕ
chain_from zero s t = name_text 116 t
chain_from (suc more) s t =
    name_text 116 t ++ mutex_link (awaited t s)
    ++ elim (blocker t s) [ None ↦ [] | Some owner ↦ codes "," ++ chain_from more s owner ]

-- a chain: each thread comes once, so no more are behind the first than were added
abbrev pub chain_array : Table → ℕ → List ℕ
chain_array s t = codes "[" ++ chain_from (threads_answer s) s t ++ codes "]"
