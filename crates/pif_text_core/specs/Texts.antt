-- What a core does, as text for a person: a function of what its readers answer.
use Rattle.std.specs.Prelude.{ℕ, ◌-◌, ◌==◌, nat_lt, zero, suc, Bool, true, false, List, [], ◌∷◌, ◌++◌, Option, Some, None, codes, decimal, filter, flat_map, get_or, is_none, map, option_map, unwrap_or, if◌then◌else◌}
use Rattle.pif_types.specs.declared.requests.Health.{Health}
use Rattle.pif_types.specs.declared.requests.Health.TheVariants.{Fine, Inconsistent, Unusable}
use Rattle.pif_types.specs.declared.requests.Kind.{Kind}
use Rattle.pif_types.specs.declared.requests.Request.{Request}
use Rattle.pif_model.specs.declared.events.Order.TheVariants as order
use Rattle.pif_model.specs.declared.lines.Status.{Status}
use Rattle.pif_model.specs.declared.lines.Status.TheVariants.{Ready, Queued, Parked, Stopped, Ended}
use Rattle.pif_model.specs.Word.{Word, word_of}
use Rattle.pif_model.specs.Table.{Table}
use Rattle.pif_model.specs.Calls.{base_answer, bound_answer, cond_word_answer, effective_answer, health_answer, kind_answer, open_call_answer, owner_answer, pick_answer, status_answer, threads_answer, word_answer}
use Rattle.pif_text_model.specs.CommandTexts.{kind_word, request_text}
use Rattle.pif_text_model.specs.Replies.{cond_name, health_text, mutex_name, thread_name}
use Rattle.pif_text.specs.Json.{numbers}
use Rattle.pif_text_core.specs.Waiting.{awaited, begins_chain, conds_added, has, mutexes_added, order_in, owner_of}
use Rattle.pif_text_core.specs.declared.parts.Holder.{Holder}

-- ---- pieces

-- the text of a value, if there is one
abbrev pub if_some : {A : Type 0} → (A → List ℕ) → Option A → List ℕ
if_some text None = []
if_some text (Some x) = text x

-- what stands before a text of a list: the head before the first one, and a comma before each other
abbrev pub front_of : (head : List ℕ) → (is_first : Bool) → List ℕ
front_of head true = head
front_of head false = codes ", "

-- texts behind a head, with a comma between them; nothing if there is none
abbrev pub listed : (head : List ℕ) → List (List ℕ) → List ℕ
listed head [] = []
listed head (text ∷ texts) = head ++ text ++ flat_map (λ x. codes ", " ++ x) texts

-- ---- names for a person

-- the name of a thread in a list, in which that of t1 is the first; empty if it has none
abbrev pub name_in : (names : List (List ℕ)) → ℕ → List ℕ
name_in names t = get_or names (t - 1) []

-- a name, behind what it is the name of
abbrev pub label_text : (name : List ℕ) → List ℕ
label_text [] = []
label_text (byte ∷ bytes) = codes " " ++ byte ∷ bytes

-- a thread as commands name it, with its name behind it if it has one
abbrev pub person_text : (names : List (List ℕ)) → ℕ → List ℕ
person_text names t = thread_name t ++ label_text (name_in names t)

-- ---- holders

-- who holds a mutex, if anybody does, and whether that one has ended
abbrev pub holder_of : ℕ → Table → Option Holder
holder_of m s =
    option_map (λ owner. record { owner = owner; has_ended = is_none (base_answer owner s) }) (owner_of m s)

-- a holder, marked if it has ended
abbrev pub holder_text : (names : List (List ℕ)) → Holder → List ℕ
holder_text names h = person_text names h.owner ++ (if h.has_ended then codes " (ended)" else [])

-- ---- threads

-- the own priority of a thread, if it runs at another one
abbrev pub base_text : (effective base : ℕ) → List ℕ
base_text effective base = if base == effective then [] else codes " (base " ++ decimal base ++ codes ")"

-- the priority at which a living thread runs, and its own
abbrev pub priority_by : Option ℕ → Option ℕ → List ℕ
priority_by None base = []
priority_by (Some effective) None = []
priority_by (Some effective) (Some base) =
    codes "priority " ++ decimal effective ++ base_text effective base ++ codes "; "

-- what a thread of this status does
abbrev pub status_text : (names : List (List ℕ)) → Table → Status → List ℕ
status_text names s (Ready woken) = codes "ready"
status_text names s (Queued m) =
    codes "waits for " ++ mutex_name m ++ if_some (λ h. codes ", held by " ++ holder_text names h) (holder_of m s)
status_text names s (Parked c) =
    codes "parked on " ++ cond_name c ++ if_some (λ m. codes " for " ++ mutex_name m) (bound_answer c s)
status_text names s Stopped = codes "stopped for good"
status_text names s Ended = codes "ended"

-- a call that is open, as in a script
abbrev pub call_text : Request → List ℕ
call_text q = codes "; in " ++ request_text q

-- how often a mutex is held that is held more than once
abbrev pub times_text : (before behind : List ℕ) → ℕ → List ℕ
times_text before behind count = if nat_lt 1 count then before ++ decimal count ++ behind else []

-- a mutex that a thread holds so often
abbrev pub holding_text : ℕ → ℕ → List ℕ
holding_text m count = mutex_name m ++ times_text (codes " (") (codes " times)") count

-- a mutex that a thread holds
abbrev pub held_name : Table → ℕ → List ℕ
held_name s m = if_some (λ owner. holding_text m owner.1) (owner_answer m s)

-- how often a thread holds a mutex that has this owner, if it holds it
abbrev pub held_times : ℕ → Option (ℕ × ℕ) → Option ℕ
held_times t None = None
held_times t (Some owner) = if owner.0 == t then Some owner.1 else None

-- those of the first so many mutexes that a thread holds
unfoldable pub held_text : ℕ → Table → ℕ → List ℕ
held_text t s count = listed (codes "; holds ") (map (held_name s) (filter (has t s) (numbers count)))

-- the line of a thread
unfoldable pub thread_line : (names : List (List ℕ)) → Table → ℕ → List ℕ
thread_line names s t =
    codes "  " ++ person_text names t ++ codes ": " ++ priority_by (effective_answer t s) (base_answer t s)
    ++ if_some (status_text names s) (status_answer t s) ++ if_some call_text (open_call_answer t s)
    ++ held_text t s (mutexes_added s) ++ codes "\n"

-- ---- orders

-- threads behind a head
abbrev pub threads_text : (names : List (List ℕ)) → (head : List ℕ) → List ℕ → List ℕ
threads_text names head threads = listed head (map (person_text names) threads)

-- ---- mutexes

-- the state of a robust mutex, of which this is the health word, by whether OWNER_DIED is set: once its owner has ended
-- it is inconsistent, though the health word is written only when a thread takes the mutex over
abbrev pub state_by : Health → (died : Bool) → Health
state_by Fine died = if died then Inconsistent else Fine
state_by Inconsistent died = Inconsistent
state_by Unusable died = Unusable

-- whether the health word lags behind it
abbrev pub lags : Health → (died : Bool) → Bool
lags Fine died = died
lags Inconsistent died = false
lags Unusable died = false

-- what the health word says that lags
abbrev pub lag_text : (is_behind : Bool) → Health → List ℕ
lag_text is_behind health =
    if is_behind then codes " (health word: " ++ health_text health ++ codes ")" else []

-- the state, and what the health word says if that is something else
abbrev pub health_part : Health → (died : Bool) → List ℕ
health_part health died =
    codes ", robust, " ++ health_text (state_by health died)
    ++ lag_text (lags health died) health

-- the type of a mutex, and its state if it is robust
abbrev pub kind_by : Health → (died : Bool) → Kind × Bool → List ℕ
kind_by health died kind =
    codes ": " ++ kind_word kind.0 ++ (if kind.1 then health_part health died else [])

-- what stands before the word: behind a state that the health word lags behind, it has a line of its own
abbrev pub word_front : Bool → List ℕ
word_front alone = if alone then codes "\n      word " else codes "; word "

-- whether it has
abbrev pub has_own_line : Health → (died : Bool) → Option (Kind × Bool) → Bool
has_own_line health died None = false
has_own_line health died (Some kind) = if kind.1 then lags health died else false

-- the parts of a word
abbrev pub word_text : Word → List ℕ
word_text w =
    (if w.number == 0 then decimal 0 else thread_name w.number) ++ (if w.waiters then codes " + WAITERS" else [])
    ++ (if w.died then codes " + OWNER_DIED" else [])

-- the owner of a mutex, and how often it holds the mutex
abbrev pub owner_text : (names : List (List ℕ)) → ℕ → Table → List ℕ
owner_text names m s =
    if_some (λ h. codes "; owner " ++ holder_text names h) (holder_of m s)
    ++ if_some (λ owner. times_text (codes ", ") (codes " times") owner.1) (owner_answer m s)

-- the word of a mutex; 0 if there is none
abbrev pub word_in : ℕ → Table → Word
word_in m s = word_of (unwrap_or (word_answer m s) 0)

-- its health word
abbrev pub health_at : ℕ → Table → Health
health_at m s = unwrap_or (health_answer m s) Fine

-- the line of a mutex, or two if its health word lags behind its state
unfoldable pub mutex_line : (names : List (List ℕ)) → Table → ℕ → List ℕ
mutex_line names s m =
    codes "  " ++ mutex_name m ++ if_some (kind_by (health_at m s) (word_in m s).died) (kind_answer m s)
    ++ word_front (has_own_line (health_at m s) (word_in m s).died (kind_answer m s)) ++ word_text (word_in m s)
    ++ owner_text names m s ++ threads_text names (codes "; waiters ") (order_in (order.Waiters m) s) ++ codes "\n"

-- ---- condition variables

-- the line of a condition variable
unfoldable pub cond_line : (names : List (List ℕ)) → Table → ℕ → List ℕ
cond_line names s c =
    codes "  " ++ cond_name c ++ if_some (λ m. codes ": for " ++ mutex_name m) (bound_answer c s)
    ++ (codes "; uses " ++ decimal (unwrap_or (cond_word_answer c s) 0)) ++ threads_text names (codes "; parked ") (order_in (order.Parked c) s)
    ++ codes "\n"

-- ---- the run queue

-- a line if there is a value, else another text
abbrev pub line_if : {A : Type 0} → (empty line : List ℕ) → Option A → List ℕ
line_if empty line None = empty
line_if empty line (Some x) = line

-- the line of the run queue, or this text if no thread is ready
abbrev pub ready_line : (names : List (List ℕ)) → (empty : List ℕ) → Table → List ℕ
ready_line names empty s =
    line_if empty (threads_text names (codes "  run queue: ") (order_in order.Ready s) ++ codes "\n") (pick_answer s)

-- ---- chains of waiting

-- the mutexes for which threads wait, and who holds each, from a thread on that waits, at most so many
unfoldable pub links_text : (names : List (List ℕ)) → ℕ → Table → ℕ → List ℕ
links_text names zero s t = []
links_text names (suc more) s t =
    if_some (λ m. codes " -> " ++ mutex_name m
    ++ if_some (λ h. codes " -> " ++ holder_text names h ++ links_text names more s h.owner) (holder_of m s)) (awaited t s)

-- the chain that begins with a thread: each thread comes once, so no more are behind the first than were added
unfoldable pub chain_line : (names : List (List ℕ)) → Table → ℕ → List ℕ
chain_line names s t = codes "  chain: " ++ person_text names t ++ links_text names (threads_answer s) s t ++ codes "\n"

-- the line of a chain that begins with a thread
abbrev pub chain_line_at : (names : List (List ℕ)) → Table → ℕ → List ℕ
chain_line_at names s t = if begins_chain s t then chain_line names s t else []

-- ---- the whole

-- the time of a core from before, 0 if there is none
abbrev pub time_before : Option Table → ℕ
time_before None = 0
time_before (Some before) = before.time

-- the line of the time, if it is later
abbrev pub time_line : (before now : ℕ) → List ℕ
time_line before now = if nat_lt before now then codes "  time " ++ decimal now ++ codes "\n" else []

-- the text of what a core does
unfoldable pub state_text : (names : List (List ℕ)) → Table → List ℕ
state_text names s =
    time_line 0 s.time ++ flat_map (thread_line names s) (numbers (threads_answer s))
    ++ flat_map (mutex_line names s) (numbers (mutexes_added s)) ++ flat_map (cond_line names s) (numbers (conds_added s))
    ++ ready_line names [] s ++ flat_map (chain_line_at names s) (numbers (threads_answer s)) ++ codes "\n"
