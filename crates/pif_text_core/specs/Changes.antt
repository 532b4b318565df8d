-- What has changed between two cores, as text for a person: of the lines of what a core does, those that were not there
-- before. What stays is a function of what the readers of both cores answer.
use Rattle.std.specs.Prelude.{ℕ, ◌==◌, nat_eq, zero, suc, Bool, true, false, not, ◌&&◌, List, [], ◌++◌, Option, Some, None, codes, flat_map, is_some, option_and_then, option_map, take, if◌then◌else◌}
use Rattle.std.specs.Bool.{beq}
use Rattle.std.specs.Cmp.Lexicographic.{pointwise}
use Rattle.std.specs.List.{list_any}
use Rattle.std.specs.Option.{option_eq}
use Rattle.pif_types.specs.declared.requests.Health.{Health}
use Rattle.pif_types.specs.declared.requests.Kind.{Kind}
use Rattle.pif_types.specs.declared.requests.Request.{Request}
use Rattle.pif_types.specs.contracts.requests.HealthPartialEq.TheImpl as health_eq
use Rattle.pif_types.specs.contracts.requests.KindPartialEq.TheImpl as kind_eq
use Rattle.pif_types.specs.contracts.requests.RequestPartialEq.TheImpl as request_eq
use Rattle.pif_model.specs.declared.events.Order.{Order}
use Rattle.pif_model.specs.declared.events.Order.TheVariants as order
use Rattle.pif_model.specs.declared.lines.Status.{Status}
use Rattle.pif_model.specs.declared.lines.Status.TheVariants.{Ready, Queued, Parked, Stopped, Ended}
use Rattle.pif_model.specs.declared.lines.Woken.TheVariants.{Fresh}
use Rattle.pif_model.specs.contracts.lines.StatusPartialEq.TheImpl as status_eq
use Rattle.pif_model.specs.Table.{Table}
use Rattle.pif_model.specs.Calls.{base_answer, cond_word_answer, effective_answer, health_answer, kind_answer, open_call_answer, owner_answer, status_answer, threads_answer, word_answer}
use Rattle.pif_text.specs.Json.{numbers}
use Rattle.pif_text_core.specs.Waiting.{all_in, awaited, begins_chain, conds_added, mutexes_added}
use Rattle.pif_text_core.specs.declared.parts.Holder.{Holder}
use Rattle.pif_text_core.specs.Texts.{chain_line_at, cond_line, held_times, holder_of, mutex_line, ready_line, state_text, thread_line, time_before, time_line}

-- ---- what is the same

-- whether two requests are the same, as `==` says
abbrev pub is_same_request : Request → Request → Bool
is_same_request = (request_eq.ghosts).eq

-- whether two statuses are
abbrev pub is_same_status : Status → Status → Bool
is_same_status = (status_eq.ghosts).eq

-- whether two kinds are, and whether both mutexes are robust or neither is
abbrev pub is_same_kind : Kind × Bool → Kind × Bool → Bool
is_same_kind a b = (kind_eq.ghosts).eq a.0 b.0 && beq a.1 b.1

-- whether two health words are
abbrev pub is_same_health : Health → Health → Bool
is_same_health = (health_eq.ghosts).eq

-- whether two owners are, and hold as often
abbrev pub is_same_owner : ℕ × ℕ → ℕ × ℕ → Bool
is_same_owner a b = (a.0 == b.0) && (a.1 == b.1)

-- whether two holders are, and have both ended or neither has
abbrev pub is_same_holder : Holder → Holder → Bool
is_same_holder a b = (a.owner == b.owner) && beq a.has_ended b.has_ended

-- ---- orders

-- whether the same threads stand in an order as before, each at its place; no more are told than were added
abbrev pub order_stays : Order → (before now : Table) → Bool
order_stays o before now =
    pointwise nat_eq (take (threads_answer now) (all_in o before)) (take (threads_answer now) (all_in o now))

-- ---- threads

-- whether a thread has the same priorities as before, its own and that at which it runs
abbrev pub priorities_stay : ℕ → (before now : Table) → Bool
priorities_stay t before now =
    option_eq nat_eq (effective_answer t before) (effective_answer t now)
    && option_eq nat_eq (base_answer t before) (base_answer t now)

-- what a thread of this status does, whatever woke it if it is ready
abbrev pub doing_by : Status → Status
doing_by (Ready woken) = Ready Fresh
doing_by (Queued m) = Queued m
doing_by (Parked c) = Parked c
doing_by Stopped = Stopped
doing_by Ended = Ended

-- what a thread does, whatever woke it
abbrev pub doing : ℕ → Table → Option Status
doing t s = option_map doing_by (status_answer t s)

-- who holds the mutex for which a thread waits
abbrev pub awaited_holder : ℕ → Table → Option Holder
awaited_holder t s = option_and_then (λ m. holder_of m s) (awaited t s)

-- whether a thread does the same as before, in the same call, and waits for the same holder
abbrev pub doing_stays : ℕ → (before now : Table) → Bool
doing_stays t before now =
    option_eq is_same_status (doing t before) (doing t now)
    && option_eq is_same_request (open_call_answer t before) (open_call_answer t now)
    && option_eq is_same_holder (awaited_holder t before) (awaited_holder t now)

-- whether a thread holds a mutex that it did not hold before, or the other way round, or holds it not as often
abbrev pub hold_changes : ℕ → (before now : Table) → ℕ → Bool
hold_changes t before now m =
    not (option_eq nat_eq (held_times t (owner_answer m before)) (held_times t (owner_answer m now)))

-- whether there is no such mutex
unfoldable pub holds_stay : ℕ → (before now : Table) → Bool
holds_stay t before now = not (list_any (hold_changes t before now) (numbers (mutexes_added now)))

-- whether the line of a thread was there before
abbrev pub thread_stays : (before now : Table) → ℕ → Bool
thread_stays before now t = priorities_stay t before now && doing_stays t before now && holds_stay t before now

-- ---- mutexes

-- whether the line of a mutex was there before: that of the same kind, word and health word, of an owner who holds it
-- as often, and lives or has ended as before, and of the same waiters
abbrev pub mutex_stays : (before now : Table) → ℕ → Bool
mutex_stays before now m =
    option_eq is_same_kind (kind_answer m before) (kind_answer m now)
    && option_eq nat_eq (word_answer m before) (word_answer m now)
    && option_eq is_same_health (health_answer m before) (health_answer m now)
    && option_eq is_same_owner (owner_answer m before) (owner_answer m now)
    && option_eq is_same_holder (holder_of m before) (holder_of m now) && order_stays (order.Waiters m) before now

-- ---- condition variables

-- whether the line of a condition variable was there before: that of as many uses, and of the same parked threads
abbrev pub cond_stays : (before now : Table) → ℕ → Bool
cond_stays before now c =
    option_eq nat_eq (cond_word_answer c before) (cond_word_answer c now) && order_stays (order.Parked c) before now

-- ---- chains of waiting

-- whether a thread waits for the same mutex as before, with the same holder
abbrev pub link_stays : (before now : Table) → ℕ → Bool
link_stays before now t =
    option_eq nat_eq (awaited t before) (awaited t now)
    && option_eq is_same_holder (awaited_holder t before) (awaited_holder t now)

-- a test of a value, met if there is none
abbrev pub met_or_none : {A : Type 0} → (A → Bool) → Option A → Bool
met_or_none test None = true
met_or_none test (Some x) = test x

-- whether the links behind a thread are those from before, from one holder to the next, at most so many
unfoldable pub links_stay : ℕ → (before now : Table) → ℕ → Bool
links_stay zero before now t = true
links_stay (suc more) before now t =
    link_stays before now t && met_or_none (λ h. links_stay more before now h.owner) (awaited_holder t now)

-- whether the line of the chain that begins with a thread was there before
abbrev pub chain_stays : (before now : Table) → ℕ → Bool
chain_stays before now t = begins_chain before t && links_stay (threads_answer now) before now t

-- whether a thread waits for a mutex
abbrev pub is_waiting : Table → ℕ → Bool
is_waiting s t = is_some (awaited t s)

-- whether any thread does, so that there is a chain
unfoldable pub has_waiting : Table → Bool
has_waiting s = list_any (is_waiting s) (numbers (threads_answer s))

-- whether the last chain is gone
abbrev pub chains_are_gone : Option Table → Table → Bool
chains_are_gone None now = false
chains_are_gone (Some before) now = has_waiting before && not (has_waiting now)

-- ---- lines

-- whether a line was there, by what stays of a core from before; not if there is none
abbrev pub was_there : (stays : (before now : Table) → ℕ → Bool) → Option Table → Table → ℕ → Bool
was_there stays None now n = false
was_there stays (Some before) now n = stays before now n

-- a line, unless it was there
abbrev pub new_line : (is_there : Bool) → List ℕ → List ℕ
new_line is_there line = if is_there then [] else line

-- the line of a thread, unless it was there
abbrev pub new_thread_line : (names : List (List ℕ)) → Option Table → Table → ℕ → List ℕ
new_thread_line names before now t = new_line (was_there thread_stays before now t) (thread_line names now t)

-- that of a mutex
abbrev pub new_mutex_line : (names : List (List ℕ)) → Option Table → Table → ℕ → List ℕ
new_mutex_line names before now m = new_line (was_there mutex_stays before now m) (mutex_line names now m)

-- that of a condition variable
abbrev pub new_cond_line : (names : List (List ℕ)) → Option Table → Table → ℕ → List ℕ
new_cond_line names before now c = new_line (was_there cond_stays before now c) (cond_line names now c)

-- that of the run queue; if its order is another one than before and no thread is ready, the line says so
abbrev pub new_ready_line : (names : List (List ℕ)) → Option Table → Table → List ℕ
new_ready_line names None now = ready_line names [] now
new_ready_line names (Some before) now =
    new_line (order_stays order.Ready before now) (ready_line names (codes "  run queue: none\n") now)

-- that of the chain that begins with a thread, if one does
abbrev pub new_chain_line : (names : List (List ℕ)) → Option Table → Table → ℕ → List ℕ
new_chain_line names before now t = new_line (was_there chain_stays before now t) (chain_line_at names now t)

-- that of chains that are gone
abbrev pub no_chain_line : Option Table → Table → List ℕ
no_chain_line before now = if chains_are_gone before now then codes "  chain: none\n" else []

-- ---- the whole

-- the lines of what a core does, or if there is a core from before, those that were not there; and an empty one
abbrev pub new_lines : (names : List (List ℕ)) → Option Table → Table → List ℕ
new_lines names before now =
    time_line (time_before before) now.time ++ flat_map (new_thread_line names before now) (numbers (threads_answer now))
    ++ flat_map (new_mutex_line names before now) (numbers (mutexes_added now))
    ++ flat_map (new_cond_line names before now) (numbers (conds_added now)) ++ new_ready_line names before now
    ++ flat_map (new_chain_line names before now) (numbers (threads_answer now)) ++ no_chain_line before now ++ codes "\n"

-- the text of what has changed between two cores
unfoldable pub changes_text : (names : List (List ℕ)) → (before now : Table) → List ℕ
changes_text names before now = new_lines names (Some before) now

-- the text of what a core does, or if there is a core from before, of what has changed
abbrev pub lines_text : (names : List (List ℕ)) → Option Table → Table → List ℕ
lines_text names None now = state_text names now
lines_text names (Some before) now = changes_text names before now
