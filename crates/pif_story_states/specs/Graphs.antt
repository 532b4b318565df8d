-- Who waits for whom, as a graph in the language of Graphviz (DOT): a function of what a core's readers answer.
use Rattle.std.specs.Prelude.{ℕ, nat_lt, Bool, true, false, List, [], ◌++◌, Option, Some, None, is_some, if◌then◌else◌, codes, decimal, flat_map}
use Rattle.pif_model.specs.declared.lines.Status.{Status}
use Rattle.pif_model.specs.declared.lines.Status.TheVariants.{Ready, Queued, Parked, Stopped, Ended}
use Rattle.pif_model.specs.Table.{Table}
use Rattle.pif_model.specs.Calls.{base_answer, effective_answer, parked_answer, status_answer, threads_answer}
use Rattle.pif_text_model.specs.Replies.{cond_name, mutex_name, thread_name}
use Rattle.pif_text.specs.Json.{numbers}
use Rattle.pif_text_core.specs.Waiting.{conds_added, mutexes_added, owner_of}

-- ---- the language

-- a node of this name, with these attributes
abbrev pub node : (name attributes : List ℕ) → List ℕ
node name attributes = codes "  " ++ name ++ codes " [" ++ attributes ++ codes "]\n"

-- an edge from one node to another, with these attributes
abbrev pub edge : (one other attributes : List ℕ) → List ℕ
edge one other attributes = codes "  " ++ one ++ codes " -> " ++ other ++ codes " [" ++ attributes ++ codes "]\n"

-- a graph with edges, laid out from the left to the right
abbrev pub graph : (parts : List ℕ) → List ℕ
graph parts =
    codes "digraph waiting {\n  rankdir=LR\n  node [fontname=\"sans-serif\"]\n" ++ parts ++ codes "}\n"

-- ---- threads

-- the priority of a thread's own, if the thread is boosted: if it runs above that
abbrev pub base_words : (effective base : ℕ) → List ℕ
base_words effective base = if nat_lt base effective then codes " (base " ++ decimal base ++ codes ")" else []

-- its priorities: that at which it runs, first
abbrev pub priority_words : (effective base : ℕ) → List ℕ
priority_words effective base = codes "\\npriority " ++ decimal effective ++ base_words effective base

-- whether a thread of this status is stopped for good
abbrev pub is_stopped : Status → Bool
is_stopped (Ready woken) = false
is_stopped (Queued m) = false
is_stopped (Parked c) = false
is_stopped Stopped = true
is_stopped Ended = false

-- that a thread is stopped for good
abbrev pub stopped_words : Option Status → List ℕ
stopped_words None = []
stopped_words (Some status) = if is_stopped status then codes "\\nstopped" else []

-- the look of a thread: one that is boosted is filled
abbrev pub fill : (effective base : ℕ) → List ℕ
fill effective base = if nat_lt base effective then codes "\" style=filled fillcolor=\"#ffb08a\"" else codes "\""

-- a thread that runs at this priority, and has this one of its own
unfoldable pub living_node : (thread effective base : ℕ) → Option Status → List ℕ
living_node t effective base status =
    node (thread_name t)
    (codes "label=\"" ++ thread_name t ++ priority_words effective base ++ stopped_words status ++ fill effective base)

-- a thread that has ended: it is dashed
unfoldable pub ended_node : ℕ → List ℕ
ended_node t = node (thread_name t) (codes "label=\"" ++ thread_name t ++ codes "\\nended\" style=dashed")

-- a thread by its priorities: one that has ended has none
abbrev pub node_by : ℕ → (effective base : Option ℕ) → Option Status → List ℕ
node_by t (Some effective) (Some base) status = living_node t effective base status
node_by t (Some effective) None status = ended_node t
node_by t None base status = ended_node t

-- the node of a thread
abbrev pub thread_node : Table → ℕ → List ℕ
thread_node s t = node_by t (effective_answer t s) (base_answer t s) (status_answer t s)

-- ---- mutexes and condition variables

-- a mutex: if somebody holds it, a box, with an edge to the one who does
abbrev pub held_parts : ℕ → Option ℕ → List ℕ
held_parts m None = []
held_parts m (Some owner) =
    node (mutex_name m) (codes "shape=box") ++ edge (mutex_name m) (thread_name owner) (codes "label=\"held by\"")

abbrev pub mutex_parts : Table → ℕ → List ℕ
mutex_parts s m = held_parts m (owner_of m s)

-- a condition variable: if somebody is parked on it, a diamond
abbrev pub cond_parts : Table → ℕ → List ℕ
cond_parts s c = if is_some (parked_answer c 0 s) then node (cond_name c) (codes "shape=diamond") else []

-- ---- waiting

-- the edge of a thread of this status: to the mutex for which it waits; or dotted, to the condition variable on which it
-- is parked
abbrev pub edge_by : ℕ → Status → List ℕ
edge_by t (Ready woken) = []
edge_by t (Queued m) = edge (thread_name t) (mutex_name m) (codes "label=\"waits for\"")
edge_by t (Parked c) = edge (thread_name t) (cond_name c) (codes "label=\"parked on\" style=dotted")
edge_by t Stopped = []
edge_by t Ended = []

abbrev pub edge_if : ℕ → Option Status → List ℕ
edge_if t None = []
edge_if t (Some status) = edge_by t status

abbrev pub thread_edge : Table → ℕ → List ℕ
thread_edge s t = edge_if t (status_answer t s)

-- ---- a core

-- the nodes and edges of all threads, mutexes and condition variables that were added
unfoldable pub parts_of : Table → List ℕ
parts_of s =
    flat_map (thread_node s) (numbers (threads_answer s)) ++ flat_map (mutex_parts s) (numbers (mutexes_added s))
    ++ flat_map (cond_parts s) (numbers (conds_added s)) ++ flat_map (thread_edge s) (numbers (threads_answer s))
