-- A run queue: the threads that are ready, by level, as sched(7) has them for SCHED_FIFO. Each level is a list of a
-- node table, in which each thread has a node.
use Rattle.std.specs.Prelude.{◌≡◌, ℕ, zero, suc, ◌+◌, ◌-◌, ◌<◌, ◌≤◌, ◌↔◌, ◌&&◌, true, nat_eq, nat_lt, nat_le, if◌then◌else◌, List, [], ◌∷◌, ◌++◌, length, map, Option, Some, None, is_some, option_and_then}
use Rattle.std.specs.Int.{bit_at}
use Rattle.pif_nodes_model.specs.Lists.{has, first_of, list_without}
use Rattle.pif_nodes_model.specs.Table.{NodeLists, list_at, holder, IsApart}

-- where the levels and the threads of a queue stand in its table, and which levels have a thread
pub record Queue : Type 0 where
  -- the list of level 1; those of the other levels follow it
  pub first_list : ℕ
  -- the node of thread 1; those of the other threads follow it
  pub first_node : ℕ
  -- how many threads have a node
  pub threads : ℕ
  -- the levels that have a thread: bit p is that of level p
  pub mask : ℕ

-- a level is a priority of SCHED_FIFO, 1 to 99 (sched(7))
abbrev pub IsLevel : ℕ → Type 0
IsLevel p = (1 ≤ p) × (p ≤ 99)

-- the list of a level
abbrev pub list_for : Queue → ℕ → ℕ
list_for q p = q.first_list + (p - 1)

-- the node of a thread
abbrev pub node_for : Queue → ℕ → ℕ
node_for q t = q.first_node + (t - 1)

-- the thread of a node
abbrev pub thread_for : Queue → ℕ → ℕ
thread_for q n = n - q.first_node + 1

-- n is the node of a thread
abbrev pub IsThreadNode : Queue → ℕ → Type 0
IsThreadNode q n = (q.first_node ≤ n) × (n < q.first_node + q.threads)

-- the threads of a level, in the order in which they joined it
abbrev pub level_of : Queue → NodeLists → ℕ → List ℕ
level_of q t p = map (thread_for q) (list_at t (list_for q p))

-- the threads of the levels below n, those of the greatest first, and of each level in the order in which they joined
-- it
unfoldable pub all_below : Queue → NodeLists → ℕ → List ℕ
all_below q t zero = []
all_below q t (suc zero) = []
all_below q t (suc (suc p)) = level_of q t (suc p) ++ all_below q t (suc p)

-- l is the list of a level
abbrev pub IsLevelList : Queue → ℕ → Type 0
IsLevelList q l = (q.first_list ≤ l) × (l < q.first_list + 99)

-- a queue stands in a table, and its mask says which of its levels have a thread
pub record Holds (q : Queue) (t : NodeLists) : Type 0 where
  -- each node of the table is in at most one list, and once
  pub apart : IsApart t
  -- the lists of the levels are lists of the table
  pub lists : q.first_list + 99 ≤ length t.lists
  -- the nodes of the threads are nodes of the table
  pub nodes : q.first_node + q.threads ≤ length t.keys
  -- a node on a level is that of a thread
  pub threads : (p n : ℕ) → IsLevel p → has n (list_at t (list_for q p)) ≡ true → IsThreadNode q n
  -- the node of a thread stands on a level, or in no list
  pub alone : (n l : ℕ) → IsThreadNode q n → holder t n ≡ Some l → IsLevelList q l
  -- the bit of a level is 0 exactly if no thread is on it
  pub bits : (p : ℕ) → IsLevel p → (bit_at q.mask p ≡ 0) ↔ (list_at t (list_for q p) ≡ [])
  -- no other bit is set
  pub no_more : (p : ℕ) → bit_at q.mask p ≡ 1 → IsLevel p

-- a queue with no thread may stand in a table that has the lists of its levels, all empty, and the nodes of its
-- threads, which are in no list
pub record HasRoom (q : Queue) (t : NodeLists) : Type 0 where
  pub apart : IsApart t
  pub lists : q.first_list + 99 ≤ length t.lists
  pub nodes : q.first_node + q.threads ≤ length t.keys
  pub empty : (p : ℕ) → IsLevel p → list_at t (list_for q p) ≡ []
  pub free : (n : ℕ) → IsThreadNode q n → holder t n ≡ None

-- u is on some level
abbrev pub IsQueued : Queue → NodeLists → ℕ → Type 0
IsQueued q t u = (p : ℕ) × IsLevel p × (has u (level_of q t p) ≡ true)

-- the level of a list; None if it is the list of no level
abbrev pub level_for : Queue → ℕ → Option ℕ
level_for q l = if nat_le q.first_list l && nat_lt l (q.first_list + 99) then Some (l - q.first_list + 1) else None

-- the level on which a thread is: that of the list in which its node is; None if it has no node, or is on no level
abbrev pub level_with : Queue → NodeLists → ℕ → Option ℕ
level_with q t u = if nat_le 1 u && nat_le u q.threads then option_and_then (level_for q) (holder t (node_for q u)) else None

-- u is on level p: its node is in the list of that level
pub record IsOnLevel (q : Queue) (t : NodeLists) (u p : ℕ) : Type 0 where
  pub is_level : IsLevel p
  pub some : 1 ≤ u
  pub within : u ≤ q.threads
  pub listed : has (node_for q u) (list_at t (list_for q p)) ≡ true
  pub held : holder t (node_for q u) ≡ Some (list_for q p)

-- u is the first of the greatest level that has a thread: the one that SCHED_FIFO runs (sched(7))
pub record IsFirstOfGreatest (q : Queue) (t : NodeLists) (u : ℕ) : Type 0 where
  pub level : ℕ
  pub is_level : IsLevel level
  pub first : first_of (level_of q t level) ≡ Some u
  pub greatest : (p : ℕ) → IsLevel p → level < p → level_of q t p ≡ []

-- no level has a thread
abbrev pub IsEmpty : Queue → NodeLists → Type 0
IsEmpty q t = (p : ℕ) → IsLevel p → level_of q t p ≡ []

-- the threads of level p once u joined the end of level `to`
abbrev pub level_after_add : ℕ → ℕ → ℕ → List ℕ → List ℕ
level_after_add u to p ts = if nat_eq p to then ts ++ u ∷ [] else ts

-- the threads of level p once u, which was on some level, is at level `to`: if that is its level, it keeps its
-- place, and else it joins the end (sched(7) puts one whose priority is lowered at the front; that all join the end is
-- this project's choice)
abbrev pub level_after_move : ℕ → ℕ → ℕ → List ℕ → List ℕ
level_after_move u to p ts = if nat_eq p to then (if has u ts then ts else ts ++ u ∷ []) else list_without u ts

-- the threads of level p once u, if it is on some level, was moved to level `to`
abbrev pub level_after_move_if_queued : Queue → NodeLists → ℕ → ℕ → ℕ → List ℕ
level_after_move_if_queued q t u to p = if is_some (level_with q t u) then level_after_move u to p (level_of q t p)
    else level_of q t p

-- all that is no level of the queue is as it was: the other lists, and all keys
pub record SameOutside (q : Queue) (was now : NodeLists) : Type 0 where
  pub before : (l : ℕ) → l < q.first_list → list_at now l ≡ list_at was l
  pub behind : (l : ℕ) → q.first_list + 99 ≤ l → list_at now l ≡ list_at was l
  pub count : length now.lists ≡ length was.lists
  pub keys : now.keys ≡ was.keys

-- what a queue needs of what others change in its table: its lists stay, the counts too, and no node of a thread that
-- was in no list is put into one
pub record KeepsQueue (q : Queue) (was now : NodeLists) : Type 0 where
  pub lists : (l : ℕ) → IsLevelList q l → list_at now l ≡ list_at was l
  pub count : length now.lists ≡ length was.lists
  pub nodes : length now.keys ≡ length was.keys
  pub free : (n : ℕ) → IsThreadNode q n → holder was n ≡ None → holder now n ≡ None
