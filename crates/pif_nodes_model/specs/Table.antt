-- A table of nodes: which nodes each of its lists has, in which order, and each node's key.
use Rattle.std.specs.Prelude.{◌≡◌, ℕ, ◌+◌, ◌<◌, true, if◌then◌else◌, List, [], ◌∷◌, length, Option, Some, None, option_map, option_and_then, slice_index_or, slice_set}
use Rattle.pif_nodes_model.specs.declared.keys.Key.{Key}
use Rattle.pif_nodes_model.specs.Lists.{has, next_in_list, prev_in_list, HasNoRepeats}

-- what a table holds
pub record NodeLists : Type 0 where
  -- the nodes of each list, in order, by the number of the list
  pub lists : List (List ℕ)
  -- the key of each node, by the number of the node
  pub keys : List Key

-- the nodes of a list, in order; none if there is no such list
abbrev pub list_at : NodeLists → ℕ → List ℕ
list_at t l = slice_index_or t.lists l []

-- the key that a node has at first
abbrev pub no_key : Key
no_key = record { prio = 0; ticket = 0 }

-- the key of a node; `no_key` if there is no such node
abbrev pub key_at : NodeLists → ℕ → Key
key_at t n = slice_index_or t.keys n no_key

-- the number of the list, the first of these, that has a node
abbrev pub list_with : List (List ℕ) → ℕ → Option ℕ
list_with [] n = None
list_with (xs ∷ ls) n = if has n xs then Some 0 else option_map (λ l. l + 1) (list_with ls n)

-- the list in which a node is
abbrev pub holder : NodeLists → ℕ → Option ℕ
holder t n = list_with t.lists n

-- the node after a node in its list
abbrev pub next_node : NodeLists → ℕ → Option ℕ
next_node t n = option_and_then (λ l. next_in_list (list_at t l) n) (holder t n)

-- the node before a node in its list
abbrev pub prev_node : NodeLists → ℕ → Option ℕ
prev_node t n = option_and_then (λ l. prev_in_list (list_at t l) n) (holder t n)

-- the table with another content of one list
abbrev pub with_list : NodeLists → ℕ → List ℕ → NodeLists
with_list t l xs = record { lists = slice_set t.lists l xs; keys = t.keys }

-- the table with another key of one node
abbrev pub with_key : NodeLists → ℕ → Key → NodeLists
with_key t n k = record { lists = t.lists; keys = slice_set t.keys n k }

-- each node is in at most one list, and once
pub record IsApart (t : NodeLists) : Type 0 where
  -- no list has a node twice
  pub once : (l : ℕ) → HasNoRepeats (list_at t l)
  -- a node that a list has is in no other list
  pub alone : (l n : ℕ) → has n (list_at t l) ≡ true → holder t n ≡ Some l
  -- the list in which a node is has it
  pub listed : (l n : ℕ) → holder t n ≡ Some l → has n (list_at t l) ≡ true
  -- a node in a list is one of the table
  pub nodes : (l n : ℕ) → holder t n ≡ Some l → n < length t.keys
  -- the list in which a node is is one of the table
  pub lists : (l n : ℕ) → holder t n ≡ Some l → l < length t.lists
