-- What a change of one user of a node table leaves as it was.
use Rattle.std.specs.Prelude.{◌≡◌, ℕ, ◌+◌, ◌<◌, ◌≤◌, true, length, None}
use Rattle.pif_nodes_model.specs.Lists.{has}
use Rattle.pif_nodes_model.specs.Table.{NodeLists, list_at, key_at, holder}
use Rattle.pif_kernel_model.specs.Frames.{IsBeyond, KeepsLists}

-- a change of a user that has so many lists and so many nodes, each from a first on, left all else in the table: the
-- other lists, with the keys of the nodes there, in which list each other node is, and how many lists and nodes there
-- are
pub record KeepsOthers (first_list list_span first_node node_span : ℕ) (was now : NodeLists) : Type 0 where
  pub lists : (l : ℕ) → IsBeyond first_list list_span l → list_at now l ≡ list_at was l
  pub keys : (l n : ℕ) → IsBeyond first_list list_span l → has n (list_at was l) ≡ true → key_at now n ≡ key_at was n
  pub holders : (n : ℕ) → IsBeyond first_node node_span n → holder now n ≡ holder was n
  pub list_count : length now.lists ≡ length was.lists
  pub node_count : length now.keys ≡ length was.keys

-- a change by others left what a user has in the table: its lists, with the keys of the nodes there, and those of its
-- nodes that were in no list still are in none
pub record KeepsUser (first_list list_span first_node node_span : ℕ) (was now : NodeLists) : Type 0 where
  pub kept : KeepsLists first_list list_span was now
  pub free : (n : ℕ) → first_node ≤ n → n < first_node + node_span → holder was n ≡ None → holder now n ≡ None
