-- Owner states and a run queue that stand in one table, and what a walk leaves of all others there.
use Rattle.std.specs.Prelude.{◌≡◌, ℕ, ◌+◌, ◌*◌, ◌≤◌, true, length}
use Rattle.pif_nodes_model.specs.Lists.{has}
use Rattle.pif_nodes_model.specs.Table.{NodeLists, list_at, key_at, holder}
use Rattle.pif_nodes_model.specs.Levels.{Queue}
use Rattle.pif_kernel_model.specs.States.{States}
use Rattle.pif_kernel_model.specs.Frames.{IsBeyond}

-- the lists and nodes of the owner states stand before those of the run queue
pub record StandsBefore (m : States) (q : Queue) : Type 0 where
  pub lists : m.first_list + 2 * m.threads ≤ q.first_list
  pub nodes : m.first_node + 2 * m.threads ≤ q.first_node

-- a change of the owner states and of the run queue left all else in the table: the other lists, with the keys of the
-- nodes there, in which list each node of others is, and how many lists and nodes there are
pub record SameBeyond (m : States) (q : Queue) (was now : NodeLists) : Type 0 where
  pub lists : (l : ℕ) → IsBeyond m.first_list (2 * m.threads) l → IsBeyond q.first_list 99 l → list_at now l ≡ list_at was l
  pub keys : (l n : ℕ) → IsBeyond m.first_list (2 * m.threads) l → IsBeyond q.first_list 99 l
      → has n (list_at was l) ≡ true → key_at now n ≡ key_at was n
  pub holders : (n : ℕ) → IsBeyond m.first_node (2 * m.threads) n → IsBeyond q.first_node q.threads n
      → holder now n ≡ holder was n
  pub list_count : length now.lists ≡ length was.lists
  pub node_count : length now.keys ≡ length was.keys
