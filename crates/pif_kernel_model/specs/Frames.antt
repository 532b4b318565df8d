-- What a change of a table leaves as it was, of one user's lists and nodes and of all others.
use Rattle.std.specs.Prelude.{◌≡◌, ◌≢◌, ℕ, ◌+◌, ◌*◌, ◌<◌, ◌≤◌, ◌⊎◌, true, length, None}
use Rattle.pif_nodes_model.specs.Lists.{has}
use Rattle.pif_nodes_model.specs.Table.{NodeLists, list_at, key_at, holder, IsApart}
use Rattle.pif_nodes_model.specs.Order.{IsSorted, OthersStaySorted}
use Rattle.pif_kernel_model.specs.States.{States, IsThread, wait_node, top_node}

-- a number is none of so many from the first on
abbrev pub IsBeyond : ℕ → ℕ → ℕ → Type 0
IsBeyond first count n = (n < first) ⊎ (first + count ≤ n)

-- so many lists from the first on, and the keys of the nodes in them, are as they were
pub record KeepsLists (first count : ℕ) (was now : NodeLists) : Type 0 where
  pub lists : (l : ℕ) → first ≤ l → l < first + count → list_at now l ≡ list_at was l
  pub keys : (l n : ℕ) → first ≤ l → l < first + count → has n (list_at was l) ≡ true → key_at now n ≡ key_at was n
  pub list_count : length now.lists ≡ length was.lists
  pub node_count : length now.keys ≡ length was.keys

-- a change by others left all that the owner states have in the table: their lists, with the keys of the nodes there,
-- and a free top node is still free
pub record KeepsOwn (m : States) (was now : NodeLists) : Type 0 where
  pub lists : KeepsLists m.first_list (2 * m.threads) was now
  pub free : (u : ℕ) → IsThread m u → holder was (top_node m u) ≡ None → holder now (top_node m u) ≡ None

-- a change of the owner states left all else in the table: the other lists, with the keys of the nodes there, in which
-- list each node of others is, and how many lists and nodes there are
pub record SameOutsideStates (m : States) (was now : NodeLists) : Type 0 where
  pub lists : (l : ℕ) → IsBeyond m.first_list (2 * m.threads) l → list_at now l ≡ list_at was l
  pub keys : (l n : ℕ) → IsBeyond m.first_list (2 * m.threads) l → has n (list_at was l) ≡ true
      → key_at now n ≡ key_at was n
  pub holders : (n : ℕ) → IsBeyond m.first_node (2 * m.threads) n → holder now n ≡ holder was n
  pub list_count : length now.lists ≡ length was.lists
  pub node_count : length now.keys ≡ length was.keys

-- a change touched one list and one node: all other lists, keys and holders are as they were
pub record ChangesList (l n : ℕ) (was now : NodeLists) : Type 0 where
  pub lists : (j : ℕ) → j ≢ l → list_at now j ≡ list_at was j
  pub keys : (p : ℕ) → p ≢ n → key_at now p ≡ key_at was p
  pub holders : (p : ℕ) → p ≢ n → holder now p ≡ holder was p
  pub own : IsSorted now l
  pub sorted : OthersStaySorted was now l
  pub before : IsApart was
  pub apart : IsApart now
  pub list_count : length now.lists ≡ length was.lists
  pub node_count : length now.keys ≡ length was.keys

-- of the owner states' lists and nodes a change touched only those of top waiters, and nothing of others
pub record ChangesTops (m : States) (was now : NodeLists) : Type 0 where
  pub waiters : KeepsLists m.first_list m.threads was now
  pub outside : SameOutsideStates m was now
  pub holders : (n : ℕ) → n < m.first_node + m.threads → holder now n ≡ holder was n
  pub apart : IsApart now

-- the nodes of all waiters but one are in the lists in which they were
abbrev pub KeepsWaiterNodes : States → ℕ → NodeLists → NodeLists → Type 0
KeepsWaiterNodes m t was now = (u : ℕ) → IsThread m u → u ≢ t → holder now (wait_node m u) ≡ holder was (wait_node m u)
