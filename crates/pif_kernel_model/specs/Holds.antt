-- How owner states stand in a table of nodes: each waiter in the list of its state, in the order of their keys, and the
-- top waiter of each state also in the list of its owner's top waiters.
use Rattle.std.specs.Prelude.{◌≡◌, ◌≢◌, ℕ, ◌+◌, ◌*◌, ◌<◌, ◌≤◌, ◌⊎◌, true, length, [], Option, Some, None, IsSome}
use Rattle.std.specs.FinMap.{get}
use Rattle.pif_nodes_model.specs.Lists.{has}
use Rattle.pif_nodes_model.specs.Table.{NodeLists, list_at, key_at, holder, IsApart}
use Rattle.pif_nodes_model.specs.Order.{IsSorted}
use Rattle.pif_kernel_model.specs.Owners.{AreSoundOwners}
use Rattle.pif_kernel_model.specs.States.{States, IsThread, IsOwnList, wait_of, wait_node, top_node, wait_list, top_list, first_waiter, owners_in}

-- n is the node of a thread that waits on the state that has row r
pub record IsWaiterIn (m : States) (r n : ℕ) : Type 0 where
  pub thread : ℕ
  pub state : ℕ
  pub is_thread : IsThread m thread
  pub node : n ≡ wait_node m thread
  pub place : get m.places state ≡ Some r
  pub waits : wait_of m thread ≡ Some state

-- the waiters stand in the table
pub record HoldsWaiters (m : States) (t : NodeLists) : Type 0 where
  -- each node of the table is in at most one list, and once
  pub apart : IsApart t
  -- its lists and nodes are those of the table
  pub lists : m.first_list + 2 * m.threads ≤ length t.lists
  pub nodes : m.first_node + 2 * m.threads ≤ length t.keys
  -- place 0 and each thread has a row
  pub rows : length m.rows ≡ m.threads + 1
  pub sound : AreSoundOwners (owners_in m t)
  -- the owner of a state has a row
  pub owned : (k o : ℕ) → get m.owners k ≡ Some o → IsThread m o
  -- the states, and no others, have a row, and no two the same
  pub placed : (k : ℕ) → IsSome (get m.owners k) → (r : ℕ) × (get m.places k ≡ Some r) × (r < m.threads)
  pub stated : (k r : ℕ) → get m.places k ≡ Some r → IsSome (get m.owners k)
  pub alone : (j k r : ℕ) → get m.places j ≡ Some r → get m.places k ≡ Some r → j ≡ k
  -- who waits on a state stands in the list of its row
  pub queued : (u k r : ℕ) → wait_of m u ≡ Some k → get m.places k ≡ Some r
      → holder t (wait_node m u) ≡ Some (wait_list m r)
  -- and nobody else does
  pub waiters : (r n : ℕ) → r < m.threads → has n (list_at t (wait_list m r)) ≡ true → IsWaiterIn m r n
  pub sorted : (r : ℕ) → r < m.threads → IsSorted t (wait_list m r)

-- n is the node of a thread as a top waiter
pub record IsTopNode (m : States) (n : ℕ) : Type 0 where
  pub thread : ℕ
  pub is_thread : IsThread m thread
  pub node : n ≡ top_node m thread

-- the top nodes of just those threads stand in the lists of top waiters of which these say for whom they stand there
pub record IsTopped (m : States) (t : NodeLists) (Tops : ℕ → ℕ → Type 0) : Type 0 where
  pub stands : (o u : ℕ) → Tops o u → holder t (top_node m u) ≡ Some (top_list m o)
  pub only : (l u : ℕ) → IsThread m u → holder t (top_node m u) ≡ Some l → (o : ℕ) × (l ≡ top_list m o) × Tops o u
  pub nodes : (o n : ℕ) → IsThread m o → has n (list_at t (top_list m o)) ≡ true → IsTopNode m n
  pub sorted : (o : ℕ) → IsThread m o → IsSorted t (top_list m o)

-- u is the first waiter of a state that o owns
abbrev pub IsFirstOf : States → NodeLists → ℕ → ℕ → ℕ → Type 0
IsFirstOf m t k o u = (get m.owners k ≡ Some o) × (first_waiter m t k ≡ Some u)

-- the same of some state
abbrev pub IsTopOf : States → NodeLists → ℕ → ℕ → Type 0
IsTopOf m t o u = (k : ℕ) × IsFirstOf m t k o u

-- a top node has the priority with which its thread waits
abbrev pub IsRankedTop : States → NodeLists → ℕ → Type 0
IsRankedTop m t u = (key_at t (top_node m u)).prio ≡ (key_at t (wait_node m u)).prio

-- the first waiter of each state stands among the top waiters of its owner, and nobody else does
pub record HoldsTops (m : States) (t : NodeLists) : Type 0 where
  pub topped : IsTopped m t (IsTopOf m t)
  pub ranked : (k o u : ℕ) → IsFirstOf m t k o u → IsRankedTop m t u

-- the same but for one state k: there `was`, if anybody, still stands for o
abbrev pub IsTopBut : States → NodeLists → ℕ → ℕ → Option ℕ → ℕ → ℕ → Type 0
IsTopBut m t k o was p u = ((j : ℕ) × (j ≢ k) × IsFirstOf m t j p u) ⊎ ((p ≡ o) × (was ≡ Some u))

pub record IsToppedBut (m : States) (t : NodeLists) (k o : ℕ) (was : Option ℕ) : Type 0 where
  pub topped : IsTopped m t (IsTopBut m t k o was)
  pub ranked : (j p u : ℕ) → j ≢ k → IsFirstOf m t j p u → IsRankedTop m t u
  -- who still stands there is a thread, and the first waiter of no other state
  pub thread : (u : ℕ) → was ≡ Some u → IsThread m u
  pub apart : (j p u : ℕ) → was ≡ Some u → j ≢ k → IsFirstOf m t j p u → ⊥

-- the owner states stand in a table
pub record HoldsStates (m : States) (t : NodeLists) : Type 0 where
  pub waiters : HoldsWaiters m t
  pub tops : HoldsTops m t

-- they may stand in a table that has their lists, all empty, and their nodes
pub record HasRoomForStates (m : States) (t : NodeLists) : Type 0 where
  pub apart : IsApart t
  pub lists : m.first_list + 2 * m.threads ≤ length t.lists
  pub nodes : m.first_node + 2 * m.threads ≤ length t.keys
  pub empty : (l : ℕ) → IsOwnList m l → list_at t l ≡ []
  pub free : (u : ℕ) → IsThread m u → holder t (top_node m u) ≡ None
