-- Lists of nodes in the order of their keys: the higher priority first, and of equal priorities the lower ticket.
use Rattle.std.specs.Prelude.{◌≡◌, ℕ, Bool, true, false, ◌&&◌, ◌||◌, ◌==◌, nat_lt, if◌then◌else◌, List, [], ◌∷◌, ◌++◌, Option, Some, slice_index_or, ⊤}
use Rattle.pif_nodes_model.specs.declared.keys.Key.{Key}
use Rattle.pif_nodes_model.specs.Lists.{has, first_of, last_of, list_without}
use Rattle.pif_nodes_model.specs.Table.{NodeLists, no_key, list_at, key_at, next_node, prev_node, with_list, with_key}

-- whether a key comes before another: its priority is higher, or equal and its ticket lower
abbrev pub comes_before : Key → Key → Bool
comes_before a b = nat_lt b.prio a.prio || (a.prio == b.prio && nat_lt a.ticket b.ticket)

-- the key of a node among these; `no_key` if there is no such node
abbrev pub key_in : List Key → ℕ → Key
key_in keys n = slice_index_or keys n no_key

-- no node of a list comes before one that stands earlier
abbrev pub IsInOrder : List Key → List ℕ → Type 0
IsInOrder keys [] = ⊤
IsInOrder keys (x ∷ xs) = ((y : ℕ) → has y xs ≡ true → comes_before (key_in keys y) (key_in keys x) ≡ false) × IsInOrder keys xs

-- a list of a table is in the order of its nodes' keys
abbrev pub IsSorted : NodeLists → ℕ → Type 0
IsSorted t l = IsInOrder t.keys (list_at t l)

-- a list with a node put before the first one that comes later, or at the end if none does
abbrev pub list_after_insert : List Key → ℕ → List ℕ → List ℕ
list_after_insert keys n [] = n ∷ []
list_after_insert keys n (x ∷ xs) = if comes_before (key_in keys n) (key_in keys x) then n ∷ x ∷ xs else x ∷
    list_after_insert keys n xs

-- a table in which a node has got a key and been put into a list by it
abbrev pub table_after_insert : NodeLists → ℕ → ℕ → Key → NodeLists
table_after_insert t l n k = with_list (with_key t n k) l (list_after_insert (with_key t n k).keys n (list_at t l))

-- a table in which a node has been taken out of a list
abbrev pub table_after_remove : NodeLists → ℕ → ℕ → NodeLists
table_after_remove t l n = with_list t l (list_without n (list_at t l))

-- the key of a node with another priority
abbrev pub key_with_prio : NodeLists → ℕ → ℕ → Key
key_with_prio t n prio = record { prio = prio; ticket = (key_at t n).ticket }

-- the key of a node with another ticket
abbrev pub key_with_ticket : NodeLists → ℕ → ℕ → Key
key_with_ticket t n ticket = record { prio = (key_at t n).prio; ticket = ticket }

-- every other list that was sorted still is
abbrev pub OthersStaySorted : NodeLists → NodeLists → ℕ → Type 0
OthersStaySorted old new l = (k : ℕ) → (k ≡ l → ⊥) → IsSorted old k → IsSorted new k

-- the nodes up to a place come no later than a key, and those behind it come later
pub record IsPlace (keys : List Key) (k : Key) (xs : List ℕ) (place : Option ℕ) : Type 0 where
  -- the nodes up to the place, and those behind it
  pub front : List ℕ
  pub back : List ℕ
  pub parts : xs ≡ front ++ back
  pub at : place ≡ last_of front
  pub before : (m : ℕ) → has m front ≡ true → comes_before k (key_in keys m) ≡ false
  pub behind : (m : ℕ) → first_of back ≡ Some m → comes_before k (key_in keys m) ≡ true

-- a node with a key fits between its neighbours: the one before it comes no later, and the one behind it comes later
pub record FitsBetween (t : NodeLists) (n : ℕ) (k : Key) : Type 0 where
  pub before : (m : ℕ) → prev_node t n ≡ Some m → comes_before k (key_at t m) ≡ false
  pub behind : (m : ℕ) → next_node t n ≡ Some m → comes_before k (key_at t m) ≡ true
