-- The owner states of words, found by the number of the word through 64 buckets, as a futex is found by its address
-- (futex(2)): each bucket is a list of a node table, and each row of an owner state has a node.
use Rattle.std.specs.Prelude.{◌≡◌, ℕ, ◌+◌, ◌-◌, ◌%◌, ◌<◌, ◌≤◌, ◌==◌, true, List, length, filter, get_or, replicate, [], Option, Some, None, IsSome, option_map, refl}
use Rattle.std.specs.Coded.{Coded, code_by, coded×, coded_ℕ, coded_list}
use Rattle.pif_nodes_model.specs.Lists.{has, first_of}
use Rattle.pif_nodes_model.specs.Table.{NodeLists, list_at, holder, IsApart}

-- what is kept by row: the number of the word, and the key of its owner state
pub record Entry : Type 0 where
  pub word : ℕ
  pub key : ℕ

-- the value: where its lists and nodes begin in the table, and what it has of each row. An entry counts while the node
-- of its row is in a bucket
pub record Entries : Type 0 where
  pub first_list : ℕ
  pub first_node : ℕ
  pub items : List Entry

-- the owner state of a word: its key, and its row
pub record Found : Type 0 where
  pub key : ℕ
  pub row : ℕ

abbrev pub no_entry : Entry
no_entry = record { word = 0; key = 0 }

-- no word, for so many rows
abbrev pub no_entries : ℕ → ℕ → ℕ → Entries
no_entries first_list first_node rows =
    record { first_list = first_list; first_node = first_node; items = replicate rows no_entry }

abbrev pub entry_at : Entries → ℕ → Entry
entry_at e r = get_or e.items r no_entry

-- the list of the bucket of a word
abbrev pub bucket_of : Entries → ℕ → ℕ
bucket_of e w = e.first_list + w % 64

-- the node of a row, and the row of a node
abbrev pub node_of : Entries → ℕ → ℕ
node_of e r = e.first_node + r

abbrev pub row_of : Entries → ℕ → ℕ
row_of e n = n - e.first_node

-- the word of a node
abbrev pub word_of_node : Entries → ℕ → ℕ
word_of_node e n = (entry_at e (row_of e n)).word

-- the node of the owner state of a word
abbrev pub node_with : Entries → NodeLists → ℕ → Option ℕ
node_with e t w = first_of (filter (λ n. word_of_node e n == w) (list_at t (bucket_of e w)))

-- what is found at a node
abbrev pub found_at : Entries → ℕ → Found
found_at e n = record { key = (entry_at e (row_of e n)).key; row = row_of e n }

-- the owner state of a word
abbrev pub found_in : Entries → NodeLists → ℕ → Option Found
found_in e t w = option_map (found_at e) (node_with e t w)

-- a number is that of a row
abbrev pub IsRow : Entries → ℕ → Type 0
IsRow e r = r < length e.items

-- n is the node of a row, in the bucket of its word
pub record IsEntered (e : Entries) (b n : ℕ) : Type 0 where
  pub low : e.first_node ≤ n
  pub row : IsRow e (row_of e n)
  pub bucket : word_of_node e n % 64 ≡ b

-- the entries stand in a table
pub record HoldsEntries (e : Entries) (t : NodeLists) : Type 0 where
  -- each node of the table is in at most one list, and once
  pub apart : IsApart t
  -- its lists and nodes are those of the table
  pub lists : e.first_list + 64 ≤ length t.lists
  pub nodes : e.first_node + length e.items ≤ length t.keys
  -- a bucket has nodes of rows whose words are of it
  pub entered : (b n : ℕ) → b < 64 → has n (list_at t (e.first_list + b)) ≡ true → IsEntered e b n
  -- the node of a row is in a bucket, or in no list
  pub alone : (r l : ℕ) → IsRow e r → holder t (node_of e r) ≡ Some l → (b : ℕ) × (b < 64) × (l ≡ e.first_list + b)
  -- no two nodes that are in a bucket have the same word
  pub once : (r s : ℕ) → IsRow e r → IsRow e s → IsSome (holder t (node_of e r)) → IsSome (holder t (node_of e s))
      → (entry_at e r).word ≡ (entry_at e s).word → r ≡ s

-- they may stand, with no word, in a table that has their lists, all empty, and their nodes, which are in no list
pub record HasRoomForEntries (e : Entries) (t : NodeLists) : Type 0 where
  pub apart : IsApart t
  pub lists : e.first_list + 64 ≤ length t.lists
  pub nodes : e.first_node + length e.items ≤ length t.keys
  pub empty : (b : ℕ) → b < 64 → list_at t (e.first_list + b) ≡ []
  pub free : (r : ℕ) → IsRow e r → holder t (node_of e r) ≡ None

-- how entries are stored
abbrev pub entry_code : Coded Entry
entry_code =
    code_by (ℕ × ℕ) (coded× coded_ℕ coded_ℕ) (λ x. (x.word, x.key)) (λ p. record { word = p.0; key = p.1 }) (λ _. refl)

abbrev pub entries_code : Coded Entries
entries_code =
    code_by (ℕ × (ℕ × List Entry)) (coded× coded_ℕ (coded× coded_ℕ (coded_list entry_code)))
    (λ e. (e.first_list, (e.first_node, e.items)))
    (λ p. record { first_list = p.0; first_node = p.1.0; items = p.1.1 }) (λ _. refl)
