-- Tables all of whose lists are empty.
use Rattle.std.proofs.Common.{◌≡◌, ℕ, zero, suc, ◌+◌, ◌≤◌, List, [], length, replicate, get_or, map, Option, Some, None, refl, sym, ap, ◌∙◌, arith}
use Rattle.std.proofs.lemmas.Bool.{false≢true}
use Rattle.std.proofs.lemmas.List.{length-replicate}
use Rattle.pif_nodes_model.specs.Lists.{has}
use Rattle.pif_nodes_model.specs.Table.{NodeLists, IsApart, no_key, holder, list_at}
use Rattle.pif_nodes_model.specs.Levels.{Queue, HasRoom, list_for, level_of, thread_for}

abbrev pub empty_table : ℕ → ℕ → NodeLists
empty_table lists nodes = record { lists = replicate lists []; keys = replicate nodes no_key }

abbrev nothing : List ℕ
nothing = []

alike : (n k : ℕ) → get_or (replicate n nothing) k nothing ≡ nothing
alike zero k = refl
alike (suc n) zero = refl
alike (suc n) (suc k) = alike n k

pub empty_lists : (lists nodes : ℕ) → length (empty_table lists nodes).lists ≡ lists
empty_lists lists nodes = length-replicate lists nothing

pub empty_nodes : (lists nodes : ℕ) → length (empty_table lists nodes).keys ≡ nodes
empty_nodes lists nodes = length-replicate nodes no_key

pub empty_list : (lists nodes l : ℕ) → list_at (empty_table lists nodes) l ≡ []
empty_list lists nodes l = alike lists l

pub empty_free : (lists nodes n : ℕ) → IsApart (empty_table lists nodes) → holder (empty_table lists nodes) n ≡ None
empty_free lists nodes n apart = by_holder (holder (empty_table lists nodes) n) refl
  where
    by_holder : (o : Option ℕ) → holder (empty_table lists nodes) n ≡ o → holder (empty_table lists nodes) n ≡ None
    by_holder None e = e
    by_holder (Some l) e =
        absurd (false≢true (sym (ap (has n) (empty_list lists nodes l)) ∙ apart.listed l n e))

-- a run queue may stand in such a table
pub queue_room : (q : Queue) (lists nodes : ℕ) → q.first_list + 99 ≤ lists → q.first_node + q.threads ≤ nodes
    → IsApart (empty_table lists nodes) → HasRoom q (empty_table lists nodes)
queue_room q lists nodes long wide apart = record {
  apart = apart;
  lists = omega (arith, long, empty_lists lists nodes);
  nodes = omega (arith, wide, empty_nodes lists nodes);
  empty = λ p l. empty_list lists nodes (list_for q p);
  free = λ n mine. empty_free lists nodes n apart;
}

-- and has no thread there
pub empty_level : (q : Queue) (lists nodes p : ℕ) → level_of q (empty_table lists nodes) p ≡ []
empty_level q lists nodes p = ap (map (thread_for q)) (empty_list lists nodes (list_for q p))
