-- A new table that is large enough has room for buckets and parked lists.
use Rattle.std.proofs.Common.{◌≡◌, ◌⊎◌, ℕ, zero, suc, ◌+◌, ◌≤◌, List, [], length, get_or, replicate, Option, Some, None, refl, sym, ◌∙◌, ap, subst, arith}
use Rattle.std.proofs.lemmas.Bool.{false≢true}
use Rattle.std.proofs.lemmas.List.{length-replicate}
use Rattle.pif_nodes_model.specs.Lists.{has}
use Rattle.pif_nodes_model.specs.Table.{NodeLists, IsApart, no_key, holder, list_at}
use Rattle.pif_kernel_model.specs.Entries.{no_entries, no_entry}
use Rattle.pif_kernel_model.specs.Parked.{no_parked, variable_list}
use Rattle.pif_kernel_model.specs.Buckets.{Buckets, HasRoomForBuckets}

-- no word and nobody parked
abbrev pub no_buckets : ℕ → ℕ → ℕ → ℕ → ℕ → Buckets
no_buckets first_list first_node wait_node threads conds =
    record {
      entries = no_entries first_list first_node threads;
      parked = no_parked (first_list + 64) wait_node threads conds;
    }

-- each list of a table of empty lists is empty
abbrev nothing : List ℕ
nothing = []

none-there : (n l : ℕ) → get_or (replicate n nothing) l nothing ≡ nothing
none-there zero l = refl
none-there (suc n) zero = refl
none-there (suc n) (suc l) = none-there n l

module _ (first_list first_node wait_node threads conds lists nodes : ℕ) (t : NodeLists)
    (made : t ≡ record { lists = replicate lists []; keys = replicate nodes no_key }) (apart : IsApart t)
    (long : first_list + 64 + conds ≤ lists) (wide : first_node + threads ≤ nodes) (broad : wait_node + threads ≤ nodes)
    (disjoint : (wait_node + threads ≤ first_node) ⊎ (first_node + threads ≤ wait_node)) where
  list-count : length t.lists ≡ lists
  list-count = ap (λ (x : NodeLists). length x.lists) made ∙ length-replicate {A = List ℕ} lists []

  node-count : length t.keys ≡ nodes
  node-count = ap (λ (x : NodeLists). length x.keys) made ∙ length-replicate nodes no_key

  rows : length (replicate threads no_entry) ≡ threads
  rows = length-replicate threads no_entry

  empty : (l : ℕ) → list_at t l ≡ []
  empty l = ap (λ (x : NodeLists). list_at x l) made ∙ none-there lists l

  free : (n : ℕ) → holder t n ≡ None
  free n = by_holder (holder t n) refl
    where
      by_holder : (o : Option ℕ) → holder t n ≡ o → holder t n ≡ None
      by_holder None e = e
      by_holder (Some l) e = absurd (false≢true (sym (ap (has n) (empty l)) ∙ apart.listed l n e))

  pub room-made : HasRoomForBuckets (no_buckets first_list first_node wait_node threads conds) t
  room-made =
      record {
        apart =
            record {
              lists = refl;
              nodes = subst (λ n. (wait_node + threads ≤ first_node) ⊎ (first_node + n ≤ wait_node)) (sym rows) disjoint;
            };
        entries =
            record {
              apart = apart;
              lists = omega (arith, long, list-count);
              nodes = omega (arith, wide, node-count, rows);
              empty = λ b l. empty (first_list + b);
              free = λ r l. free (first_node + r);
            };
        parked =
            record {
              apart = apart;
              lists = omega (arith, long, list-count);
              nodes = omega (arith, broad, node-count);
              empty = λ c is. empty (variable_list (no_parked (first_list + 64) wait_node threads conds) c);
            };
      }
