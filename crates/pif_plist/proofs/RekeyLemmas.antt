-- Lemmas on a node that gets another key and keeps its place in a sorted list of a table.
use Rattle.std.proofs.Common.{◌≡◌, ℕ, ◌<◌, true, false, eqb, List, [], ◌∷◌, ◌++◌, Option, Some, None, option_and_then, refl, sym, ◌∙◌, ap, subst, length, set, ⊎_elim}
use Rattle.std.proofs.lemmas.Bool.{or_cases, eqb-true}
use Rattle.std.proofs.lemmas.List.{get_or-set_same, get_or-set_other, set-set, set-get_or}
use Rattle.std.proofs.lemmas.Option.{same_Some}
use Rattle.pif_nodes_model.specs.declared.keys.Key.{Key}
use Rattle.pif_nodes_model.specs.Lists.{has, first_of, last_of, next_in_list, prev_in_list, list_without, HasNoRepeats}
use Rattle.pif_nodes_model.specs.Table.{NodeLists, list_at, holder, next_node, prev_node, with_key, no_key, IsApart}
use Rattle.pif_nodes_model.proofs.ListLemmas.{has_split, has-left, has-head, apart_by_has, next_in_list-split, prev_from-split, list_without-split, HasNoRepeats-taken, first_of-has, has-list_without, next_in_list-has, prev_in_list-has}
use Rattle.pif_nodes_model.specs.Order.{comes_before, key_in, IsInOrder, IsSorted, list_after_insert, table_after_insert, table_after_remove, FitsBetween, OthersStaySorted}
use Rattle.pif_nodes_model.proofs.OrderLemmas.{not_before-trans, placed-split, back_no_earlier, IsInOrder-put, IsInOrder-list_without}
use Rattle.pif_nodes_model.proofs.InsertLemmas.{list_at-same, IsInOrder-elsewhere, absent_elsewhere}
use Rattle.pif_nodes_model.proofs.WalkLemmas.{next_of_is}

-- the front of a list in order is in order
IsInOrder-front : (keys : List Key) (front back : List ℕ) → IsInOrder keys (front ++ back) → IsInOrder keys front
IsInOrder-front keys [] back h = record {}
IsInOrder-front keys (x ∷ xs) back h = ((λ y in'. h.0 y (has-left y xs back in')), IsInOrder-front keys xs back h.1)

-- if the last of a list in order comes no later than a key, none of the list does
none_later : (keys : List Key) (k : Key) (xs : List ℕ) → IsInOrder keys xs
    → ((p : ℕ) → last_of xs ≡ Some p → comes_before k (key_in keys p) ≡ false)
    → (m : ℕ) → has m xs ≡ true → comes_before k (key_in keys m) ≡ false
none_later keys k [] h last m in' = absurd cc
none_later keys k (x ∷ []) h last m in' = ⊎_elim
    (λ e. ap (λ z. comes_before k (key_in keys z)) (eqb-true m x e) ∙ last x refl)
    (λ none. absurd cc)
    (or_cases (eqb m x) false in')
none_later keys k (x ∷ y ∷ ys) h last m in' = ⊎_elim
    (λ e. ap (λ z. comes_before k (key_in keys z)) (eqb-true m x e)
    ∙ not_before-trans k (key_in keys y) (key_in keys x)
    (none_later keys k (y ∷ ys) h.1 last y (has-head y ys)) (h.0 y (has-head y ys)))
    (λ rest. none_later keys k (y ∷ ys) h.1 last m rest)
    (or_cases (eqb m x) (has m (y ∷ ys)) in')

-- if only the key of one node changes, the lists that don't have it stay sorted
pub rekeyed_others : (t : NodeLists) (l n : ℕ) (k : Key) → IsApart (with_key t n k) → holder t n ≡ Some l
    → OthersStaySorted t (with_key t n k) l
rekeyed_others t l n k apart held j ne h =
    IsInOrder-elsewhere t.keys n k (list_at t j)
    (absent_elsewhere (with_key t n k) n j (Some l) apart held (λ e. ne (sym (same_Some l j e)))) h

-- the neighbours of a node are nodes of the table
pub prev_there : (t : NodeLists) (n m : ℕ) → IsApart t → prev_node t n ≡ Some m → m < length t.keys
prev_there t n m apart e = by_holder (holder t n) e
  where
    by_holder : (o : Option ℕ) → option_and_then (λ l. prev_in_list (list_at t l) n) o ≡ Some m → m < length t.keys
    by_holder None h = absurd cc
    by_holder (Some l) h = apart.nodes l m (apart.alone l m (prev_in_list-has (list_at t l) n m h))

pub next_there : (t : NodeLists) (n m : ℕ) → IsApart t → next_node t n ≡ Some m → m < length t.keys
next_there t n m apart e = by_holder (holder t n) e
  where
    by_holder : (o : Option ℕ) → option_and_then (λ l. next_in_list (list_at t l) n) o ≡ Some m → m < length t.keys
    by_holder None h = absurd cc
    by_holder (Some l) h = apart.nodes l m (apart.alone l m (next_in_list-has (list_at t l) n m h))

module _ (t : NodeLists) (l n : ℕ) (k : Key) (apart : IsApart t) (held : holder t n ≡ Some l) (sorted : IsSorted t l)
    (fits : FitsBetween t n k) where
  listed : has n (list_at t l) ≡ true
  listed = apart.listed l n held

  front : List ℕ
  front = (has_split n (list_at t l) listed).0

  back : List ℕ
  back = (has_split n (list_at t l) listed).1

  parts : list_at t l ≡ front ++ n ∷ back
  unfolding front back
  parts = (has_split n (list_at t l) listed).2

  free : HasNoRepeats (front ++ back) × (has n front ≡ false) × (has n back ≡ false)
  free = HasNoRepeats-taken front back n (subst HasNoRepeats parts (apart.once l))

  next_is : next_node t n ≡ first_of back
  next_is = next_of_is t l n apart listed ∙ ap (λ zs. next_in_list zs n) parts ∙ next_in_list-split front back n free.1

  prev_is : prev_node t n ≡ last_of front
  prev_is =
      ap (λ o. option_and_then (λ j. prev_in_list (list_at t j) n) o) held
      ∙ ap (λ zs. prev_in_list zs n) parts ∙ prev_from-split None front back n free.1

  abbrev keys : List Key
  keys = set t.keys n k

  key_new : key_in keys n ≡ k
  key_new = get_or-set_same t.keys n k no_key (apart.nodes l n held)

  key_kept : (m : ℕ) (xs : List ℕ) → has m xs ≡ true → has n xs ≡ false → key_in keys m ≡ key_in t.keys m
  key_kept m xs in' absent = get_or-set_other t.keys n m k no_key (apart_by_has m n xs in' absent)

  before : (m : ℕ) → has m front ≡ true → comes_before (key_in keys n) (key_in keys m) ≡ false
  before m in' =
      (λ i. comes_before (key_new i) (key_kept m front in' free.1 i))
      ∙ none_later t.keys k front (IsInOrder-front t.keys front (n ∷ back) (subst (IsInOrder t.keys) parts sorted))
      (λ p e. fits.before p (prev_is ∙ e)) m in'

  behind : (m : ℕ) → first_of back ≡ Some m → comes_before (key_in keys n) (key_in keys m) ≡ true
  behind m first =
      (λ i. comes_before (key_new i) (key_kept m back (first_of-has back m first) free.2 i))
      ∙ fits.behind m (next_is ∙ first)

  without_is : list_without n (list_at t l) ≡ front ++ back
  without_is = ap (list_without n) parts ∙ list_without-split front back n free.1 free.2

  -- a node that fits between its neighbours with another key is put where it was
  pub rekeyed-in_place : table_after_insert (table_after_remove t l n) l n k ≡ with_key t n k
  rekeyed-in_place =
      let put : list_after_insert keys n (list_at (table_after_remove t l n) l) ≡ list_at t l =
      ap (list_after_insert keys n) (list_at-same t l (list_without n (list_at t l)) (apart.lists l n held) ∙ without_is)
      ∙ placed-split keys n front back before behind ∙ sym parts in
      ap (λ (ls : List (List ℕ)). record { lists = ls; keys = keys })
      (ap (λ zs. set (set t.lists l (list_without n (list_at t l))) l zs) put
      ∙ set-set t.lists l (list_without n (list_at t l)) (list_at t l) ∙ set-get_or t.lists l [])

  -- and its list is still sorted
  pub rekeyed_sorted : IsSorted (with_key t n k) l
  rekeyed_sorted =
      let rest : IsInOrder keys (front ++ back) =
      subst (IsInOrder keys) without_is
      (IsInOrder-elsewhere t.keys n k (list_without n (list_at t l)) (absent_rest) (IsInOrder-list_without t.keys n (list_at t l) sorted)) in
      subst (IsInOrder keys) (sym parts)
      (IsInOrder-put keys n front back rest before (back_no_earlier keys (key_in keys n) front back rest behind))
    where
      absent_rest : has n (list_without n (list_at t l)) ≡ false
      absent_rest = has-list_without n (list_at t l)
