-- Lemmas on a node that gets a key and is put into a sorted list of a table by it.
use Rattle.std.proofs.Common.{◌≡◌, ℕ, ◌<◌, true, false, List, [], ◌∷◌, ◌++◌, Option, Some, None, refl, sym, ◌∙◌, ap, subst, length, set}
use Rattle.std.proofs.lemmas.Bool.{false_from_ne_true}
use Rattle.std.proofs.lemmas.List.{append_assoc, get_or-set_same, get_or-set_other}
use Rattle.pif_nodes_model.specs.declared.keys.Key.{Key}
use Rattle.pif_nodes_model.specs.Lists.{has, first_of, last_of, insert_after, list_without, HasNoRepeats}
use Rattle.pif_nodes_model.specs.Table.{NodeLists, list_at, holder, with_list, with_key, IsApart}
use Rattle.pif_nodes_model.proofs.ListLemmas.{has-left, has-right, last_of-has, first_of-has, last_split, last_some, apart_by_has, HasNoRepeats-taken, put_after-split}
use Rattle.pif_nodes_model.specs.Order.{comes_before, key_in, IsInOrder, IsSorted, list_after_insert, table_after_insert, table_after_remove, OthersStaySorted, IsPlace}
use Rattle.pif_nodes_model.proofs.OrderLemmas.{IsInOrder-same, IsInOrder-put, IsInOrder-list_without, placed-split, back_no_earlier}

-- a number put after the last of a front stands between the front and the back
insert_after-last : (front back : List ℕ) (n : ℕ) (place : Option ℕ) → place ≡ last_of front → HasNoRepeats (front ++ back) → insert_after place n (front ++ back) ≡ front ++ n ∷ back
insert_after-last [] back n None at once = refl
insert_after-last [] back n (Some p) at once = absurd cc
insert_after-last (x ∷ xs) back n None at once = absurd (last_some None x xs (sym at))
insert_after-last (x ∷ xs) back n (Some p) at once =
    let cut = last_split None x xs p (sym at) in
    let e : (x ∷ xs) ++ back ≡ cut.0 ++ p ∷ back = ap (λ zs. zs ++ back) cut.1 ∙ append_assoc cut.0 (p ∷ []) back in
    let free = HasNoRepeats-taken cut.0 back p (subst HasNoRepeats e once) in
    ap (insert_after (Some p) n) e ∙ put_after-split cut.0 back p n free.1
    ∙ sym (ap (λ zs. zs ++ n ∷ back) cut.1 ∙ append_assoc cut.0 (p ∷ []) (n ∷ back))

-- other lists are as they were
pub list_at-other : (t : NodeLists) (l j : ℕ) (xs : List ℕ) → (j ≡ l → ⊥) → list_at (with_list t l xs) j ≡ list_at t j
list_at-other t l j xs ne = get_or-set_other t.lists l j xs [] ne

pub list_at-same : (t : NodeLists) (l : ℕ) (xs : List ℕ) → l < length t.lists → list_at (with_list t l xs) l ≡ xs
list_at-same t l xs l_in = get_or-set_same t.lists l xs [] l_in

-- a list that doesn't have a node stays in order if only that node's key changes
pub IsInOrder-elsewhere : (keys : List Key) (n : ℕ) (k : Key) (xs : List ℕ) → has n xs ≡ false → IsInOrder keys xs → IsInOrder (set keys n k) xs
IsInOrder-elsewhere keys n k xs absent h =
    IsInOrder-same keys (set keys n k) xs (λ m in'. get_or-set_other keys n m k (record { prio = 0; ticket = 0 }) (apart_by_has m n xs in' absent)) h

-- a list other than the one in which a node is doesn't have it
pub absent_elsewhere : (t : NodeLists) (n j : ℕ) (o : Option ℕ) → IsApart t → holder t n ≡ o → (o ≡ Some j → ⊥) → has n (list_at t j) ≡ false
absent_elsewhere t n j o apart h other = false_from_ne_true (has n (list_at t j)) (λ e. other (sym h ∙ apart.alone j n e))

module _ (t : NodeLists) (l n : ℕ) (k : Key) (place : Option ℕ) (apart : IsApart t) (n_in : n < length t.keys) (l_in : l < length t.lists)
    (out : holder t n ≡ None) (sorted : IsSorted t l) (at : IsPlace t.keys k (list_at t l) place) where
  abbrev keys : List Key
  keys = set t.keys n k

  absent : (j : ℕ) → has n (list_at t j) ≡ false
  absent j = absent_elsewhere t n j None apart out (λ e. cc)

  key_new : key_in keys n ≡ k
  key_new = get_or-set_same t.keys n k (record { prio = 0; ticket = 0 }) n_in

  key_kept : (m : ℕ) → has m (list_at t l) ≡ true → key_in keys m ≡ key_in t.keys m
  key_kept m in' = get_or-set_other t.keys n m k (record { prio = 0; ticket = 0 }) (apart_by_has m n (list_at t l) in' (absent l))

  in_list : (m : ℕ) → has m (at.front ++ at.back) ≡ true → has m (list_at t l) ≡ true
  in_list m in' = ap (has m) at.parts ∙ in'

  before : (m : ℕ) → has m at.front ≡ true → comes_before (key_in keys n) (key_in keys m) ≡ false
  before m in' =
      let other = key_kept m (in_list m (has-left m at.front at.back in')) in
      (λ i. comes_before (key_new i) (other i)) ∙ at.before m in'

  behind : (m : ℕ) → first_of at.back ≡ Some m → comes_before (key_in keys n) (key_in keys m) ≡ true
  behind m first =
      let other = key_kept m (in_list m (has-right m at.front at.back (first_of-has at.back m first))) in
      (λ i. comes_before (key_new i) (other i)) ∙ at.behind m first

  order : IsInOrder keys (at.front ++ at.back)
  order = subst (IsInOrder keys) at.parts (IsInOrder-elsewhere t.keys n k (list_at t l) (absent l) sorted)

  placed_is : list_after_insert keys n (list_at t l) ≡ at.front ++ n ∷ at.back
  placed_is = ap (list_after_insert keys n) at.parts ∙ placed-split keys n at.front at.back before behind

  -- the place of a node in a sorted list is behind those that come no later
  pub put_is : insert_after place n (list_at t l) ≡ list_after_insert keys n (list_at t l)
  put_is = ap (insert_after place n) at.parts ∙ insert_after-last at.front at.back n place at.at (subst HasNoRepeats at.parts (apart.once l)) ∙ sym placed_is

  pub inserted_sorted : IsSorted (table_after_insert t l n k) l
  inserted_sorted =
      let put : IsInOrder keys (at.front ++ n ∷ at.back) = IsInOrder-put keys n at.front at.back order before (back_no_earlier keys (key_in keys n) at.front at.back order behind) in
      subst (IsInOrder keys) (sym (list_at-same (with_key t n k) l (list_after_insert keys n (list_at t l)) l_in
      ∙ placed_is)) put

  pub inserted_others : OthersStaySorted t (table_after_insert t l n k) l
  inserted_others j ne h =
      subst (IsInOrder keys) (sym (list_at-other (with_key t n k) l j (list_after_insert keys n (list_at t l)) ne))
      (IsInOrder-elsewhere t.keys n k (list_at t j) (absent j) h)

  -- the place is in the list
  pub place_held : (p : ℕ) → place ≡ Some p → holder t p ≡ Some l
  place_held p e = apart.alone l p (in_list p (has-left p at.front at.back (last_of-has at.front p (sym at.at ∙ e))))

-- a sorted list of a table without one of its nodes, and the others
pub removed_sorted : (t : NodeLists) (l n : ℕ) → l < length t.lists → IsSorted t l → IsSorted (table_after_remove t l n) l
removed_sorted t l n l_in sorted = subst (IsInOrder t.keys) (sym (list_at-same t l (list_without n (list_at t l)) l_in)) (IsInOrder-list_without t.keys n (list_at t l) sorted)
