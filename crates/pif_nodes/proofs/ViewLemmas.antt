-- Lemmas on what callers see of a table's fields.
use Rattle.std.proofs.Common.{◌≡◌, ℕ, zero, suc, ◌<◌, ◌≤◌, true, false, eqb, List, [], ◌∷◌, ◌++◌, Option, Some, None, option_and_then, refl, sym, ◌∙◌, ap, subst, ⊎_elim, arith, length, get_or, set, map, replicate}
use Rattle.std.specs.List.{IsDistinct, AllByRecursion}
use Rattle.std.proofs.Math.Seq.{map-set_same}
use Rattle.std.proofs.lemmas.Bool.{or_parts, cases_lt}
use Rattle.std.proofs.lemmas.List.{append_assoc, ext_get_or, get_or-map, length-map, map-set, get_or-replicate, get_or_past, length-replicate}
use Rattle.std.proofs.lemmas.Map.Keys.{IsDistinct-cons}
use Rattle.std.proofs.lemmas.Map.Steps.{length-le_from_distinct_below}
use Rattle.pif_nodes_model.specs.declared.keys.Key.{Key}
use Rattle.pif_nodes.specs.declared.slots.Slot.{Slot}
use Rattle.pif_nodes.specs.declared.slots.Ends.{Ends}
use Rattle.pif_nodes_model.specs.Lists.{has, first_of, last_of, next_in_list, prev_in_list, HasNoRepeats}
use Rattle.pif_nodes_model.specs.Table.{list_with, IsApart}
use Rattle.pif_nodes.specs.Links.{free_slot, empty_ends, slot_at, walk, lists_of, keys_of, with_next, with_prev, with_place, slots_after_link, slots_after_unlink, with_slot_key, Ties}
use Rattle.pif_nodes_model.proofs.ListLemmas.{next_in_list-split, HasNoRepeats-taken, has-right, has-head}
use Rattle.pif_nodes.proofs.HolderLemmas.{list_with-has, list_with-within}
use Rattle.pif_nodes.proofs.TiesLemmas.{within_from_Ties, kept}

-- a number that a list doesn't have differs from each of its numbers
all_apart : (x : ℕ) (xs : List ℕ) → has x xs ≡ false → AllByRecursion (λ y. eqb x y ≡ false) xs
all_apart x [] h = record {}
all_apart x (y ∷ ys) h = let parts = or_parts (eqb x y) (has x ys) h in (parts.0, all_apart x ys parts.1)

-- std's word for a list in which no number stands twice
distinct : (xs : List ℕ) → HasNoRepeats xs → IsDistinct eqb xs
unfolding IsDistinct
distinct [] h = record {}
distinct (x ∷ xs) h = IsDistinct-cons eqb x xs (all_apart x xs h.0) (distinct xs h.1)

-- a list has no more nodes than the table
short : (ns : List Slot) (es : List Ends) (ls : List (List ℕ)) (l : ℕ) → Ties ns es ls → length (get_or ls l []) ≤ length ns
short ns es ls l t = length-le_from_distinct_below (get_or ls l []) (length ns) (distinct (get_or ls l []) (t.once l))
    (λ q h. within_from_Ties ns es ls q l t (t.alone l q h))

-- a walk along `next` from the first of the back goes over the back
walk-back : (ns : List Slot) (front back : List ℕ) (most : ℕ) → HasNoRepeats (front ++ back) → ((n : ℕ) → has n (front ++ back) ≡ true → (slot_at ns n).next ≡ next_in_list (front ++ back) n) → length back ≤ most → walk most ns (first_of back) ≡ back
walk-back ns front [] zero once links enough = refl
walk-back ns front [] (suc most) once links enough = refl
walk-back ns front (x ∷ xs) zero once links enough = absurd (omega arith)
walk-back ns front (x ∷ xs) (suc most) once links enough =
    let parts = HasNoRepeats-taken front xs x once in
    let to : (slot_at ns x).next ≡ first_of xs = links x (has-right x front (x ∷ xs) (has-head x xs)) ∙ next_in_list-split front xs x parts.1 in
    let e : (front ++ x ∷ []) ++ xs ≡ front ++ x ∷ xs = append_assoc front (x ∷ []) xs in
    let rest = walk-back ns (front ++ x ∷ []) xs most (subst HasNoRepeats (sym e) once)
    (subst (λ (zs : List ℕ). (n : ℕ) → has n zs ≡ true → (slot_at ns n).next ≡ next_in_list zs n) (sym e) links) (omega arith) in
    ap (λ zs. x ∷ zs) (ap (walk most ns) to ∙ rest)

-- links that hold some lists make those lists
pub lists_of_is : (ns : List Slot) (es : List Ends) (ls : List (List ℕ)) → Ties ns es ls → lists_of ns es ≡ ls
unfolding lists_of
lists_of_is ns es ls t = ext_get_or [] (map (λ e. walk (length ns) ns e.first) es) ls (length-map es (λ e. walk (length ns) ns e.first) ∙ t.lists)
    (λ l l_in.
    let l_es : l < length es = omega (arith, length-map es (λ e. walk (length ns) ns e.first)) in
    get_or-map (λ e. walk (length ns) ns e.first) es l empty_ends [] l_es
    ∙ ap (walk (length ns) ns) (t.first l)
    ∙ walk-back ns [] (get_or ls l []) (length ns) (t.once l)
    (λ n h. t.next n ∙ ap (λ o. option_and_then (λ k. next_in_list (get_or ls k []) n) o) (t.alone l n h))
    (short ns es ls l t))

pub length-keys_of : (ns : List Slot) → length (keys_of ns) ≡ length ns
unfolding keys_of
length-keys_of ns = length-map ns (λ s. record { prio = s.prio; ticket = s.ticket })

-- the key that a table has is that of the node's fields
pub key_of_slot : (ns : List Slot) (n : ℕ) → n < length ns → get_or (keys_of ns) n (record { prio = 0; ticket = 0 }) ≡ record { prio = (slot_at ns n).prio; ticket = (slot_at ns n).ticket }
unfolding keys_of
key_of_slot ns n n_in = get_or-map (λ s. record { prio = s.prio; ticket = s.ticket }) ns n free_slot (record { prio = 0; ticket = 0 }) n_in

-- a node's key as another node's field changes
keys_next : (ns : List Slot) (p to : Option ℕ) → keys_of (with_next ns p to) ≡ keys_of ns
unfolding keys_of
keys_next ns None to = refl
keys_next ns (Some p) to = map-set_same (λ s. record { prio = s.prio; ticket = s.ticket }) ns p (record (slot_at ns p) { next = to }) free_slot refl

keys_prev : (ns : List Slot) (p to : Option ℕ) → keys_of (with_prev ns p to) ≡ keys_of ns
unfolding keys_of
keys_prev ns None to = refl
keys_prev ns (Some p) to = map-set_same (λ s. record { prio = s.prio; ticket = s.ticket }) ns p (record (slot_at ns p) { prev = to }) free_slot refl

keys_place : (ns : List Slot) (n : ℕ) (list prev next : Option ℕ) → keys_of (with_place ns n list prev next) ≡ keys_of ns
unfolding keys_of
keys_place ns n list prev next = map-set_same (λ s. record { prio = s.prio; ticket = s.ticket }) ns n (record (slot_at ns n) { prev = prev; next = next; list = list }) free_slot refl

pub keys_of-linked : (ns : List Slot) (l : ℕ) (prev next : Option ℕ) (n : ℕ)
    → keys_of (slots_after_link ns l prev next n) ≡ keys_of ns
keys_of-linked ns l prev next n =
    keys_prev (with_next (with_place ns n (Some l) prev next) prev (Some n)) next (Some n) ∙ keys_next (with_place ns n (Some l) prev next) prev (Some n) ∙ keys_place ns n (Some l) prev next

pub keys_of-unlinked : (ns : List Slot) (prev next : Option ℕ) (n : ℕ)
    → keys_of (slots_after_unlink ns prev next n) ≡ keys_of ns
keys_of-unlinked ns prev next n =
    keys_prev (with_next (with_place ns n None None None) prev next) next prev ∙ keys_next (with_place ns n None None None) prev next ∙ keys_place ns n None None None

-- another key of a node
pub keys_of-renamed : (ns : List Slot) (n prio ticket : ℕ) → keys_of (with_slot_key ns n prio ticket) ≡ set (keys_of ns) n (record { prio = prio; ticket = ticket })
unfolding keys_of
keys_of-renamed ns n prio ticket = map-set (λ s. record { prio = s.prio; ticket = s.ticket }) ns n (record (slot_at ns n) { prio = prio; ticket = ticket })

pub Ties-renamed : (ns : List Slot) (es : List Ends) (ls : List (List ℕ)) (n prio ticket : ℕ) → Ties ns es ls → Ties (with_slot_key ns n prio ticket) es ls
Ties-renamed ns es ls n prio ticket t =
    let slot : Slot = record (slot_at ns n) { prio = prio; ticket = ticket } in
    record {
      lists = t.lists;
      owner = λ m. kept (λ s. s.list) ns n slot free_slot m refl ∙ t.owner m;
      next = λ m. kept (λ s. s.next) ns n slot free_slot m refl ∙ t.next m;
      prev = λ m. kept (λ s. s.prev) ns n slot free_slot m refl ∙ t.prev m;
      first = t.first;
      last = t.last;
      once = t.once;
      alone = t.alone;
    }

-- each node is in at most one list, and once
pub IsApart-from_Ties : (ns : List Slot) (es : List Ends) (ls : List (List ℕ)) → Ties ns es ls → (keys : List Key) → length keys ≡ length ns → IsApart (record { lists = ls; keys = keys })
IsApart-from_Ties ns es ls t keys same = record {
  once = t.once;
  alone = t.alone;
  listed = λ l n h. list_with-has ls n l h;
  nodes = λ l n h. omega (arith, same, within_from_Ties ns es ls n l t h);
  lists = λ l n h. list_with-within ls n l h;
}

-- an element of a list of one value, also past its end
replicate_at : {X : Type 0} (k : ℕ) (x : X) (i : ℕ) → get_or (replicate k x) i x ≡ x
replicate_at k x i = ⊎_elim (λ l. get_or-replicate k i x x l) (λ l. get_or_past (replicate k x) i x (omega (arith, length-replicate k x))) (cases_lt i k)

-- empty lists have no node
list_with-empty : (k n : ℕ) → list_with (replicate k []) n ≡ None
list_with-empty zero n = refl
list_with-empty (suc k) n = rw (list_with-empty k n) refl

-- a new table
pub Ties-new : (nodes lists : ℕ) → Ties (replicate nodes free_slot) (replicate lists empty_ends) (replicate lists [])
Ties-new nodes lists =
    let slot = λ (n : ℕ). replicate_at nodes free_slot n in
    let ends = λ (l : ℕ). replicate_at lists empty_ends l in
    let xs : (l : ℕ) → get_or (replicate lists []) l [] ≡ [] = λ l. replicate_at {X = List ℕ} lists [] l in
    record {
      lists = length-replicate lists empty_ends ∙ sym (length-replicate {A = List ℕ} lists []);
      owner = λ n. ap (λ (s : Slot). s.list) (slot n) ∙ sym (list_with-empty lists n);
      next = λ n. ap (λ (s : Slot). s.next) (slot n) ∙ ap (λ o. option_and_then (λ l. next_in_list (get_or (replicate lists []) l []) n) o) (sym (list_with-empty lists n));
      prev = λ n. ap (λ (s : Slot). s.prev) (slot n) ∙ ap (λ o. option_and_then (λ l. prev_in_list (get_or (replicate lists []) l []) n) o) (sym (list_with-empty lists n));
      first = λ l. ap (λ (e : Ends). e.first) (ends l) ∙ ap first_of (sym (xs l));
      last = λ l. ap (λ (e : Ends). e.last) (ends l) ∙ ap last_of (sym (xs l));
      once = λ l. subst HasNoRepeats (sym (xs l)) (record {});
      alone = λ l n h. let e : false ≡ true = ap (has n) (sym (xs l)) ∙ h in absurd cc;
    }

pub keys_of-new : (nodes : ℕ) → keys_of (replicate nodes free_slot) ≡ replicate nodes (record { prio = 0; ticket = 0 })
unfolding keys_of
keys_of-new zero = refl
keys_of-new (suc nodes) = ap (λ zs. record { prio = 0; ticket = 0 } ∷ zs) (keys_of-new nodes)
