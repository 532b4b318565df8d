-- The owners that a slab holds, as a map.
use Rattle.std.proofs.Common.{◌≡◌, ◌≢◌, ◌⊎◌, ℕ, zero, suc, ◌+◌, ◌<◌, true, false, cond, List, [], ◌∷◌, get_or, Option, Some, None, is_some, count_by, refl, sym, ◌∙◌, ap, inl, inr, arith}
use Rattle.std.proofs.lemmas.Bool.{cases_eq, eq-eqb, ne_eqb}
use Rattle.std.proofs.lemmas.List.Sums.{sum_by-cons}
use Rattle.std.specs.Ordering.{nat_cmp, eq_by_cmp}
use Rattle.std.specs.Cmp.{nat_cmp_total, unsigned_tied}
use Rattle.std.specs.FinMap.{FinMap, empty, get, insert, remove, len, find, from_entries, get-insert, get-remove, get-from_entries, len-insert, len-empty, same_map, nat_cmp-IsAntisymmetric}
use Rattle.slab.specs.Slab.{Slab, Updates, entries_from, slab_len}
use Rattle.slab.specs.Slab.{get as value_at}
use Rattle.pif_kernel_model.specs.OwnerMaps.{owners_of}

-- what an insert and a removal leave at the key, and at every other
pub get-insert_same : (m : FinMap nat_cmp ℕ) (k v q : ℕ) → q ≡ k → get (insert m k v) q ≡ Some v
get-insert_same m k v q e =
    get-insert nat_cmp_total m k v q ∙ ap (λ b. cond b (Some v) (get m q)) (unsigned_tied q k ∙ eq-eqb q k e)

pub get-insert_other : (m : FinMap nat_cmp ℕ) (k v q : ℕ) → q ≢ k → get (insert m k v) q ≡ get m q
get-insert_other m k v q e =
    get-insert nat_cmp_total m k v q ∙ ap (λ b. cond b (Some v) (get m q)) (unsigned_tied q k ∙ ne_eqb q k e)

pub get-remove_same : (m : FinMap nat_cmp ℕ) (k q : ℕ) → q ≡ k → get (remove m k) q ≡ None
get-remove_same m k q e = get-remove nat_cmp_total m k q ∙ ap (λ b. cond b None (get m q)) (unsigned_tied q k ∙ eq-eqb q k e)

pub get-remove_other : (m : FinMap nat_cmp ℕ) (k q : ℕ) → q ≢ k → get (remove m k) q ≡ get m q
get-remove_other m k q e = get-remove nat_cmp_total m k q ∙ ap (λ b. cond b None (get m q)) (unsigned_tied q k ∙ ne_eqb q k e)

-- no key below the first has a value
find-below : (first : ℕ) (slots : List (Option ℕ)) (q : ℕ) → q < first → find nat_cmp q (entries_from first slots) ≡ None
find-below first [] q l = refl
find-below first (None ∷ rest) q l = find-below (first + 1) rest q (omega arith)
find-below first (Some v ∷ rest) q l =
    let other : eq_by_cmp nat_cmp q first ≡ false = unsigned_tied q first ∙ ne_eqb q first (omega arith) in
    ap (λ b. cond b (Some v) (find nat_cmp q (entries_from (first + 1) rest))) other ∙ find-below (first + 1) rest q (omega arith)

-- the entries have the values of the slots
find-entries : (first : ℕ) (slots : List (Option ℕ)) (q at : ℕ) → q ≡ first + at
    → find nat_cmp q (entries_from first slots) ≡ get_or slots at None
find-entries first [] q at e = refl
find-entries first (None ∷ rest) q zero e = find-below (first + 1) rest q (omega arith)
find-entries first (None ∷ rest) q (suc at) e = find-entries (first + 1) rest q at (omega arith)
find-entries first (Some v ∷ rest) q zero e =
    let same : eq_by_cmp nat_cmp q first ≡ true = unsigned_tied q first ∙ eq-eqb q first (omega arith) in
    ap (λ b. cond b (Some v) (find nat_cmp q (entries_from (first + 1) rest))) same
find-entries first (Some v ∷ rest) q (suc at) e =
    let other : eq_by_cmp nat_cmp q first ≡ false = unsigned_tied q first ∙ ne_eqb q first (omega arith) in
    ap (λ b. cond b (Some v) (find nat_cmp q (entries_from (first + 1) rest))) other ∙ find-entries (first + 1) rest q at (omega arith)

-- there are as many owners as slots with a value
len-entries_from : (first : ℕ) (slots : List (Option ℕ)) → len (from_entries {R = nat_cmp} (entries_from first slots)) ≡ count_by is_some slots
len-entries_from first [] = len-empty nat_cmp ℕ
len-entries_from first (None ∷ rest) = omega (arith, len-entries_from (first + 1) rest, sum_by-cons (λ (o : Option ℕ). cond (is_some o) 1 0) None rest)
len-entries_from first (Some v ∷ rest) =
    let es = entries_from (first + 1) rest in
    let absent : get (from_entries {R = nat_cmp} es) first ≡ None = get-from_entries nat_cmp_total es first ∙ find-below (first + 1) rest first (omega arith) in
    let more : len (insert (from_entries {R = nat_cmp} es) first v) ≡ len (from_entries {R = nat_cmp} es) + 1 =
    len-insert nat_cmp_total (from_entries es) first v ∙ ap (λ (o : Option ℕ). cond (is_some o) (len (from_entries {R = nat_cmp} es)) (len (from_entries {R = nat_cmp} es) + 1)) absent in
    omega (arith, more, len-entries_from (first + 1) rest, sum_by-cons (λ (o : Option ℕ). cond (is_some o) 1 0) (Some v) rest)

-- the owner of each key
pub get-owners_of : (s : Slab ℕ) (k : ℕ) → get (owners_of s) k ≡ value_at s k
get-owners_of s k = get-from_entries nat_cmp_total (entries_from 0 s.slots) k ∙ find-entries 0 s.slots k k (omega arith)

pub len-owners_of : (s : Slab ℕ) → len (owners_of s) ≡ slab_len s
len-owners_of s = len-entries_from 0 s.slots

-- a slab with no slot has no owners
pub owners_of-empty : (s : Slab ℕ) → s.slots ≡ [] → owners_of s ≡ empty
owners_of-empty s e = ap (λ slots. from_entries {R = nat_cmp} (entries_from 0 slots)) e

-- the owners after a write of one key, and after a removal
pub owners_of-put : (old new : Slab ℕ) (k v : ℕ) → Updates old new k (Some v) → owners_of new ≡ insert (owners_of old) k v
owners_of-put old new k v u =
    same_map nat_cmp_total nat_cmp-IsAntisymmetric _ _ (λ q. get-owners_of new q ∙ by_key q (cases_eq q k))
  where
    by_key : (q : ℕ) → ((q ≡ k) ⊎ (q ≡ k → ⊥)) → value_at new q ≡ get (insert (owners_of old) k v) q
    by_key q (inl e) = ap (value_at new) e ∙ u.changed ∙ sym (get-insert_same (owners_of old) k v q e)
    by_key q (inr e) = u.others q e ∙ sym (get-owners_of old q) ∙ sym (get-insert_other (owners_of old) k v q e)

pub owners_of-removed : (old new : Slab ℕ) (k : ℕ) → Updates old new k None → owners_of new ≡ remove (owners_of old) k
owners_of-removed old new k u =
    same_map nat_cmp_total nat_cmp-IsAntisymmetric _ _ (λ q. get-owners_of new q ∙ by_key q (cases_eq q k))
  where
    by_key : (q : ℕ) → ((q ≡ k) ⊎ (q ≡ k → ⊥)) → value_at new q ≡ get (remove (owners_of old) k) q
    by_key q (inl e) = ap (value_at new) e ∙ u.changed ∙ sym (get-remove_same (owners_of old) k q e)
    by_key q (inr e) = u.others q e ∙ sym (get-owners_of old q) ∙ sym (get-remove_other (owners_of old) k q e)
