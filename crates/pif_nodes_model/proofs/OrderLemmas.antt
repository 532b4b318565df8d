-- Lemmas on the order of keys, and on lists in that order.
use Rattle.std.proofs.Common.{◌≡◌, ℕ, ◌<◌, true, false, eqb, ltb, ◌||◌, ◌&&◌, List, [], ◌∷◌, ◌++◌, Some, refl, sym, ◌∙◌, ap, ◌⊎◌, inl, inr, ⊎_elim, arith}
use Rattle.std.proofs.lemmas.Bool.{cases_Bool, both_ways, or_cases, or_left, or_right, or_from, and_parts, and_from, and_right, eqb-true, eq-eqb, ltb-true, lt-ltb, le-ltb, false_from_ne_true, cases_eq}
use Rattle.pif_nodes_model.specs.declared.keys.Key.{Key}
use Rattle.pif_nodes_model.specs.Lists.{has, first_of, list_without}
use Rattle.pif_nodes_model.proofs.ListLemmas.{has-right, has-head, has-put}
use Rattle.pif_nodes_model.specs.Order.{comes_before, key_in, IsInOrder, list_after_insert}

-- a key that comes before another, as numbers
pub comes_before-cases : (a b : Key) → comes_before a b ≡ true → (b.prio < a.prio) ⊎ ((a.prio ≡ b.prio) × (a.ticket < b.ticket))
comes_before-cases a b h = ⊎_elim
    (λ e. inl (ltb-true b.prio a.prio e))
    (λ e. let parts = and_parts (eqb a.prio b.prio) (ltb a.ticket b.ticket) e in inr (eqb-true a.prio b.prio parts.0, ltb-true a.ticket b.ticket parts.1))
    (or_cases (ltb b.prio a.prio) (eqb a.prio b.prio && ltb a.ticket b.ticket) h)

pub comes_before-from : (a b : Key) → (b.prio < a.prio) ⊎ ((a.prio ≡ b.prio) × (a.ticket < b.ticket)) → comes_before a b ≡ true
comes_before-from a b h = ⊎_elim
    (λ l. or_left (ltb b.prio a.prio) (eqb a.prio b.prio && ltb a.ticket b.ticket) (lt-ltb b.prio a.prio l))
    (λ p. or_right (ltb b.prio a.prio) (eqb a.prio b.prio && ltb a.ticket b.ticket)
    (and_from (eqb a.prio b.prio) (ltb a.ticket b.ticket) (eq-eqb a.prio b.prio p.0) (lt-ltb a.ticket b.ticket p.1)))
    h

-- the same of numbers
later : (p s q t r u : ℕ) → (q < p) ⊎ ((p ≡ q) × (s < t)) → ((q < r) ⊎ ((r ≡ q) × (u < t)) → ⊥) → (r < p) ⊎ ((p ≡ r) × (s < u))
later p s q t r u h wrong = grind arith

-- a key that comes before one comes before what does not come before that one
pub comes_before-past : (a b c : Key) → comes_before a b ≡ true → comes_before c b ≡ false → comes_before a c ≡ true
comes_before-past a b c h k =
    let wrong : ((b.prio < c.prio) ⊎ ((c.prio ≡ b.prio) × (c.ticket < b.ticket)) → ⊥) = λ p. both_ways (comes_before c b) k (comes_before-from c b p) in
    comes_before-from a c (later a.prio a.ticket b.prio b.ticket c.prio c.ticket (comes_before-cases a b h) wrong)

-- two keys after one another, as numbers
chained : (p s q t r u : ℕ) → (q < p) ⊎ ((p ≡ q) × (s < t)) → (r < q) ⊎ ((q ≡ r) × (t < u)) → (r < p) ⊎ ((p ≡ r) × (s < u))
chained p s q t r u h k = grind arith

-- no key comes before itself
pub not_before-self : (a : Key) → comes_before a a ≡ false
not_before-self a = or_from (ltb a.prio a.prio) (eqb a.prio a.prio && ltb a.ticket a.ticket) (le-ltb a.prio a.prio (omega arith))
    (and_right (eqb a.prio a.prio) (ltb a.ticket a.ticket) (le-ltb a.ticket a.ticket (omega arith)))

-- a key that doesn't come before one doesn't come before what comes no later
pub not_before-trans : (a b c : Key) → comes_before a b ≡ false → comes_before b c ≡ false → comes_before a c ≡ false
not_before-trans a b c h k = false_from_ne_true (comes_before a c) (λ e. both_ways (comes_before a b) h (comes_before-past a c b e k))

-- what comes no earlier than a key does not come before what comes before that key
pub not_before-past : (a b c : Key) → comes_before a b ≡ true → comes_before c b ≡ false → comes_before c a ≡ false
not_before-past a b c h k = false_from_ne_true (comes_before c a) (λ e.
    both_ways (comes_before c b) k (comes_before-from c b (chained c.prio c.ticket a.prio a.ticket b.prio b.ticket (comes_before-cases c a e) (comes_before-cases a b h))))

-- the order depends on the keys of the list's nodes alone
pub IsInOrder-same : (was now : List Key) (xs : List ℕ) → ((m : ℕ) → has m xs ≡ true → key_in now m ≡ key_in was m) → IsInOrder was xs → IsInOrder now xs
IsInOrder-same was now [] same h = h
IsInOrder-same was now (x ∷ xs) same h = (
  (λ y in'. let first : key_in now x ≡ key_in was x = same x (has-head x xs) in
      let other : key_in now y ≡ key_in was y = same y (or_right (eqb y x) (has y xs) in') in
      (λ i. comes_before (other i) (first i)) ∙ h.0 y in'),
  IsInOrder-same was now xs (λ m in'. same m (or_right (eqb m x) (has m xs) in')) h.1,
)

-- what a list without a number has, the list has
pub has-from_without : (n m : ℕ) (xs : List ℕ) → has m (list_without n xs) ≡ true → has m xs ≡ true
has-from_without n m [] h = h
has-from_without n m (x ∷ xs) h = ⊎_elim
    (λ e. let rest : has m (list_without n xs) ≡ true = rw e at h in or_right (eqb m x) (has m xs) (has-from_without n m xs rest))
    (λ e. let kept : (eqb m x || has m (list_without n xs)) ≡ true = rw e at h in
    ⊎_elim (λ same. or_left (eqb m x) (has m xs) same) (λ rest. or_right (eqb m x) (has m xs) (has-from_without n m xs rest))
    (or_cases (eqb m x) (has m (list_without n xs)) kept))
    (cases_Bool (eqb n x))

-- a list stays in order without one of its numbers
pub IsInOrder-list_without : (keys : List Key) (n : ℕ) (xs : List ℕ) → IsInOrder keys xs → IsInOrder keys (list_without n xs)
IsInOrder-list_without keys n [] h = h
IsInOrder-list_without keys n (x ∷ xs) h = ⊎_elim
    (λ e. rw e (IsInOrder-list_without keys n xs h.1))
    (λ e. rw e ((λ y in'. h.0 y (has-from_without n y xs in')), IsInOrder-list_without keys n xs h.1))
    (cases_Bool (eqb n x))

-- the last of a list in order comes no earlier than the others
pub last_no_earlier : (keys : List Key) (xs : List ℕ) (l m : ℕ) → IsInOrder keys (xs ++ l ∷ []) → has m xs ≡ true → comes_before (key_in keys l) (key_in keys m) ≡ false
last_no_earlier keys [] l m h in' = absurd cc
last_no_earlier keys (x ∷ xs) l m h in' = ⊎_elim
    (λ e. let same : m ≡ x = eqb-true m x e in
    ap (λ z. comes_before (key_in keys l) (key_in keys z)) same ∙ h.0 l (has-right l xs (l ∷ []) (has-head l [])))
    (λ e. last_no_earlier keys xs l m h.1 e)
    (or_cases (eqb m x) (has m xs) in')

-- the nodes of the back come no earlier than a node that comes before the first of them
pub back_no_earlier : (keys : List Key) (k : Key) (front back : List ℕ) → IsInOrder keys (front ++ back) → ((m : ℕ) → first_of back ≡ Some m → comes_before k (key_in keys m) ≡ true) → (m : ℕ) → has m back ≡ true → comes_before (key_in keys m) k ≡ false
back_no_earlier keys k (x ∷ xs) back h behind m in' = back_no_earlier keys k xs back h.1 behind m in'
back_no_earlier keys k [] [] h behind m in' = absurd cc
back_no_earlier keys k [] (y ∷ ys) h behind m in' = ⊎_elim
    (λ e. let same : m ≡ y = eqb-true m y e in
    ap (λ z. comes_before (key_in keys z) k) same ∙ not_before-past k (key_in keys y) (key_in keys y) (behind y refl) (not_before-self (key_in keys y)))
    (λ e. not_before-past k (key_in keys y) (key_in keys m) (behind y refl) (h.0 m e))
    (or_cases (eqb m y) (has m ys) in')

-- a list stays in order with a node put where those before come no later, and those behind no earlier
pub IsInOrder-put : (keys : List Key) (n : ℕ) (front back : List ℕ) → IsInOrder keys (front ++ back) → ((m : ℕ) → has m front ≡ true → comes_before (key_in keys n) (key_in keys m) ≡ false) →
    ((m : ℕ) → has m back ≡ true → comes_before (key_in keys m) (key_in keys n) ≡ false) → IsInOrder keys (front ++ n ∷ back)
IsInOrder-put keys n [] back h before behind = (behind, h)
IsInOrder-put keys n (x ∷ xs) back h before behind = (
  (λ y in'. ⊎_elim
      (λ e. ap (λ z. comes_before (key_in keys z) (key_in keys x)) e ∙ before x (has-head x xs))
      (λ ne. h.0 y (sym (has-put y n xs back ne) ∙ in'))
      (cases_eq y n)),
  IsInOrder-put keys n xs back h.1 (λ m in'. before m (or_right (eqb m x) (has m xs) in')) behind,
)

-- a node is placed behind those that come no later
pub placed-split : (keys : List Key) (n : ℕ) (front back : List ℕ) → ((m : ℕ) → has m front ≡ true → comes_before (key_in keys n) (key_in keys m) ≡ false) →
    ((m : ℕ) → first_of back ≡ Some m → comes_before (key_in keys n) (key_in keys m) ≡ true)
    → list_after_insert keys n (front ++ back) ≡ front ++ n ∷ back
placed-split keys n [] [] before behind = refl
placed-split keys n [] (y ∷ ys) before behind = let e : comes_before (key_in keys n) (key_in keys y) ≡ true = behind y refl in rw e refl
placed-split keys n (x ∷ xs) back before behind =
    let e : comes_before (key_in keys n) (key_in keys x) ≡ false = before x (has-head x xs) in
    rw e (ap (λ zs. x ∷ zs) (placed-split keys n xs back (λ m in'. before m (or_right (eqb m x) (has m xs) in')) behind))
