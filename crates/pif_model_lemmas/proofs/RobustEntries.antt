-- Lemmas on lists of mutexes: what they have, and what is left of them without one.
use Rattle.std.proofs.Common.{◌≡◌, ℕ, ◌+◌, ◌≤◌, true, false, eqb, ◌||◌, List, [], ◌∷◌, ◌++◌, Option, Some, None, refl, sym, ◌∙◌, ap, subst, ⊎_elim, arith, length, get_or, set}
use Rattle.std.specs.List.{IsDistinct, AllByRecursion}
use Rattle.std.proofs.Math.Seq.{set_out}
use Rattle.std.proofs.lemmas.Bool.{or_parts, or_from, or_left, or_right, eq-eqb, ne_eqb, eqb-true, eqb-false, cases_Bool, cases_eq, cases_lt, both_ways}
use Rattle.std.proofs.lemmas.List.{get_or-set_same, get_or-set_other}
use Rattle.std.proofs.lemmas.List.Folds.{list_any-append}
use Rattle.std.proofs.lemmas.Map.Keys.{IsDistinct-cons}
use Rattle.std.proofs.lemmas.Map.Steps.{length-le_from_distinct_below}
use Rattle.pif_model.specs.RobustList.{has_entry, without_entry, HasNoRepeats}
use Rattle.pif_model_lemmas.specs.RobustWalks.{first_or, last_or}

eqb_self : (m : ℕ) → eqb m m ≡ true
eqb_self m = eq-eqb m m refl

-- a write of an element that f can't tell from the old one leaves f of each element
pub kept : {X Y : Type 0} (f : X → Y) (xs : List X) (i : ℕ) (y d : X) (m : ℕ) → f y ≡ f (get_or xs i d) →
    f (get_or (set xs i y) m d) ≡ f (get_or xs m d)
kept f xs i y d m same = ⊎_elim
    (λ e. ⊎_elim
    (λ l. ap (λ k. f (get_or (set xs i y) k d)) e ∙ ap f (get_or-set_same xs i y d l) ∙ same
    ∙ ap (λ k. f (get_or xs k d)) (sym e))
    (λ l. ap (λ zs. f (get_or zs m d)) (set_out xs i y l))
    (cases_lt i (length xs)))
    (λ ne. ap f (get_or-set_other xs i m y d ne))
    (cases_eq m i)

-- what two lists have, joined
pub has-append : (m : ℕ) (xs ys : List ℕ) → has_entry (xs ++ ys) m ≡ (has_entry xs m || has_entry ys m)
has-append m xs ys = list_any-append (eqb m) xs ys

pub has-left : (m : ℕ) (xs ys : List ℕ) → has_entry xs m ≡ true → has_entry (xs ++ ys) m ≡ true
has-left m xs ys h = has-append m xs ys ∙ or_left (has_entry xs m) (has_entry ys m) h

pub has-right : (m : ℕ) (xs ys : List ℕ) → has_entry ys m ≡ true → has_entry (xs ++ ys) m ≡ true
has-right m xs ys h = has-append m xs ys ∙ or_right (has_entry xs m) (has_entry ys m) h

pub has-head : (m : ℕ) (xs : List ℕ) → has_entry (m ∷ xs) m ≡ true
has-head m xs = or_left (eqb m m) (has_entry xs m) (eqb_self m)

pub has-tail : (k m : ℕ) (xs : List ℕ) → has_entry xs k ≡ true → has_entry (m ∷ xs) k ≡ true
has-tail k m xs h = or_right (eqb k m) (has_entry xs k) h

-- joined lists that lack a mutex
has-parts : (m : ℕ) (xs ys : List ℕ) → has_entry (xs ++ ys) m ≡ false →
    (has_entry xs m ≡ false) × (has_entry ys m ≡ false)
has-parts m xs ys h = or_parts (has_entry xs m) (has_entry ys m) (sym (has-append m xs ys) ∙ h)

has-neither : (m : ℕ) (xs ys : List ℕ) → has_entry xs m ≡ false → has_entry ys m ≡ false →
    has_entry (xs ++ ys) m ≡ false
has-neither m xs ys h k = has-append m xs ys ∙ or_from (has_entry xs m) (has_entry ys m) h k

-- a mutex that a list has isn't one that it lacks
pub apart : (k m : ℕ) (xs : List ℕ) → has_entry xs k ≡ true → has_entry xs m ≡ false → k ≡ m → ⊥
apart k m xs h lack e = both_ways (has_entry xs m) lack (subst (λ (z : ℕ). has_entry xs z ≡ true) e h)

-- a list that has m is m between two others
pub has_split : (m : ℕ) (xs : List ℕ) → has_entry xs m ≡ true → (front back : List ℕ) × (xs ≡ front ++ m ∷ back)
has_split m [] h = absurd cc
has_split m (x ∷ xs) h = ⊎_elim
    (λ e. ([], xs, ap (λ z. z ∷ xs) (sym (eqb-true m x e))))
    (λ e. let rest : has_entry xs m ≡ true = rw e at h in
    let r = has_split m xs rest in
    (x ∷ r.0, r.1, ap (λ zs. x ∷ zs) r.2))
    (cases_Bool (eqb m x))

-- if no mutex stands twice, none does once m is taken out, and m is on neither side
pub record Apart (front back : List ℕ) (m : ℕ) : Type 0 where
  pub once : HasNoRepeats (front ++ back)
  pub front_lacks : has_entry front m ≡ false
  pub back_lacks : has_entry back m ≡ false
  pub front_once : HasNoRepeats front
  pub back_once : HasNoRepeats back
  pub sides : (k : ℕ) → has_entry front k ≡ true → has_entry back k ≡ false

pub Apart-from_once : (front back : List ℕ) (m : ℕ) → HasNoRepeats (front ++ m ∷ back) → Apart front back m
Apart-from_once [] back m once = record {
  once = once.1;
  front_lacks = refl;
  back_lacks = once.0;
  front_once = record {};
  back_once = once.1;
  sides = λ k h. absurd cc;
}
Apart-from_once (x ∷ xs) back m once =
    let rest = Apart-from_once xs back m once.1 in
    let parts = has-parts x xs (m ∷ back) once.0 in
    let ends = or_parts (eqb x m) (has_entry back x) parts.1 in
    let ne : m ≡ x → ⊥ = λ e. eqb-false x m ends.0 (sym e) in
    record {
      once = (has-neither x xs back parts.0 ends.1, rest.once);
      front_lacks = or_from (eqb m x) (has_entry xs m) (ne_eqb m x ne) rest.front_lacks;
      back_lacks = rest.back_lacks;
      front_once = (parts.0, rest.front_once);
      back_once = rest.back_once;
      sides = λ k h. ⊎_elim
          (λ e. subst (λ (z : ℕ). has_entry back z ≡ false) (sym (eqb-true k x e)) ends.1)
          (λ e. let tail : has_entry xs k ≡ true = rw e at h in rest.sides k tail)
          (cases_Bool (eqb k x));
    }

-- a list without a mutex that it lacks is itself
without-absent : (m : ℕ) (xs : List ℕ) → has_entry xs m ≡ false → without_entry xs m ≡ xs
without-absent m [] h = refl
without-absent m (x ∷ xs) h =
    let parts = or_parts (eqb m x) (has_entry xs m) h in
    rw parts.0 (ap (λ zs. x ∷ zs) (without-absent m xs parts.1))

-- a list without m is what was before m and what was after it
pub without-split : (front back : List ℕ) (m : ℕ) → has_entry front m ≡ false → has_entry back m ≡ false →
    without_entry (front ++ m ∷ back) m ≡ front ++ back
without-split [] back m h k = rw (eqb_self m) (without-absent m back k)
without-split (x ∷ xs) back m h k =
    let parts = or_parts (eqb m x) (has_entry xs m) h in
    rw parts.0 (ap (λ zs. x ∷ zs) (without-split xs back m parts.1 k))

-- another mutex is still on the list that is without m
pub has-without : (k m : ℕ) (xs : List ℕ) → (k ≡ m → ⊥) → has_entry xs k ≡ true →
    has_entry (without_entry xs m) k ≡ true
has-without k m [] ne h = h
has-without k m (x ∷ xs) ne h = ⊎_elim
    (λ e. let lost : eqb k x ≡ false = ne_eqb k x (λ g. ne (g ∙ sym (eqb-true m x e))) in
    let rest : has_entry xs k ≡ true = rw lost at h in
    rw e (has-without k m xs ne rest))
    (λ e. rw e (⊎_elim
    (λ g. rw g refl)
    (λ g. let rest : has_entry xs k ≡ true = rw g at h in rw g (has-without k m xs ne rest))
    (cases_Bool (eqb k x))))
    (cases_Bool (eqb m x))

-- what a list without m has, it has with it
pub has-from_without : (k m : ℕ) (xs : List ℕ) → has_entry xs k ≡ false → has_entry (without_entry xs m) k ≡ false
has-from_without k m [] h = refl
has-from_without k m (x ∷ xs) h =
    let parts = or_parts (eqb k x) (has_entry xs k) h in
    ⊎_elim
    (λ e. rw e (has-from_without k m xs parts.1))
    (λ e. rw e (rw parts.0 (has-from_without k m xs parts.1)))
    (cases_Bool (eqb m x))

-- a mutex that is on the list without m is on the list
pub has-with : (k m : ℕ) (xs : List ℕ) → has_entry (without_entry xs m) k ≡ true → has_entry xs k ≡ true
has-with k m xs h = ⊎_elim (λ e. e) (λ e. absurd
    (both_ways (has_entry (without_entry xs m) k) (has-from_without k m xs e) h)) (cases_Bool (has_entry xs k))

-- m is not on the list that is without it
pub has-without_same : (m : ℕ) (xs : List ℕ) → has_entry (without_entry xs m) m ≡ false
has-without_same m [] = refl
has-without_same m (x ∷ xs) = ⊎_elim
    (λ e. rw e (has-without_same m xs))
    (λ e. rw e (rw e (has-without_same m xs)))
    (cases_Bool (eqb m x))

pub HasNoRepeats-without : (m : ℕ) (xs : List ℕ) → HasNoRepeats xs → HasNoRepeats (without_entry xs m)
HasNoRepeats-without m [] once = once
HasNoRepeats-without m (x ∷ xs) once = ⊎_elim
    (λ e. rw e (HasNoRepeats-without m xs once.1))
    (λ e. rw e (has-from_without x m xs once.0, HasNoRepeats-without m xs once.1))
    (cases_Bool (eqb m x))

-- the last of some mutexes is one of them
pub last-has : (before : Option ℕ) (x : ℕ) (xs : List ℕ) (m : ℕ) → last_or before (x ∷ xs) ≡ Some m →
    has_entry (x ∷ xs) m ≡ true
last-has before x [] m h = let e : m ≡ x = cc in or_left (eqb m x) false (eq-eqb m x e)
last-has before x (y ∷ ys) m h = has-tail m x (y ∷ ys) (last-has (Some x) y ys m h)

pub last_or-has : (xs : List ℕ) (m : ℕ) → last_or None xs ≡ Some m → has_entry xs m ≡ true
last_or-has [] m h = absurd cc
last_or-has (x ∷ xs) m h = last-has None x xs m h

pub first_or-has : (xs : List ℕ) (m : ℕ) → first_or xs None ≡ Some m → has_entry xs m ≡ true
first_or-has [] m h = absurd cc
first_or-has (x ∷ xs) m h = let e : m ≡ x = cc in or_left (eqb m x) (has_entry xs m) (eq-eqb m x e)

-- a mutex that a list lacks differs from each on it
all_apart : (x : ℕ) (xs : List ℕ) → has_entry xs x ≡ false → AllByRecursion (λ y. eqb x y ≡ false) xs
all_apart x [] h = record {}
all_apart x (y ∷ ys) h = let parts = or_parts (eqb x y) (has_entry ys x) h in (parts.0, all_apart x ys parts.1)

-- std's word for a list in which no number stands twice
distinct : (xs : List ℕ) → HasNoRepeats xs → IsDistinct eqb xs
unfolding IsDistinct
distinct [] h = record {}
distinct (x ∷ xs) h = IsDistinct-cons eqb x xs (all_apart x xs h.0) (distinct xs h.1)

-- different mutexes from 1 to n are at most n
pub length-mutexes : (xs : List ℕ) (n : ℕ) → HasNoRepeats xs → ((m : ℕ) → has_entry xs m ≡ true → 1 ≤ m) →
    ((m : ℕ) → has_entry xs m ≡ true → m ≤ n) → length xs ≤ n
length-mutexes xs n once least most =
    let lacks : has_entry xs 0 ≡ false = ⊎_elim (λ e. absurd (let l = least 0 e in omega arith)) (λ e. e)
    (cases_Bool (has_entry xs 0)) in
    let all : HasNoRepeats (0 ∷ xs) = (lacks, once) in
    omega (
      arith,
      length-le_from_distinct_below (0 ∷ xs) (n + 1) (distinct (0 ∷ xs) all)
          (λ q h. ⊎_elim
          (λ e. let zero_is : q ≡ 0 = eqb-true q 0 e in omega arith)
          (λ e. let rest : has_entry xs q ≡ true = rw e at h in omega (arith, most q rest))
          (cases_Bool (eqb q 0))),
    )
