-- Lemmas on lists of numbers: what stands next to what in `front ++ n ∷ back`, and in `front ++ back`.
use Rattle.std.proofs.Common.{◌≡◌, ℕ, true, false, cond, eqb, ◌||◌, List, [], ◌∷◌, ◌++◌, Option, Some, None, refl, sym, ◌∙◌, ap, subst, ⊎_elim}
use Rattle.std.proofs.lemmas.Bool.{or_parts, or_from, or_left, or_right, eq-eqb, ne_eqb, eqb-true, eqb-false, cases_Bool, both_ways}
use Rattle.std.proofs.lemmas.List.{append_assoc, append-nil}
use Rattle.std.proofs.lemmas.List.Folds.{list_any-append}
use Rattle.pif_nodes_model.specs.Lists.{has, first_of, last_or, last_of, next_in_list, prev_from, prev_in_list, put_after, list_without, HasNoRepeats}

pub eqb_self : (n : ℕ) → eqb n n ≡ true
eqb_self n = eq-eqb n n refl

-- after n stands the first of what follows
pub next_in_list-split : (front back : List ℕ) (n : ℕ) → has n front ≡ false → next_in_list (front ++ n ∷ back) n ≡ first_of back
next_in_list-split [] back n h = rw (eqb_self n) refl
next_in_list-split (x ∷ xs) back n h =
    let parts = or_parts (eqb n x) (has n xs) h in
    rw parts.0 (next_in_list-split xs back n parts.1)

-- before n stands the last of what is before it
pub prev_from-split : (before : Option ℕ) (front back : List ℕ) (n : ℕ) → has n front ≡ false → prev_from before (front ++ n ∷ back) n ≡ last_or before front
prev_from-split before [] back n h = rw (eqb_self n) refl
prev_from-split before (x ∷ xs) back n h =
    let parts = or_parts (eqb n x) (has n xs) h in
    rw parts.0 (prev_from-split (Some x) xs back n parts.1)

-- the number after another one than the last of the front stays if n is put in
pub next_in_list-put : (before : Option ℕ) (front back : List ℕ) (n m : ℕ) → (m ≡ n → ⊥) → (last_or before front ≡ Some m → ⊥) → next_in_list (front ++ n ∷ back) m ≡ next_in_list (front ++ back) m
next_in_list-put before [] back n m apart other = rw (ne_eqb m n apart) refl
next_in_list-put before (x ∷ []) back n m apart other =
    let ne : eqb m x ≡ false = ne_eqb m x (λ e. other (ap Some (sym e))) in
    rw (ne, ne_eqb m n apart) refl
next_in_list-put before (x ∷ (y ∷ ys)) back n m apart other =
    ap (λ rest. cond (eqb m x) (Some y) rest) (next_in_list-put (Some x) (y ∷ ys) back n m apart other)

-- the number before another one than the first of the back stays if n is put in
pub prev_from-put : (before : Option ℕ) (front back : List ℕ) (n m : ℕ) → (m ≡ n → ⊥) → (first_of back ≡ Some m → ⊥) → prev_from before (front ++ n ∷ back) m ≡ prev_from before (front ++ back) m
prev_from-put before [] [] n m apart other = rw (ne_eqb m n apart) refl
prev_from-put before [] (y ∷ ys) n m apart other =
    let ne : eqb m y ≡ false = ne_eqb m y (λ e. other (ap Some (sym e))) in
    rw (ne_eqb m n apart, ne) refl
prev_from-put before (x ∷ xs) back n m apart other =
    ap (λ rest. cond (eqb m x) before rest) (prev_from-put (Some x) xs back n m apart other)

pub last_or-append : (before : Option ℕ) (xs ys : List ℕ) → last_or before (xs ++ ys) ≡ last_or (last_or before xs) ys
last_or-append before [] ys = refl
last_or-append before (x ∷ xs) ys = last_or-append (Some x) xs ys

-- a list that has a last number is that number behind others
pub last_split : (before : Option ℕ) (x : ℕ) (xs : List ℕ) (m : ℕ) → last_or before (x ∷ xs) ≡ Some m → (front : List ℕ) × (x ∷ xs ≡ front ++ m ∷ [])
last_split before x [] m h = ([], let e : x ≡ m = cc in ap (λ z. z ∷ []) e)
last_split before x (y ∷ ys) m h = let r = last_split (Some x) y ys m h in (x ∷ r.0, ap (λ zs. x ∷ zs) r.1)

-- a list that has n is n between two others, the first of which doesn't have it
pub has_split : (n : ℕ) (xs : List ℕ) → has n xs ≡ true → (front back : List ℕ) × (xs ≡ front ++ n ∷ back) × (has n front ≡ false)
has_split n [] h = absurd cc
has_split n (x ∷ xs) h = ⊎_elim
    (λ e. ([], xs, ap (λ z. z ∷ xs) (sym (eqb-true n x e)), refl))
    (λ e. let rest : has n xs ≡ true = rw e at h in
    let r = has_split n xs rest in
    (x ∷ r.0, r.1, ap (λ zs. x ∷ zs) r.2, rw e r.3))
    (cases_Bool (eqb n x))

-- what two lists have, joined
pub has-append : (m : ℕ) (xs ys : List ℕ) → has m (xs ++ ys) ≡ (has m xs || has m ys)
has-append m xs ys = list_any-append (eqb m) xs ys

pub has-left : (m : ℕ) (xs ys : List ℕ) → has m xs ≡ true → has m (xs ++ ys) ≡ true
has-left m xs ys h = has-append m xs ys ∙ or_left (has m xs) (has m ys) h

pub has-right : (m : ℕ) (xs ys : List ℕ) → has m ys ≡ true → has m (xs ++ ys) ≡ true
has-right m xs ys h = has-append m xs ys ∙ or_right (has m xs) (has m ys) h

pub has-head : (m : ℕ) (xs : List ℕ) → has m (m ∷ xs) ≡ true
has-head m xs = or_left (eqb m m) (has m xs) (eqb_self m)

-- a number that neither list has
pub has-neither : (m : ℕ) (xs ys : List ℕ) → has m xs ≡ false → has m ys ≡ false → has m (xs ++ ys) ≡ false
has-neither m xs ys h k = has-append m xs ys ∙ or_from (has m xs) (has m ys) h k

-- joined lists that don't have a number
pub has-parts : (m : ℕ) (xs ys : List ℕ) → has m (xs ++ ys) ≡ false → (has m xs ≡ false) × (has m ys ≡ false)
has-parts m xs ys h = or_parts (has m xs) (has m ys) (sym (has-append m xs ys) ∙ h)

-- another number than the one put in is there before and after
pub has-put : (m n : ℕ) (front back : List ℕ) → (m ≡ n → ⊥) → has m (front ++ n ∷ back) ≡ has m (front ++ back)
has-put m n [] back apart = rw (ne_eqb m n apart) refl
has-put m n (x ∷ xs) back apart = ap (λ b. eqb m x || b) (has-put m n xs back apart)

-- if no number stands twice in what n was put into, which doesn't have n, none does afterwards
pub HasNoRepeats-put : (front back : List ℕ) (n : ℕ) → HasNoRepeats (front ++ back) → has n (front ++ back) ≡ false → HasNoRepeats (front ++ n ∷ back)
HasNoRepeats-put [] back n once free = (free, once)
HasNoRepeats-put (x ∷ xs) back n once free =
    let parts = or_parts (eqb n x) (has n (xs ++ back)) free in
    let apart : x ≡ n → ⊥ = λ e. eqb-false n x parts.0 (sym e) in
    (has-put x n xs back apart ∙ once.0, HasNoRepeats-put xs back n once.1 parts.1)

-- if no number stands twice, none does once n is taken out, and n isn't there any more
pub HasNoRepeats-taken : (front back : List ℕ) (n : ℕ) → HasNoRepeats (front ++ n ∷ back) → HasNoRepeats (front ++ back) × (has n front ≡ false) × (has n back ≡ false)
HasNoRepeats-taken [] back n once = (once.1, refl, once.0)
HasNoRepeats-taken (x ∷ xs) back n once =
    let rest = HasNoRepeats-taken xs back n once.1 in
    let parts = has-parts x xs (n ∷ back) once.0 in
    let ends = or_parts (eqb x n) (has x back) parts.1 in
    let apart : n ≡ x → ⊥ = λ e. eqb-false x n ends.0 (sym e) in
    ((has-neither x xs back parts.0 ends.1, rest.0), or_from (eqb n x) (has n xs) (ne_eqb n x apart) rest.1, rest.2)

-- put after p is put between p and what follows
pub put_after-split : (front back : List ℕ) (p n : ℕ) → has p front ≡ false → put_after p n (front ++ p ∷ back) ≡ front ++ p ∷ (n ∷ back)
put_after-split [] back p n h = rw (eqb_self p) refl
put_after-split (x ∷ xs) back p n h =
    let parts = or_parts (eqb p x) (has p xs) h in
    rw parts.0 (ap (λ zs. x ∷ zs) (put_after-split xs back p n parts.1))

-- a list without a number that it doesn't have is itself
pub without_absent : (n : ℕ) (xs : List ℕ) → has n xs ≡ false → list_without n xs ≡ xs
without_absent n [] h = refl
without_absent n (x ∷ xs) h =
    let parts = or_parts (eqb n x) (has n xs) h in
    rw parts.0 (ap (λ zs. x ∷ zs) (without_absent n xs parts.1))

-- a list without n is what was before n and what was after it
pub list_without-split : (front back : List ℕ) (n : ℕ) → has n front ≡ false → has n back ≡ false → list_without n (front ++ n ∷ back) ≡ front ++ back
list_without-split [] back n h k = rw (eqb_self n) (without_absent n back k)
list_without-split (x ∷ xs) back n h k =
    let parts = or_parts (eqb n x) (has n xs) h in
    rw parts.0 (ap (λ zs. x ∷ zs) (list_without-split xs back n parts.1 k))

-- a list doesn't have what it is without
pub has-list_without : (n : ℕ) (xs : List ℕ) → has n (list_without n xs) ≡ false
has-list_without n [] = refl
has-list_without n (x ∷ xs) = ⊎_elim
    (λ e. rw e (has-list_without n xs))
    (λ e. rw e (rw e (has-list_without n xs)))
    (cases_Bool (eqb n x))

-- what a front and a back make with n between them, or without it: how neighbours and ends differ
pub record Move (was now : List ℕ) (n : ℕ) (before after then_next then_prev : Option ℕ) : Type 0 where
  pub same : (m : ℕ) → (m ≡ n → ⊥) → has m now ≡ has m was
  pub before_in : (m : ℕ) → before ≡ Some m → (m ≡ n → ⊥) × (has m was ≡ true)
  pub after_in : (m : ℕ) → after ≡ Some m → (m ≡ n → ⊥) × (has m was ≡ true)
  pub nexts : (m : ℕ) → before ≡ Some m → next_in_list now m ≡ then_next
  pub nexts_else : (m : ℕ) → (m ≡ n → ⊥) → (before ≡ Some m → ⊥) → next_in_list now m ≡ next_in_list was m
  pub prevs : (m : ℕ) → after ≡ Some m → prev_in_list now m ≡ then_prev
  pub prevs_else : (m : ℕ) → (m ≡ n → ⊥) → (after ≡ Some m → ⊥) → prev_in_list now m ≡ prev_in_list was m
  pub heads : before ≡ None → first_of now ≡ then_next
  pub heads_else : (m : ℕ) → before ≡ Some m → first_of now ≡ first_of was
  pub lasts : after ≡ None → last_of now ≡ then_prev
  pub lasts_else : (m : ℕ) → after ≡ Some m → last_of now ≡ last_of was
  pub once : HasNoRepeats now

-- the last of the front is in it
pub last-has : (before : Option ℕ) (x : ℕ) (xs : List ℕ) (m : ℕ) → last_or before (x ∷ xs) ≡ Some m → has m (x ∷ xs) ≡ true
last-has before x xs m h =
    let r = last_split before x xs m h in
    subst (λ (zs : List ℕ). has m zs ≡ true) (sym r.1) (has-right m r.0 (m ∷ []) (has-head m []))

pub last_of-has : (front : List ℕ) (m : ℕ) → last_of front ≡ Some m → has m front ≡ true
last_of-has [] m h = absurd cc
last_of-has (x ∷ xs) m h = last-has None x xs m h

pub first_of-has : (back : List ℕ) (m : ℕ) → first_of back ≡ Some m → has m back ≡ true
first_of-has [] m h = absurd cc
first_of-has (x ∷ xs) m h = let e : m ≡ x = cc in or_left (eqb m x) (has m xs) (eq-eqb m x e)

-- a number that a list has isn't one that it lacks
pub apart_by_has : (m n : ℕ) (xs : List ℕ) → has m xs ≡ true → has n xs ≡ false → m ≡ n → ⊥
apart_by_has m n xs h k e = both_ways (has n xs) k (subst (λ (z : ℕ). has z xs ≡ true) e h)

-- after the last of the front stands the first of what follows it
next_in_list-last : (front back : List ℕ) (m : ℕ) → HasNoRepeats (front ++ back) → last_of front ≡ Some m → next_in_list (front ++ back) m ≡ first_of back
next_in_list-last [] back m once h = absurd cc
next_in_list-last (x ∷ xs) back m once h =
    let r = last_split None x xs m h in
    let e : (x ∷ xs) ++ back ≡ r.0 ++ m ∷ back = ap (λ zs. zs ++ back) r.1 ∙ append_assoc r.0 (m ∷ []) back in
    let free = HasNoRepeats-taken r.0 back m (subst HasNoRepeats e once) in
    ap (λ zs. next_in_list zs m) e ∙ next_in_list-split r.0 back m free.1

-- before the first of the back stands the last of what is before it
prev_in_list-first : (front back : List ℕ) (m : ℕ) → HasNoRepeats (front ++ back) → first_of back ≡ Some m → prev_in_list (front ++ back) m ≡ last_of front
prev_in_list-first front [] m once h = absurd cc
prev_in_list-first front (y ∷ ys) m once h =
    let e : m ≡ y = cc in
    let free = HasNoRepeats-taken front ys y once in
    ap (λ z. prev_in_list (front ++ y ∷ ys) z) e ∙ prev_from-split None front ys y free.1

-- before what stands after n stands n
prev_put : (front back : List ℕ) (n m : ℕ) → HasNoRepeats (front ++ n ∷ back) → first_of back ≡ Some m → prev_in_list (front ++ n ∷ back) m ≡ Some n
prev_put front back n m once h =
    let e : (front ++ n ∷ []) ++ back ≡ front ++ n ∷ back = append_assoc front (n ∷ []) back in
    let r = prev_in_list-first (front ++ n ∷ []) back m (subst HasNoRepeats (sym e) once) h in
    ap (λ zs. prev_in_list zs m) (sym e) ∙ r ∙ last_or-append None front (n ∷ [])

first_of-append : (front back other : List ℕ) (m : ℕ) → last_of front ≡ Some m → first_of (front ++ back) ≡ first_of (front ++ other)
first_of-append [] back other m h = absurd cc
first_of-append (x ∷ xs) back other m h = refl

-- a list that is not empty has a last number
pub last_some : (before : Option ℕ) (x : ℕ) (xs : List ℕ) → last_or before (x ∷ xs) ≡ None → ⊥
last_some before x [] h = cc
last_some before x (y ∷ ys) h = last_some (Some x) y ys h

first_of-behind : (front back : List ℕ) → last_of front ≡ None → first_of (front ++ back) ≡ first_of back
first_of-behind [] back h = refl
first_of-behind (x ∷ xs) back h = absurd (last_some None x xs h)

last_of-before : (front back : List ℕ) (n m : ℕ) → first_of back ≡ Some m → last_of (front ++ n ∷ back) ≡ last_of (front ++ back)
last_of-before front [] n m h = absurd cc
last_of-before front (y ∷ ys) n m h = last_or-append None front (n ∷ y ∷ ys) ∙ sym (last_or-append None front (y ∷ ys))

last_of-end : (front back : List ℕ) → first_of back ≡ None → last_of (front ++ back) ≡ last_of front
last_of-end front [] h = ap last_of (append-nil front)
last_of-end front (y ∷ ys) h = absurd cc

last_of-end_put : (front back : List ℕ) (n : ℕ) → first_of back ≡ None → last_of (front ++ n ∷ back) ≡ Some n
last_of-end_put front [] n h = last_or-append None front (n ∷ [])
last_of-end_put front (y ∷ ys) n h = absurd cc

-- n is put between a front and a back
pub put_move : (front back : List ℕ) (n : ℕ) → HasNoRepeats (front ++ back) → has n (front ++ back) ≡ false →
    Move (front ++ back) (front ++ n ∷ back) n (last_of front) (first_of back) (Some n) (Some n)
put_move front back n once free =
    let now = HasNoRepeats-put front back n once free in
    let parts = has-parts n front back free in
    record {
      same = λ m apart. has-put m n front back apart;
      before_in = λ m h. (apart_by_has m n front (last_of-has front m h) parts.0, has-left m front back (last_of-has front m h));
      after_in = λ m h. (apart_by_has m n back (first_of-has back m h) parts.1, has-right m front back (first_of-has back m h));
      nexts = λ m h. next_in_list-last front (n ∷ back) m now h;
      nexts_else = λ m apart other. next_in_list-put None front back n m apart other;
      prevs = λ m h. prev_put front back n m now h;
      prevs_else = λ m apart other. prev_from-put None front back n m apart other;
      heads = λ h. first_of-behind front (n ∷ back) h;
      heads_else = λ m h. first_of-append front (n ∷ back) back m h;
      lasts = λ h. last_of-end_put front back n h;
      lasts_else = λ m h. last_of-before front back n m h;
      once = now;
    }

-- n is taken out from between a front and a back
pub take_move : (front back : List ℕ) (n : ℕ) → HasNoRepeats (front ++ n ∷ back) →
    Move (front ++ n ∷ back) (front ++ back) n (last_of front) (first_of back) (first_of back) (last_of front)
take_move front back n once =
    let taken = HasNoRepeats-taken front back n once in
    record {
      same = λ m apart. sym (has-put m n front back apart);
      before_in = λ m h. (apart_by_has m n front (last_of-has front m h) taken.1, has-left m front (n ∷ back) (last_of-has front m h));
      after_in = λ m h. (
        apart_by_has m n back (first_of-has back m h) taken.2,
        has-right m front (n ∷ back) (or_right (eqb m n) (has m back) (first_of-has back m h)),
      );
      nexts = λ m h. next_in_list-last front back m taken.0 h;
      nexts_else = λ m apart other. sym (next_in_list-put None front back n m apart other);
      prevs = λ m h. prev_in_list-first front back m taken.0 h;
      prevs_else = λ m apart other. sym (prev_from-put None front back n m apart other);
      heads = λ h. first_of-behind front back h;
      heads_else = λ m h. first_of-append front back (n ∷ back) m h;
      lasts = λ h. last_of-end front back h;
      lasts_else = λ m h. sym (last_of-before front back n m h);
      once = taken.0;
    }

-- what stands after a number is in the list
pub next_in_list-has : (xs : List ℕ) (n m : ℕ) → next_in_list xs n ≡ Some m → has m xs ≡ true
next_in_list-has [] n m h = absurd cc
next_in_list-has (x ∷ xs) n m h = ⊎_elim
    (λ e. let first : first_of xs ≡ Some m = rw e at h in or_right (eqb m x) (has m xs) (first_of-has xs m first))
    (λ e. let rest : next_in_list xs n ≡ Some m = rw e at h in or_right (eqb m x) (has m xs) (next_in_list-has xs n m rest))
    (cases_Bool (eqb n x))

-- what stands before a number is in the list, or before it
prev_from-has : (before : ℕ) (xs : List ℕ) (n m : ℕ) → prev_from (Some before) xs n ≡ Some m → has m (before ∷ xs) ≡ true
prev_from-has before [] n m h = absurd cc
prev_from-has before (x ∷ xs) n m h = ⊎_elim
    (λ e. let first : Some before ≡ Some m = rw e at h in
    let same : m ≡ before = cc in
    or_left (eqb m before) (has m (x ∷ xs)) (eq-eqb m before same))
    (λ e. let rest : prev_from (Some x) xs n ≡ Some m = rw e at h in or_right (eqb m before) (has m (x ∷ xs)) (prev_from-has x xs n m rest))
    (cases_Bool (eqb n x))

pub prev_in_list-has : (xs : List ℕ) (n m : ℕ) → prev_in_list xs n ≡ Some m → has m xs ≡ true
prev_in_list-has [] n m h = absurd cc
prev_in_list-has (x ∷ xs) n m h = ⊎_elim
    (λ e. let first : None ≡ Some m = rw e at h in absurd cc)
    (λ e. let rest : prev_from (Some x) xs n ≡ Some m = rw e at h in prev_from-has x xs n m rest)
    (cases_Bool (eqb n x))
