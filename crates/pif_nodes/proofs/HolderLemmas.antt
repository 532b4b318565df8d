-- Lemmas on which of some lists has a number, after one list has changed.
use Rattle.std.proofs.Common.{◌≡◌, ℕ, zero, suc, ◌+◌, ◌<◌, true, false, cond, List, [], ◌∷◌, Option, Some, None, option_map, refl, sym, ◌∙◌, ap, subst, ⊎_elim, arith, length, get_or, set, add-one}
use Rattle.std.proofs.lemmas.Bool.{cases_Bool, false_from_ne_true}
use Rattle.pif_nodes_model.specs.Lists.{has}
use Rattle.pif_nodes_model.specs.Table.{list_with}

-- a found list, counted from one list earlier
counted : (o : Option ℕ) (l : ℕ) → option_map (λ k. k + 1) o ≡ Some l → (k : ℕ) × (o ≡ Some k) × (l ≡ k + 1)
counted None l h = absurd cc
counted (Some k) l h = (k, refl, let e : k + 1 ≡ l = cc in sym e)

not_counted : (o : Option ℕ) → option_map (λ k. k + 1) o ≡ None → o ≡ None
not_counted None h = refl
not_counted (Some k) h = absurd cc

-- no list has a number that is in no list
pub list_with-none : (ls : List (List ℕ)) (n l : ℕ) → list_with ls n ≡ None → has n (get_or ls l []) ≡ false
list_with-none [] n l h = refl
list_with-none (xs ∷ ls) n zero h = false_from_ne_true (has n xs) (λ e. let found : Some 0 ≡ None = rw e at h in cc)
list_with-none (xs ∷ ls) n (suc l) h = ⊎_elim
    (λ e. let found : Some 0 ≡ None = rw e at h in absurd cc)
    (λ e. let rest : option_map (λ k. k + 1) (list_with ls n) ≡ None = rw e at h in
    list_with-none ls n l (not_counted (list_with ls n) rest))
    (cases_Bool (has n xs))

-- the list that is found has the number
pub list_with-has : (ls : List (List ℕ)) (n l : ℕ) → list_with ls n ≡ Some l → has n (get_or ls l []) ≡ true
list_with-has [] n l h = absurd cc
list_with-has (xs ∷ ls) n l h = ⊎_elim
    (λ e. let first : Some 0 ≡ Some l = rw e at h in
    let at : 0 ≡ l = cc in
    subst (λ (k : ℕ). has n (get_or (xs ∷ ls) k []) ≡ true) at e)
    (λ e. let rest : option_map (λ k. k + 1) (list_with ls n) ≡ Some l = rw e at h in
    let r = counted (list_with ls n) l rest in
    let at : l ≡ suc r.0 = r.2 ∙ add-one r.0 in
    subst (λ (k : ℕ). has n (get_or (xs ∷ ls) k []) ≡ true) (sym at) (list_with-has ls n r.0 r.1))
    (cases_Bool (has n xs))

-- the list that is found is one of them
pub list_with-within : (ls : List (List ℕ)) (n l : ℕ) → list_with ls n ≡ Some l → l < length ls
list_with-within [] n l h = absurd cc
list_with-within (xs ∷ ls) n l h = ⊎_elim
    (λ e. let first : Some 0 ≡ Some l = rw e at h in let at : 0 ≡ l = cc in omega arith)
    (λ e. let rest : option_map (λ k. k + 1) (list_with ls n) ≡ Some l = rw e at h in
    let r = counted (list_with ls n) l rest in
    omega (arith, r.2, list_with-within ls n r.0 r.1))
    (cases_Bool (has n xs))

-- a number that no list has is in no list
pub list_with-absent : (ls : List (List ℕ)) (n : ℕ) → ((l : ℕ) → has n (get_or ls l []) ≡ false) → list_with ls n ≡ None
list_with-absent [] n h = refl
list_with-absent (xs ∷ ls) n h = let first : has n xs ≡ false = h 0 in
    let rest = list_with-absent ls n (λ l. h (suc l)) in
    rw (first, rest) refl

-- if one list changes, and neither gains nor loses a number, that number stays in its list
pub list_with-same : (ls : List (List ℕ)) (n l : ℕ) (xs : List ℕ) → has n xs ≡ has n (get_or ls l []) → list_with (set ls l xs) n ≡ list_with ls n
list_with-same [] n l xs h = refl
list_with-same (ys ∷ ls) n zero xs h = ap (λ b. cond b (Some 0) (option_map (λ k. k + 1) (list_with ls n))) h
list_with-same (ys ∷ ls) n (suc l) xs h =
    ap (λ o. cond (has n ys) (Some 0) (option_map (λ k. k + 1) o)) (list_with-same ls n l xs h)

-- if one list gains a number that is in no list, it is in that one
pub list_with-put : (ls : List (List ℕ)) (n l : ℕ) (xs : List ℕ) → list_with ls n ≡ None → l < length ls → has n xs ≡ true → list_with (set ls l xs) n ≡ Some l
list_with-put [] n l xs free l_in h = absurd (omega arith)
list_with-put (ys ∷ ls) n zero xs free l_in h = rw h refl
list_with-put (ys ∷ ls) n (suc l) xs free l_in h =
    let first : has n ys ≡ false = list_with-none (ys ∷ ls) n 0 free in
    let rest : option_map (λ k. k + 1) (list_with ls n) ≡ None = rw first at free in
    let r = list_with-put ls n l xs (not_counted (list_with ls n) rest) (omega arith) h in
    rw (first, r) (ap Some (add-one l))
