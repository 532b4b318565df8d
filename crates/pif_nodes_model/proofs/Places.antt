-- What stands at a place of a list: of two lists in a row, of a list of the table, and of all levels of a queue.
use Rattle.std.proofs.Common.{◌≡◌, ◌⊎◌, ℕ, zero, suc, ◌+◌, ◌-◌, ◌<◌, ◌≤◌, true, false, eqb, List, [], ◌∷◌, ◌++◌, Some, None, length, refl, sym, subst, ◌∙◌, ap, inl, inr, arith}
use Rattle.std.proofs.lemmas.Bool.{or_right, ne_eqb, eq-eqb}
use Rattle.std.proofs.lemmas.List.{length-map}
use Rattle.std.proofs.lemmas.Option.{same_Some, slice_get-map, slice_get_within, get_or_from_slice_get}
use Rattle.std.specs.List.{slice_get, All}
use Rattle.std.specs.Option.{option_map, option_and_then}
use Rattle.pif_nodes_model.specs.Lists.{has, first_of, next_in_list, HasNoRepeats}
use Rattle.pif_nodes_model.specs.Table.{NodeLists, list_at, next_node, IsApart}
use Rattle.pif_nodes_model.proofs.ListLemmas.{has-head, apart_by_has}
use Rattle.pif_nodes_model.specs.Levels.{Queue, list_for, thread_for, level_of, all_below}

-- what the first of two lists has at a place stands there in both
pub slice_get-front : {A : Type 0} (xs ys : List A) (n : ℕ) (x : A) → slice_get xs n ≡ Some x
    → slice_get (xs ++ ys) n ≡ Some x
slice_get-front [] ys n x e = absurd cc
slice_get-front (y ∷ xs) ys zero x e = e
slice_get-front (y ∷ xs) ys (suc n) x e = slice_get-front xs ys n x e

-- behind the first of two lists stands what the second has
pub slice_get-behind : {A : Type 0} (xs ys : List A) (n left : ℕ) → left + length xs ≡ n
    → slice_get (xs ++ ys) n ≡ slice_get ys left
slice_get-behind [] ys n left e = ap (slice_get ys) (omega (arith, e))
slice_get-behind (x ∷ xs) ys zero left e = absurd (omega (arith, e))
slice_get-behind (x ∷ xs) ys (suc n) left e = slice_get-behind xs ys n left (omega (arith, e))

-- the last element of a list that has just got it
pub slice_get-last : {A : Type 0} (xs : List A) (y : A) → slice_get (xs ++ y ∷ []) (length xs) ≡ Some y
slice_get-last xs y = slice_get-behind xs (y ∷ []) (length xs) 0 (omega arith)

-- what stands in a list that has one element more is an old element or the new one
pub slice_get-more : {A : Type 0} (xs : List A) (y : A) (n : ℕ) (x : A) → slice_get (xs ++ y ∷ []) n ≡ Some x
    → (slice_get xs n ≡ Some x) ⊎ ((n ≡ length xs) × (x ≡ y))
slice_get-more [] y zero x e = inr (refl, cc)
slice_get-more [] y (suc n) x e = absurd (cc)
slice_get-more (z ∷ zs) y zero x e = inl e
slice_get-more (z ∷ zs) y (suc n) x e =
    elim (slice_get-more zs y n x e) [ inl h ↦ inl h | inr h ↦ inr (ap suc h.0, h.1) ]

-- what holds of each element holds of the one at a place
pub slice_get-all : {A : Type 0} (P : A → Type 0) (xs : List A) → All P xs → (n : ℕ) (x : A) → slice_get xs n ≡ Some x
    → P x
slice_get-all P xs a n x e = subst P (get_or_from_slice_get xs n x x e) (a n x (slice_get_within xs n x e))

-- if nothing stands, the list has ended
pub slice_get-ended : {A : Type 0} (xs : List A) (k : ℕ) → slice_get xs k ≡ None → length xs ≤ k
slice_get-ended [] k e = omega arith
slice_get-ended (x ∷ xs) zero e = absurd cc
slice_get-ended (x ∷ xs) (suc k) e = omega (arith, slice_get-ended xs k e)

-- what stands at a place, the list has
pub slice_get-has : (xs : List ℕ) (k n : ℕ) → slice_get xs k ≡ Some n → has n xs ≡ true
slice_get-has [] k n e = absurd cc
slice_get-has (x ∷ xs) zero n e = rw (same_Some x n e) (has-head n xs)
slice_get-has (x ∷ xs) (suc k) n e = or_right (eqb n x) (has n xs) (slice_get-has xs k n e)

-- the first stands at place 0
pub first_of-place : (xs : List ℕ) → first_of xs ≡ slice_get xs 0
first_of-place [] = refl
first_of-place (x ∷ xs) = refl

-- after what stands at a place stands what is at the next one
next_in_list-place : (xs : List ℕ) (k n : ℕ) → HasNoRepeats xs → slice_get xs k ≡ Some n
    → next_in_list xs n ≡ slice_get xs (suc k)
next_in_list-place [] k n once e = absurd cc
next_in_list-place (x ∷ xs) zero n once e =
    let here : eqb n x ≡ true = eq-eqb n x (sym (same_Some x n e)) in rw here (first_of-place xs)
next_in_list-place (x ∷ xs) (suc k) n once e =
    let later : eqb n x ≡ false = ne_eqb n x (apart_by_has n x xs (slice_get-has xs k n e) once.0) in
    rw later (next_in_list-place xs k n once.1 e)

-- the same in a list of the table
pub next_node-place : (t : NodeLists) (l k n : ℕ) → IsApart t → slice_get (list_at t l) k ≡ Some n
    → next_node t n ≡ slice_get (list_at t l) (suc k)
next_node-place t l k n apart e =
    ap (option_and_then (λ (m : ℕ). next_in_list (list_at t m) n))
    (apart.alone l n (slice_get-has (list_at t l) k n e))
    ∙ next_in_list-place (list_at t l) k n (apart.once l) e

-- a level stands before all that are below it
pub all_below-more : (q : Queue) (t : NodeLists) (p : ℕ) → 1 ≤ p
    → all_below q t (suc p) ≡ level_of q t p ++ all_below q t p
unfolding all_below
all_below-more q t zero some = absurd (omega (arith, some))
all_below-more q t (suc p) some = refl

-- below level 1 is nobody
pub all_below-none : (q : Queue) (t : NodeLists) → all_below q t 1 ≡ []
unfolding all_below
all_below-none q t = refl

module _ (q : Queue) (t : NodeLists) (above list k : ℕ) (l : above < 99) (at : list ≡ list_for q (99 - above)) where
  -- the levels that so many are above, the greatest first
  split : all_below q t (100 - above) ≡ level_of q t (99 - above) ++ all_below q t (99 - above)
  split = ap (all_below q t) (omega arith) ∙ all_below-more q t (99 - above) (omega arith)

  -- the thread of a node of the greatest of them
  pub all_below-found : (n : ℕ) → Some n ≡ slice_get (list_at t list) k
      → slice_get (all_below q t (100 - above)) k ≡ Some (thread_for q n)
  all_below-found n e =
      ap (λ (us : List ℕ). slice_get us k) split
      ∙ slice_get-front (level_of q t (99 - above)) (all_below q t (99 - above)) k (thread_for q n)
      (slice_get-map (thread_for q) (list_at t (list_for q (99 - above))) k
      ∙ ap (λ (m : ℕ). option_map (thread_for q) (slice_get (list_at t m) k)) (sym at)
      ∙ ap (option_map (thread_for q)) (sym e))

  -- one behind those of the greatest of them
  pub all_below-passed : (left : ℕ) → left + length (list_at t list) ≡ k
      → slice_get (all_below q t (100 - above)) k ≡ slice_get (all_below q t (100 - (above + 1))) left
  all_below-passed left e =
      ap (λ (us : List ℕ). slice_get us k) split
      ∙ slice_get-behind (level_of q t (99 - above)) (all_below q t (99 - above)) k left
      (ap (λ (n : ℕ). left + n) (length-map (list_at t (list_for q (99 - above))) (thread_for q)
      ∙ ap (λ (m : ℕ). length (list_at t m)) (sym at)) ∙ e)
      ∙ ap (λ (p : ℕ). slice_get (all_below q t p) left) (omega arith)
