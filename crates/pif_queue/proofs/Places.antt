-- What stands at a place of a list of a table.
use Rattle.std.proofs.Common.{◌≡◌, ℕ, zero, suc, ◌≤◌, true, false, eqb, List, [], ◌∷◌, Some, None, refl, ◌∙◌, ap, arith}
use Rattle.std.proofs.lemmas.Bool.{or_right, ne_eqb, eq-eqb}
use Rattle.std.proofs.lemmas.Option.{same_Some}
use Rattle.std.specs.List.{slice_get}
use Rattle.std.specs.Option.{option_and_then}
use Rattle.pif_nodes_model.specs.Lists.{has, first_of, next_in_list, HasNoRepeats}
use Rattle.pif_nodes_model.specs.Table.{NodeLists, list_at, next_node, IsApart}
use Rattle.pif_nodes_model.proofs.ListLemmas.{has-head, apart_by_has}

-- what stands at a place, the list has
pub place-has : (xs : List ℕ) (k n : ℕ) → slice_get xs k ≡ Some n → has n xs ≡ true
place-has [] k n e = absurd cc
place-has (x ∷ xs) zero n e = rw (same_Some x n e) (has-head n xs)
place-has (x ∷ xs) (suc k) n e = or_right (eqb n x) (has n xs) (place-has xs k n e)

-- the first stands at place 0
pub place-first : (xs : List ℕ) → first_of xs ≡ slice_get xs 0
place-first [] = refl
place-first (x ∷ xs) = refl

-- behind what stands at a place stands what is at the next one
place-behind : (xs : List ℕ) (k n : ℕ) → HasNoRepeats xs → slice_get xs k ≡ Some n → next_in_list xs n ≡ slice_get xs (suc k)
place-behind [] k n once e = absurd cc
place-behind (x ∷ xs) zero n once e =
    let here : eqb n x ≡ true = eq-eqb n x (omega (arith, same_Some x n e)) in rw here (place-first xs)
place-behind (x ∷ xs) (suc k) n once e =
    let later : eqb n x ≡ false = ne_eqb n x (apart_by_has n x xs (place-has xs k n e) once.0) in
    rw later (place-behind xs k n once.1 e)

pub place-next : (t : NodeLists) (l k n : ℕ) → IsApart t → slice_get (list_at t l) k ≡ Some n
    → next_node t n ≡ slice_get (list_at t l) (suc k)
place-next t l k n apart e =
    ap (option_and_then (λ (m : ℕ). next_in_list (list_at t m) n)) (apart.alone l n (place-has (list_at t l) k n e))
    ∙ place-behind (list_at t l) k n (apart.once l) e

-- behind a place at which nothing stands is nothing
pub place-ended : (xs : List ℕ) (k n : ℕ) → slice_get xs k ≡ None → k ≤ n → slice_get xs n ≡ None
place-ended [] k n e le = refl
place-ended (x ∷ xs) zero n e le = absurd cc
place-ended (x ∷ xs) (suc k) zero e le = absurd (omega (arith, le))
place-ended (x ∷ xs) (suc k) (suc n) e le = place-ended xs k n e (omega (arith, le))
