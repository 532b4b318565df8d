-- Lemmas on a walk through a list, from its head to the first node that comes later than a key.
use Rattle.std.proofs.Common.{◌≡◌, ℕ, ◌+◌, ◌<◌, true, false, cond, eqb, List, [], ◌∷◌, ◌++◌, Option, Some, None, option_and_then, refl, sym, ◌∙◌, ap, subst, ⊎_elim, arith, length, add-one}
use Rattle.std.proofs.lemmas.Bool.{or_parts, or_cases, eqb-true, eq-eqb}
use Rattle.std.proofs.lemmas.List.{append_assoc, append-nil}
use Rattle.pif_nodes_model.specs.declared.keys.Key.{Key}
use Rattle.pif_nodes_model.specs.Lists.{has, first_of, last_of, next_in_list, HasNoRepeats}
use Rattle.pif_nodes_model.specs.Table.{NodeLists, list_at, next_node, IsApart}
use Rattle.pif_nodes_model.proofs.ListLemmas.{has-append, has-right, has-head, last_split, last_or-append, HasNoRepeats-taken, next_in_list-split}
use Rattle.pif_nodes_model.specs.Order.{comes_before, key_in, IsInOrder, IsPlace}
use Rattle.pif_nodes_model.proofs.OrderLemmas.{last_no_earlier, not_before-trans}

-- the nodes up to a place come no later than a key, and `next` stands behind them
pub record IsWalked (keys : List Key) (k : Key) (xs : List ℕ) (place next : Option ℕ) : Type 0 where
  pub front : List ℕ
  pub back : List ℕ
  pub parts : xs ≡ front ++ back
  pub at : place ≡ last_of front
  pub to : next ≡ first_of back
  pub before : (m : ℕ) → has m front ≡ true → comes_before k (key_in keys m) ≡ false

-- how many numbers of a list there are from n on
abbrev pub count_from : ℕ → List ℕ → ℕ
count_from n [] = 0
count_from n (x ∷ xs) = cond (eqb n x) (length xs + 1) (count_from n xs)

-- how many numbers of a list are left to walk over
abbrev pub left : Option ℕ → List ℕ → ℕ
left None xs = 0
left (Some n) xs = count_from n xs

count_from-split : (front back : List ℕ) (n : ℕ) → has n front ≡ false → count_from n (front ++ n ∷ back) ≡ length back + 1
count_from-split [] back n h = rw (eq-eqb n n refl) refl
count_from-split (x ∷ xs) back n h = let parts = or_parts (eqb n x) (has n xs) h in rw parts.0 (count_from-split xs back n parts.1)

left-split : (front back : List ℕ) → HasNoRepeats (front ++ back) → left (first_of back) (front ++ back) ≡ length back
left-split front [] once = refl
left-split front (y ∷ ys) once = let free = HasNoRepeats-taken front ys y once in count_from-split front ys y free.1 ∙ add-one (length ys)

-- what stands behind the walk: a node, and what follows it
behind_walk : (n : ℕ) (back : List ℕ) → Some n ≡ first_of back → (rest : List ℕ) × (back ≡ n ∷ rest)
behind_walk n [] h = absurd cc
behind_walk n (y ∷ ys) h = (ys, let e : n ≡ y = cc in ap (λ z. z ∷ ys) (sym e))

module _ (keys : List Key) (k : Key) (xs : List ℕ) (place : Option ℕ) (n : ℕ) (walked : IsWalked keys k xs place (Some n)) where
  abbrev rest : List ℕ
  rest = (behind_walk n walked.back walked.to).0

  parts : xs ≡ walked.front ++ n ∷ rest
  parts = walked.parts ∙ ap (λ zs. walked.front ++ zs) (behind_walk n walked.back walked.to).1

  longer : xs ≡ (walked.front ++ n ∷ []) ++ rest
  longer = parts ∙ sym (append_assoc walked.front (n ∷ []) rest)

  -- the walk stands at a node of the list
  pub walk_has : has n xs ≡ true
  walk_has = ap (has n) parts ∙ has-right n walked.front (n ∷ rest) (has-head n rest)

  next_is : HasNoRepeats xs → next_in_list xs n ≡ first_of rest
  next_is once = ap (λ zs. next_in_list zs n) parts ∙ next_in_list-split walked.front rest n (HasNoRepeats-taken walked.front rest n (subst HasNoRepeats parts once)).1

  -- past a node that comes no later
  pub walk_step : (next : Option ℕ) → HasNoRepeats xs → comes_before k (key_in keys n) ≡ false → next ≡ next_in_list xs n → IsWalked keys k xs (Some n) next
  walk_step next once no_later to = record {
    front = walked.front ++ n ∷ [];
    back = rest;
    parts = longer;
    at = sym (last_or-append None walked.front (n ∷ []));
    to = to ∙ next_is once;
    before = λ m in'. ⊎_elim
        (λ e. walked.before m e)
        (λ e. ⊎_elim
        (λ same. ap (λ z. comes_before k (key_in keys z)) (eqb-true m n same) ∙ no_later)
        (λ none. absurd cc)
        (or_cases (eqb m n) false e))
        (or_cases (has m walked.front) (has m (n ∷ [])) (sym (has-append m walked.front (n ∷ [])) ∙ in'));
  }

  -- and less is left then
  pub walk_smaller : (next : Option ℕ) → HasNoRepeats xs → next ≡ next_in_list xs n → left next xs < left (Some n) xs
  walk_smaller next once to =
      let here : left (Some n) xs ≡ length (n ∷ rest) = ap (count_from n) parts ∙ left-split walked.front (n ∷ rest) (subst HasNoRepeats parts once) in
      let there : left next xs ≡ length rest = (λ i. left ((to ∙ next_is once) i) (longer i)) ∙ left-split (walked.front ++ n ∷ []) rest (subst HasNoRepeats longer once) in
      omega (arith, here, there)

-- the last node of a sorted list is the place, if it comes no later
pub place_at_end : (keys : List Key) (k : Key) (xs : List ℕ) (p : ℕ) → IsInOrder keys xs → last_of xs ≡ Some p → comes_before k (key_in keys p) ≡ false → IsPlace keys k xs (Some p)
place_at_end keys k [] p order last no_later = absurd cc
place_at_end keys k (x ∷ xs) p order last no_later =
    let cut = last_split None x xs p last in
    record {
      front = x ∷ xs;
      back = [];
      parts = sym (append-nil (x ∷ xs));
      at = sym last;
      before = λ m in'. ⊎_elim
          (λ e. not_before-trans k (key_in keys p) (key_in keys m) no_later (last_no_earlier keys cut.0 p m (subst (IsInOrder keys) cut.1 order) e))
          (λ e. ⊎_elim
          (λ same. ap (λ z. comes_before k (key_in keys z)) (eqb-true m p same) ∙ no_later)
          (λ none. absurd cc)
          (or_cases (eqb m p) false e))
          (or_cases (has m cut.0) (has m (p ∷ [])) (sym (has-append m cut.0 (p ∷ [])) ∙ ap (has m) (sym cut.1) ∙ in'));
      behind = λ m h. absurd cc;
    }

-- the node after one in its list
pub next_of_is : (t : NodeLists) (l n : ℕ) → IsApart t → has n (list_at t l) ≡ true → next_node t n ≡ next_in_list (list_at t l) n
next_of_is t l n apart h = ap (λ o. option_and_then (λ j. next_in_list (list_at t j) n) o) (apart.alone l n h)
