-- A walk through a bucket up to the node of a word.
use Rattle.std.proofs.Common.{◌≡◌, ◌⊎◌, ℕ, ◌<◌, true, false, eqb, List, [], ◌∷◌, ◌++◌, Option, Some, None, refl, sym, ◌∙◌, ap, subst, inl, inr}
use Rattle.std.proofs.lemmas.Bool.{or_cases, eqb-true}
use Rattle.std.proofs.lemmas.List.{append_assoc}
use Rattle.std.specs.List.{filter}
use Rattle.pif_nodes_model.specs.Lists.{has, first_of, last_of, next_in_list, HasNoRepeats}
use Rattle.pif_nodes_model.specs.Table.{no_key}
use Rattle.pif_nodes_model.proofs.ListLemmas.{has-append, next_in_list-split, HasNoRepeats-taken}
use Rattle.pif_nodes_model.proofs.OrderLemmas.{not_before-self}
use Rattle.pif_nodes_model.proofs.WalkLemmas.{left, IsWalked, walk_has, walk_smaller}
use Rattle.pif_kernel_model.specs.Entries.{Entries, word_of_node}
use Rattle.pif_kernel_model.proofs.Firsts.{first-behind, first-head}

-- the nodes before `next` have other words
pub record IsPassing (e : Entries) (w : ℕ) (xs : List ℕ) (next : Option ℕ) : Type 0 where
  pub front : List ℕ
  pub back : List ℕ
  pub parts : xs ≡ front ++ back
  pub to : next ≡ first_of back
  pub before : (m : ℕ) → has m front ≡ true → eqb (word_of_node e m) w ≡ false

-- a list by its first
behind : (n : ℕ) (back : List ℕ) → Some n ≡ first_of back → (rest : List ℕ) × (back ≡ n ∷ rest)
behind n [] h = absurd cc
behind n (y ∷ ys) h = (ys, let e : n ≡ y = cc in ap (λ z. z ∷ ys) (sym e))

-- the walk at a node
module _ (e : Entries) (w : ℕ) (xs : List ℕ) (n : ℕ) (p : IsPassing e w xs (Some n)) (once : HasNoRepeats xs) where
  abbrev rest : List ℕ
  rest = (behind n p.back p.to).0

  parts : xs ≡ p.front ++ n ∷ rest
  parts = p.parts ∙ ap (λ zs. p.front ++ zs) (behind n p.back p.to).1

  -- as a walk through a list without keys
  walked : IsWalked [] no_key xs (last_of p.front) (Some n)
  walked =
      record {
        front = p.front;
        back = p.back;
        parts = p.parts;
        at = refl;
        to = p.to;
        before = λ m there. not_before-self no_key;
      }

  pub passing-has : has n xs ≡ true
  passing-has = walk_has [] no_key xs (last_of p.front) n walked

  pub passing-smaller : (next : Option ℕ) → next ≡ next_in_list xs n → left next xs < left (Some n) xs
  passing-smaller next to = walk_smaller [] no_key xs (last_of p.front) n walked next once to

  -- past a node that has another word
  pub passing-step : (next : Option ℕ) → eqb (word_of_node e n) w ≡ false → next ≡ next_in_list xs n → IsPassing e w xs next
  passing-step next other to =
      record {
        front = p.front ++ n ∷ [];
        back = rest;
        parts = parts ∙ sym (append_assoc p.front (n ∷ []) rest);
        to = to ∙ ap (λ zs. next_in_list zs n) parts
            ∙ next_in_list-split p.front rest n (HasNoRepeats-taken p.front rest n (subst HasNoRepeats parts once)).1;
        before = λ m there. by_part m
            (or_cases (has m p.front) (has m (n ∷ [])) (sym (has-append m p.front (n ∷ [])) ∙ there));
      }
    where
      by_last : (m : ℕ) → ((eqb m n ≡ true) ⊎ (false ≡ true)) → eqb (word_of_node e m) w ≡ false
      by_last m (inl same) = ap (λ z. eqb (word_of_node e z) w) (eqb-true m n same) ∙ other
      by_last m (inr none) = absurd cc

      by_part : (m : ℕ) → ((has m p.front ≡ true) ⊎ (has m (n ∷ []) ≡ true)) → eqb (word_of_node e m) w ≡ false
      by_part m (inl there) = p.before m there
      by_part m (inr there) = by_last m (or_cases (eqb m n) false there)

  -- at the node of the word
  pub passing-found : eqb (word_of_node e n) w ≡ true → first_of (filter (λ m. eqb (word_of_node e m) w) xs) ≡ Some n
  passing-found is =
      ap (λ zs. first_of (filter (λ m. eqb (word_of_node e m) w) zs)) parts
      ∙ first-behind (λ m. eqb (word_of_node e m) w) p.front (n ∷ rest) p.before
      ∙ first-head (λ m. eqb (word_of_node e m) w) n rest is

-- at the end of the bucket
pub passing-end : (e : Entries) (w : ℕ) (xs : List ℕ) → IsPassing e w xs None
    → first_of (filter (λ m. eqb (word_of_node e m) w) xs) ≡ None
passing-end e w xs p =
    ap (λ zs. first_of (filter (λ m. eqb (word_of_node e m) w) zs)) p.parts
    ∙ first-behind (λ m. eqb (word_of_node e m) w) p.front p.back p.before
    ∙ ap (λ zs. first_of (filter (λ m. eqb (word_of_node e m) w) zs)) (empty p.back p.to)
  where
    empty : (back : List ℕ) → None ≡ first_of back → back ≡ []
    empty [] e = refl
    empty (y ∷ ys) e = absurd cc
