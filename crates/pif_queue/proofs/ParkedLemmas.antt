-- Where parked threads stand, and what the lists of a table say of them.
use Rattle.std.proofs.Common.{◌≡◌, ◌⊎◌, ℕ, ◌+◌, ◌<◌, ◌≤◌, true, false, eqb, List, [], ◌∷◌, length, Option, Some, None, option_map, option_and_then, replicate, sym, ◌∙◌, ap, subst, inl, inr, arith}
use Rattle.std.specs.List.{IsDistinct, AllByRecursion}
use Rattle.std.proofs.lemmas.Bool.{cases_lt, or_parts, false≢true}
use Rattle.std.proofs.lemmas.List.{length-replicate, get_or_past, get_or-replicate}
use Rattle.std.proofs.lemmas.Map.Steps.{length-le_from_distinct_below}
use Rattle.std.proofs.lemmas.Option.{same_Some}
use Rattle.pif_nodes_model.specs.Lists.{has, first_of, next_in_list, prev_in_list, list_without, HasNoRepeats}
use Rattle.pif_nodes_model.specs.Table.{NodeLists, list_at, key_at, holder, next_node, prev_node}
use Rattle.pif_nodes_model.proofs.ListLemmas.{first_of-has, next_in_list-has, prev_in_list-has}
use Rattle.pif_nodes_model.specs.Order.{comes_before, IsInOrder}
use Rattle.pif_kernel_model.specs.Differences.{differences, around, across}
use Rattle.pif_kernel_model.specs.Parked.{Place, Parked, ParkedLists, no_parked, place_at, differing_at, IsThread, IsCond, IsNodeOfThread, variable_list, parking_node, thread_of_node, target_in, target_of, parked_with, parked_at, IsParkedNode, StandsIn, StandParked, HoldsParked, HasRoomForParked, IsParkedOn, IsTopParked, HasNoParked, HasTarget}
use Rattle.pif_kernel_model.proofs.Firsts.{option-cases}
use Rattle.pif_queue.proofs.Differing.{differences-list_without, differences-left, differences-most, differences-none, differences-equal}

-- the thread of a thread's node is that thread
pub thread-of_node : (p : ParkedLists) (u : ℕ) → 1 ≤ u → thread_of_node p (parking_node p u) ≡ u
thread-of_node p u low = omega arith

-- what is parked, by place
pub parked-by_place : (p : ParkedLists) (t : NodeLists) (u : ℕ) (x : Place) → place_at p u ≡ Some x
    → parked_at p t u ≡ Some (parked_with (key_at t (parking_node p u)) x)
parked-by_place p t u x e = ap (option_map (parked_with (key_at t (parking_node p u)))) e

pub place-by_parked : (p : ParkedLists) (t : NodeLists) (u : ℕ) (y : Parked) → parked_at p t u ≡ Some y
    → (x : Place) × (place_at p u ≡ Some x) × (y ≡ parked_with (key_at t (parking_node p u)) x)
place-by_parked p t u y e = by_place (option-cases (place_at p u))
  where
    by_place : ((place_at p u ≡ None) ⊎ ((x : Place) × (place_at p u ≡ Some x)))
        → (x : Place) × (place_at p u ≡ Some x) × (y ≡ parked_with (key_at t (parking_node p u)) x)
    by_place (inl none) =
        let wrong : None ≡ Some y = sym (ap (option_map (parked_with (key_at t (parking_node p u)))) none) ∙ e in absurd cc
    by_place (inr some) = (
      some.0,
      some.1,
      same_Some y (parked_with (key_at t (parking_node p u)) some.0) (sym e ∙ parked-by_place p t u some.0 some.1),
    )

-- a list that has no number twice is one of distinct numbers
apart-from : (x : ℕ) (xs : List ℕ) → has x xs ≡ false → AllByRecursion (λ y. eqb x y ≡ false) xs
apart-from x [] none = tt
apart-from x (y ∷ ys) none =
    let parts : (eqb x y ≡ false) × (has x ys ≡ false) = or_parts (eqb x y) (has x ys) none in
    (parts.0, apart-from x ys parts.1)

distinct : (xs : List ℕ) → HasNoRepeats xs → IsDistinct eqb xs
unfolding IsDistinct
distinct [] once = tt
distinct (x ∷ xs) once = (apart-from x xs once.0, distinct xs once.1)

module _ (p : ParkedLists) (t : NodeLists) (h : StandParked p t) where
  -- a node of the list of a variable is one of its own
  pub own-node : (c n : ℕ) → IsCond p c → has n (list_at t (variable_list p c)) ≡ true → IsNodeOfThread p n
  own-node c n is there =
      let node : IsParkedNode p c n = h.others c n is there in
      (omega (arith, node.node), omega (arith, node.node, node.is_thread))

  -- and so are its neighbours
  pub own-next : (c n m : ℕ) → IsCond p c → holder t n ≡ Some (variable_list p c) → next_node t n ≡ Some m → IsNodeOfThread p m
  own-next c n m is held next =
      own-node c m is
      (next_in_list-has (list_at t (variable_list p c)) n m
      (sym (ap (option_and_then (λ l. next_in_list (list_at t l) n)) held) ∙ next))

  pub own-prev : (c n m : ℕ) → IsCond p c → holder t n ≡ Some (variable_list p c) → prev_node t n ≡ Some m → IsNodeOfThread p m
  own-prev c n m is held prev =
      own-node c m is
      (prev_in_list-has (list_at t (variable_list p c)) n m
      (sym (ap (option_and_then (λ l. prev_in_list (list_at t l) n)) held) ∙ prev))

  -- the list of a variable has fewer nodes than there are numbers of 32 bits
  pub few-nodes : (c : ℕ) → IsCond p c → length (list_at t (variable_list p c)) ≤ p.first_node + p.threads
  few-nodes c is =
      length-le_from_distinct_below (list_at t (variable_list p c)) (p.first_node + p.threads)
      (distinct (list_at t (variable_list p c)) (h.apart.once (variable_list p c))) (λ n there. (own-node c n is there).1)

  pub few-differences : (c n : ℕ) → IsCond p c → holder t n ≡ Some (variable_list p c)
      → differences (target_of p) (list_at t (variable_list p c)) + across (target_of p) (list_at t (variable_list p c)) n
      ≤ p.first_node + p.threads
  few-differences c n is held =
      omega (
        arith,
        few-nodes c is,
        differences-most (target_of p) (list_at t (variable_list p c)) n (h.apart.listed (variable_list p c) n held),
      )

  -- with and without a node the differences are what is counted in or out
  pub counts : (c n : ℕ) → IsCond p c → holder t n ≡ Some (variable_list p c)
      → differences (target_of p) (list_at t (variable_list p c)) + across (target_of p) (list_at t (variable_list p c)) n
      ≡ differences (target_of p) (list_without n (list_at t (variable_list p c)))
      + around (target_of p) (list_at t (variable_list p c)) n
  counts c n is held =
      differences-list_without (target_of p) (list_at t (variable_list p c)) n (h.apart.once (variable_list p c))
      (h.apart.listed (variable_list p c) n held)

  -- if no neighbours differ, none do without a node either
  pub none-left : (c n : ℕ) → IsCond p c → holder t n ≡ Some (variable_list p c)
      → differences (target_of p) (list_at t (variable_list p c)) ≡ 0
      → differences (target_of p) (list_without n (list_at t (variable_list p c))) ≡ 0
  none-left c n is held none =
      differences-left (target_of p) (list_at t (variable_list p c)) n (h.apart.once (variable_list p c))
      (h.apart.listed (variable_list p c) n held) none

  -- who is parked on a variable is in its list, and who is in the list is parked there
  pub parked-node : (u c : ℕ) (y : Parked) → parked_at p t u ≡ Some y → y.cond ≡ c
      → IsThread p u × IsCond p c × (has (parking_node p u) (list_at t (variable_list p c)) ≡ true)
      × (y.rank ≡ key_at t (parking_node p u)) × (target_of p (parking_node p u) ≡ y.target)
  parked-node u c y e on =
      let at : (x : Place) × (place_at p u ≡ Some x) × (y ≡ parked_with (key_at t (parking_node p u)) x) =
      place-by_parked p t u y e in
      let stands : StandsIn p t u at.0 = h.parked u at.0 at.1 in
      let cond : at.0.cond ≡ c = sym (ap (λ (z : Parked). z.cond) at.2) ∙ on in (
        stands.is_thread,
        subst (IsCond p) cond stands.is_cond,
        h.apart.listed (variable_list p c) (parking_node p u) (stands.held ∙ ap (λ d. Some (variable_list p d)) cond),
        ap (λ (z : Parked). z.rank) at.2,
        ap (λ v. target_in (place_at p v)) (thread-of_node p u stands.is_thread.0) ∙ ap target_in at.1
            ∙ sym (ap (λ (z : Parked). z.target) at.2),
      )

  pub node-parked : (c n : ℕ) → IsCond p c → has n (list_at t (variable_list p c)) ≡ true
      → IsParkedOn p t c (thread_of_node p n) (key_at t n)
  node-parked c n is there =
      let node : IsParkedNode p c n = h.others c n is there in
      let thread : thread_of_node p n ≡ node.thread = ap (thread_of_node p) node.node
      ∙ thread-of_node p node.thread node.is_thread.0 in
      let place : place_at p (thread_of_node p n) ≡ Some node.place = ap (place_at p) thread ∙ node.at in
      record {
        parked = parked_with (key_at t (parking_node p (thread_of_node p n))) node.place;
        at = parked-by_place p t (thread_of_node p n) node.place place;
        cond = node.cond;
        ranked = ap (λ u. key_at t (parking_node p u)) thread ∙ ap (key_at t) (sym node.node);
      }

  -- a variable whose list is empty has nobody parked on it, and one that has no list neither
  pub none-parked : (c : ℕ) → None ≡ first_of (list_at t (variable_list p c)) → HasNoParked p t c
  none-parked c none u y e on =
      let at = parked-node u c y e on in
      empty (parking_node p u) (list_at t (variable_list p c)) none at.2
    where
      empty : (n : ℕ) (xs : List ℕ) → None ≡ first_of xs → has n xs ≡ true → ⊥
      empty n [] none there = false≢true there
      empty n (x ∷ xs) none there = absurd cc

  pub none-past : (c : ℕ) → p.conds < c → HasNoParked p t c
  none-past c past u y e on = let at = parked-node u c y e on in absurd (omega (arith, at.1, past))

  -- the first of the list of a variable is taken first
  pub top-first : (c n : ℕ) → IsCond p c → Some n ≡ first_of (list_at t (variable_list p c))
      → ((m : ℕ) → has m (list_at t (variable_list p c)) ≡ true → comes_before (key_at t m) (key_at t n) ≡ false)
      → IsTopParked p t c (thread_of_node p n)
  top-first c n is first least =
      record {
        rank = key_at t n;
        on = node-parked c n is (first_of-has (list_at t (variable_list p c)) n (sym first));
        first = λ v other on.
            let at = parked-node v c on.parked on.at on.cond in
            ap (λ k. comes_before k (key_at t n)) (sym on.ranked ∙ at.3) ∙ least (parking_node p v) at.2;
      }

-- whether all that are parked on a variable have one target, by the first of them
module _ (p : ParkedLists) (t : NodeLists) (h : HoldsParked p t) (c n m : ℕ) (is : IsCond p c)
    (first : Some n ≡ first_of (list_at t (variable_list p c))) where
  -- each node of the list has the target of the first
  as-first : differing_at p c ≡ 0 → (k : ℕ) → has k (list_at t (variable_list p c)) ≡ true → target_of p k ≡ target_of p n
  as-first none k there = by_list (list_at t (variable_list p c)) first (sym (h.counted c is) ∙ none) there
    where
      by_list : (xs : List ℕ) → Some n ≡ first_of xs → differences (target_of p) xs ≡ 0 → has k xs ≡ true
          → target_of p k ≡ target_of p n
      by_list [] at zero there = absurd (false≢true there)
      by_list (x ∷ xs) at zero there =
          let same : x ≡ n = same_Some x n (sym at) in
          differences-none (target_of p) x xs zero k there ∙ ap (target_of p) same

  pub target-all : differing_at p c ≡ 0 → target_of p n ≡ m → HasTarget p t c m
  target-all none target u y e on =
      let at = parked-node p t h.stand u c y e on in
      sym at.4 ∙ as-first none (parking_node p u) at.2 ∙ target

  -- the target of a node of the list
  target-of_node : HasTarget p t c m → (k : ℕ) → has k (list_at t (variable_list p c)) ≡ true → target_of p k ≡ m
  target-of_node all k there =
      let on : IsParkedOn p t c (thread_of_node p k) (key_at t k) = node-parked p t h.stand c k is there in
      let at = parked-node p t h.stand (thread_of_node p k) c on.parked on.at on.cond in
      let node : IsParkedNode p c k = h.stand.others c k is there in
      let same : parking_node p (thread_of_node p k) ≡ k = omega (arith, node.node, node.is_thread) in
      ap (target_of p) (sym same) ∙ at.4 ∙ all (thread_of_node p k) on.parked on.at on.cond

  pub target-only : HasTarget p t c m → (differing_at p c ≡ 0) × (target_of p n ≡ m)
  target-only all = (
    h.counted c is ∙ differences-equal (target_of p) m (list_at t (variable_list p c)) (target-of_node all),
    target-of_node all n (first_of-has (list_at t (variable_list p c)) n (sym first)),
  )

-- nobody is parked at first
no-place : (first_list first_node threads conds u : ℕ) → place_at (no_parked first_list first_node threads conds) u ≡ None
no-place first_list first_node threads conds u = by_length (cases_lt u (threads + 1))
  where
    by_length : ((u < threads + 1) ⊎ (threads + 1 ≤ u)) → place_at (no_parked first_list first_node threads conds) u ≡ None
    by_length (inl l) = get_or-replicate (threads + 1) u None None l
    by_length (inr past) =
        get_or_past (replicate (threads + 1) None) u None
        (omega (arith, past, length-replicate {A = Option Place} (threads + 1) None))

pub nobody-parked : (first_list first_node threads conds : ℕ) (t : NodeLists) (u : ℕ)
    → parked_at (no_parked first_list first_node threads conds) t u ≡ None
nobody-parked first_list first_node threads conds t u =
    ap (option_map (parked_with (key_at t (parking_node (no_parked first_list first_node threads conds) u))))
    (no-place first_list first_node threads conds u)

module _ (first_list first_node threads conds : ℕ) (t : NodeLists)
    (room : HasRoomForParked (no_parked first_list first_node threads conds) t) where
  abbrev p : ParkedLists
  p = no_parked first_list first_node threads conds

  nobody : (c n : ℕ) → IsCond p c → has n (list_at t (variable_list p c)) ≡ true → ⊥
  nobody c n is there = false≢true (sym (ap (has n) (room.empty c is)) ∙ there)

  pub holds-no_parked : HoldsParked p t
  holds-no_parked =
      record {
        stand =
            record {
              apart = room.apart;
              lists = room.lists;
              nodes = room.nodes;
              places = length-replicate {A = Option Place} (threads + 1) None;
              counts = length-replicate {A = ℕ} (conds + 1) 0;
              parked = λ u x e. let wrong : None ≡ Some x = sym (no-place first_list first_node threads conds u) ∙ e in absurd cc;
              others = λ c n is there. absurd (nobody c n is there);
              sorted = λ c is. subst (IsInOrder t.keys) (sym (room.empty c is)) tt;
            };
        counted = λ c is. get_or-replicate (conds + 1) c 0 0 (omega (arith, is))
            ∙ ap (differences (target_of p)) (sym (room.empty c is));
      }
