-- The node behind that of a waiter is that of the waiter right behind it.
use Rattle.std.proofs.Common.{◌≡◌, ◌≢◌, ◌⊎◌, ℕ, ◌+◌, ◌<◌, ◌≤◌, true, false, eqb, List, [], ◌∷◌, ◌++◌, Option, Some, None, IsSome, IfSome, IfNone, option_map, unwrap_or, refl, sym, ◌∙◌, ap, subst, inl, inr, ⊎_elim, arith}
use Rattle.std.proofs.lemmas.Bool.{false≢true, true≢false, or_cases, eqb-true}
use Rattle.std.proofs.lemmas.Option.{same_Some}
use Rattle.std.specs.FinMap.{get}
use Rattle.pif_nodes_model.specs.declared.keys.Key.{Key}
use Rattle.pif_nodes_model.specs.Lists.{has, first_of, next_in_list, HasNoRepeats}
use Rattle.pif_nodes_model.specs.Table.{NodeLists, list_at, key_at, next_node}
use Rattle.pif_nodes_model.proofs.ListLemmas.{first_of-has, has_split, has-append, has-right, next_in_list-split, HasNoRepeats-taken}
use Rattle.pif_nodes_model.specs.Order.{comes_before, key_in, IsInOrder}
use Rattle.pif_nodes_model.proofs.OrderLemmas.{not_before-self}
use Rattle.pif_nodes_model.proofs.WalkLemmas.{next_of_is}
use Rattle.pif_kernel_model.specs.Owners.{waits_on, rank_of}
use Rattle.pif_kernel_model.specs.States.{States, wait_of, wait_node, wait_list, waiter_for, owners_in}
use Rattle.pif_kernel_model.specs.Holds.{HoldsWaiters, IsWaiterIn}
use Rattle.pif_kernel_model.specs.Behind.{IsLast, IsBehind}
use Rattle.pif_kernel_model.proofs.ViewLemmas.{waits_on-owners_in, rank_of-owners_in}
use Rattle.pif_kernel_model.proofs.WaiterLemmas.{waits-state, waiter_for-node}
use Rattle.pif_rtmutex.proofs.ReadLemmas.{first-no_later}
use Rattle.pif_kernel_model.proofs.FrameLemmas.{cases_Some}

-- of a list in order, no node of its back comes before one of its front
order-behind : (keys : List Key) (front back : List ℕ) (x y : ℕ) → IsInOrder keys (front ++ back) → has x front ≡ true
    → has y back ≡ true → comes_before (key_in keys y) (key_in keys x) ≡ false
order-behind keys [] back x y o hx hy = absurd (false≢true hx)
order-behind keys (f ∷ fs) back x y o hx hy =
    ⊎_elim (λ e. ap (λ z. comes_before (key_in keys y) (key_in keys z)) (eqb-true x f e)
    ∙ o.0 y (has-right y fs back hy))
    (λ e. order-behind keys fs back x y o.1 e hy) (or_cases (eqb x f) (has x fs) hx)

-- and its back is in order
order-back : (keys : List Key) (front back : List ℕ) → IsInOrder keys (front ++ back) → IsInOrder keys back
order-back keys [] back o = o
order-back keys (f ∷ fs) back o = order-back keys fs back o.1

first-empty : (xs : List ℕ) (x : ℕ) → first_of xs ≡ None → has x xs ≡ true → ⊥
first-empty [] x e h = false≢true h
first-empty (y ∷ ys) x e h = let wrong : Some y ≡ None = e in absurd cc

module _ (m : States) (t : NodeLists) (u k : ℕ) (h : HoldsWaiters m t) (w : wait_of m u ≡ Some k) where
  at : (r : ℕ) × (get m.places k ≡ Some r) × (r < m.threads)
  at = h.placed k (waits-state m t u k h w)

  abbrev list : List ℕ
  list = list_at t (wait_list m at.0)

  there : has (wait_node m u) list ≡ true
  there = h.apart.listed (wait_list m at.0) (wait_node m u) (h.queued u k at.0 w at.1)

  parts : (front back : List ℕ) × (list ≡ front ++ wait_node m u ∷ back) × (has (wait_node m u) front ≡ false)
  parts = has_split (wait_node m u) list there

  abbrev front : List ℕ
  front = parts.0

  abbrev back : List ℕ
  back = parts.1

  next-is : next_node t (wait_node m u) ≡ first_of back
  next-is =
      next_of_is t (wait_list m at.0) (wait_node m u) h.apart there
      ∙ ap (λ xs. next_in_list xs (wait_node m u)) parts.2
      ∙ next_in_list-split front back (wait_node m u) parts.3

  order : IsInOrder t.keys (front ++ wait_node m u ∷ back)
  order = subst (IsInOrder t.keys) parts.2 (h.sorted at.0 at.2)

  order_here : IsInOrder t.keys (wait_node m u ∷ back)
  order_here = order-back t.keys front (wait_node m u ∷ back) order

  once : HasNoRepeats (front ++ wait_node m u ∷ back)
  once = subst HasNoRepeats parts.2 (h.apart.once (wait_list m at.0))

  -- where another waiter of the state stands
  stands : (x : ℕ) → wait_of m x ≡ Some k
      → (has (wait_node m x) front ≡ true) ⊎ ((wait_node m x ≡ wait_node m u) ⊎ (has (wait_node m x) back ≡ true))
  stands x wx =
      ⊎_elim (λ e. inl e)
      (λ e. inr (⊎_elim (λ z. inl (eqb-true (wait_node m x) (wait_node m u) z)) (λ z. inr z)
      (or_cases (eqb (wait_node m x) (wait_node m u)) (has (wait_node m x) back) e)))
      (or_cases (has (wait_node m x) front) (has (wait_node m x) (wait_node m u ∷ back))
      (sym (has-append (wait_node m x) front (wait_node m u ∷ back))
      ∙ ap (has (wait_node m x)) (sym parts.2)
      ∙ h.apart.listed (wait_list m at.0) (wait_node m x) (h.queued x k at.0 wx at.1)))

  -- before those of the front it doesn't come, nor before itself
  not_ahead : (x : ℕ) → (has (wait_node m x) front ≡ true) ⊎ (wait_node m x ≡ wait_node m u)
      → comes_before (key_at t (wait_node m u)) (key_at t (wait_node m x)) ≡ false
  not_ahead x (inl e) =
      order-behind t.keys front (wait_node m u ∷ back) (wait_node m x) (wait_node m u) order e
      (has-right (wait_node m u) [] (wait_node m u ∷ back) (here (wait_node m u) back))
    where
      here : (n : ℕ) (xs : List ℕ) → has n (n ∷ xs) ≡ true
      here n xs = grind (arith)
  not_ahead x (inr e) =
      ap (λ z. comes_before (key_at t (wait_node m u)) (key_at t z)) e ∙ not_before-self (key_at t (wait_node m u))

  -- who waits, by its node
  rank_is : (x : ℕ) (r : Key) → wait_of m x ≡ Some k → rank_of (owners_in m t) x ≡ Some r
      → key_at t (wait_node m x) ≡ r
  rank_is x r wx e =
      ap (λ (o : Option Key). unwrap_or o r) (sym (rank_of-owners_in m t x k wx) ∙ e)

  waits_same : (x : ℕ) → waits_on (owners_in m t) x ≡ waits_on (owners_in m t) u → wait_of m x ≡ Some k
  waits_same x e = sym (waits_on-owners_in m t x) ∙ e ∙ waits_on-owners_in m t u ∙ w

  pub last : next_node t (wait_node m u) ≡ None → IsLast (owners_in m t) u
  last none x mine other on rank ranked =
      let wx : wait_of m x ≡ Some k = waits_same x on in
      by_place (stands x wx) (rank_is u mine w rank) (rank_is x other wx ranked)
    where
      by_place :
          (has (wait_node m x) front ≡ true) ⊎ ((wait_node m x ≡ wait_node m u) ⊎ (has (wait_node m x) back ≡ true))
          → key_at t (wait_node m u) ≡ mine → key_at t (wait_node m x) ≡ other → comes_before mine other ≡ false
      by_place (inl e) a b = (λ i. comes_before (sym a i) (sym b i)) ∙ not_ahead x (inl e)
      by_place (inr (inl e)) a b = (λ i. comes_before (sym a i) (sym b i)) ∙ not_ahead x (inr e)
      by_place (inr (inr e)) a b = absurd (first-empty back (wait_node m x) (sym next-is ∙ none) e)

  -- the node behind
  module _ (n : ℕ) (some : next_node t (wait_node m u) ≡ Some n) where
    first : first_of back ≡ Some n
    first = sym next-is ∙ some

    listed : has n back ≡ true
    listed = first_of-has back n first

    is : IsWaiterIn m at.0 n
    is =
        h.waiters at.0 n at.2 (ap (has n) parts.2
        ∙ has-right n front (wait_node m u ∷ back) (has-right n (wait_node m u ∷ []) back listed))

    pub node_range : (m.first_node ≤ n) × (n < m.first_node + m.threads)
    node_range = (omega (arith, is.node), omega (arith, is.is_thread, is.node))

    thread : waiter_for m n ≡ is.thread
    thread = ap (waiter_for m) is.node ∙ waiter_for-node m is.thread is.is_thread.0

    waits : wait_of m is.thread ≡ Some k
    waits = is.waits ∙ ap Some (h.alone is.state k at.0 is.place at.1)

    apart : is.thread ≢ u
    apart e =
        true≢false (sym listed ∙ ap (λ x. has x back) (is.node ∙ ap (wait_node m) e)
        ∙ (HasNoRepeats-taken front back (wait_node m u) once).2)

    behind-thread : IsBehind (owners_in m t) u is.thread
    behind-thread = record {
      waits = waits_on-owners_in m t is.thread ∙ waits ∙ sym (waits_on-owners_in m t u ∙ w);
      other = apart;
      rank = key_at t (wait_node m is.thread);
      ranked = rank_of-owners_in m t is.thread k waits;
      behind = λ mine rank.
          (λ i. comes_before (key_at t (sym is.node i)) (sym (rank_is u mine w rank) i)) ∙ order_here.0 n listed;
      next = λ x mine other on rank ranked before.
          let wx : wait_of m x ≡ Some k = waits_same x on in
          by_place x mine other (stands x wx) (rank_is u mine w rank) (rank_is x other wx ranked) before;
    }
      where
        by_place : (x : ℕ) (mine other : Key)
            → (has (wait_node m x) front ≡ true) ⊎ ((wait_node m x ≡ wait_node m u) ⊎ (has (wait_node m x) back ≡ true))
            → key_at t (wait_node m u) ≡ mine → key_at t (wait_node m x) ≡ other → comes_before mine other ≡ true
            → comes_before other (key_at t (wait_node m is.thread)) ≡ false
        by_place x mine other (inl e) a b before =
            absurd (true≢false (sym before ∙ (λ i. comes_before (sym a i) (sym b i)) ∙ not_ahead x (inl e)))
        by_place x mine other (inr (inl e)) a b before =
            absurd (true≢false (sym before ∙ (λ i. comes_before (sym a i) (sym b i)) ∙ not_ahead x (inr e)))
        by_place x mine other (inr (inr e)) a b before =
            (λ i. comes_before (sym b i) (key_at t (sym is.node i)))
            ∙ first-no_later t.keys back n (wait_node m x) order_here.1 first e

    pub behind : IsBehind (owners_in m t) u (waiter_for m n)
    behind = subst (IsBehind (owners_in m t) u) (sym thread) behind-thread

-- who waits does so on some state
waits_some : (o : Option ℕ) → IsSome o → (k : ℕ) × (o ≡ Some k)
waits_some None s = absurd (false≢true s)
waits_some (Some k) s = (k, refl)

pub waits-at : (m : States) (t : NodeLists) (u : ℕ) → IsSome (waits_on (owners_in m t) u) → (k : ℕ) × (wait_of m u ≡ Some k)
waits-at m t u s = waits_some (wait_of m u) (subst IsSome (waits_on-owners_in m t u) s)

pub behind-none : (o : Option ℕ) (m : States) (t : NodeLists) (u : ℕ) → HoldsWaiters m t
    → IsSome (waits_on (owners_in m t) u) → o ≡ option_map (waiter_for m) (next_node t (wait_node m u))
    → IfNone o (IsLast (owners_in m t) u)
behind-none (Some p) m t u h s e = tt
behind-none None m t u h s e = by_next (cases_Some (next_node t (wait_node m u)))
  where
    by_next : ((next_node t (wait_node m u) ≡ None) ⊎ ((x : ℕ) × (next_node t (wait_node m u) ≡ Some x)))
        → IsLast (owners_in m t) u
    by_next (inl none) = let w = waits-at m t u s in last m t u w.0 h w.1 none
    by_next (inr some) =
        let wrong : None ≡ Some (waiter_for m some.0) = e ∙ ap (option_map (waiter_for m)) some.1 in absurd cc

pub behind-some : (o : Option ℕ) (m : States) (t : NodeLists) (u : ℕ) → HoldsWaiters m t
    → IsSome (waits_on (owners_in m t) u) → o ≡ option_map (waiter_for m) (next_node t (wait_node m u))
    → IfSome o (λ p. IsBehind (owners_in m t) u p)
behind-some None m t u h s e = tt
behind-some (Some p) m t u h s e = by_next (cases_Some (next_node t (wait_node m u)))
  where
    by_next : ((next_node t (wait_node m u) ≡ None) ⊎ ((x : ℕ) × (next_node t (wait_node m u) ≡ Some x)))
        → IsBehind (owners_in m t) u p
    by_next (inl none) =
        let wrong : Some p ≡ None = e ∙ ap (option_map (waiter_for m)) none in absurd cc
    by_next (inr some) =
        let w = waits-at m t u s in
        let same : waiter_for m some.0 ≡ p
        = same_Some (waiter_for m some.0) p (sym (ap (option_map (waiter_for m)) some.1) ∙ sym e) in
        subst (IsBehind (owners_in m t) u) same (behind m t u w.0 h w.1 some.0 some.1)
