-- What holds of owner states still holds once others changed the table and kept what is theirs.
use Rattle.std.proofs.Common.{◌≡◌, ◌⊎◌, ℕ, ◌+◌, ◌*◌, ◌<◌, ◌≤◌, List, Option, Some, None, option_map, refl, sym, ◌∙◌, ap, subst, inl, inr, arith}
use Rattle.std.proofs.lemmas.Option.{same_Some}
use Rattle.std.specs.FinMap.{get}
use Rattle.pif_nodes_model.specs.declared.keys.Key.{Key}
use Rattle.pif_nodes_model.specs.Lists.{has, first_of}
use Rattle.pif_nodes_model.specs.Table.{NodeLists, list_at, key_at, holder, IsApart}
use Rattle.pif_nodes_model.specs.Order.{IsInOrder, IsSorted}
use Rattle.pif_nodes_model.proofs.OrderLemmas.{IsInOrder-same}
use Rattle.pif_kernel_model.specs.Owners.{Task, AreSoundOwners}
use Rattle.pif_kernel_model.specs.States.{States, IsThread, row_at, wait_of, wait_node, top_node, wait_list, top_list, waiter_for, first_waiter, seat_in, owners_in}
use Rattle.pif_kernel_model.specs.Holds.{HoldsWaiters, IsTopped, IsFirstOf, IsTopOf, IsRankedTop, HoldsTops, HoldsStates}
use Rattle.pif_kernel_model.specs.Frames.{KeepsLists, KeepsOwn}
use Rattle.pif_kernel_model.proofs.ViewLemmas.{length-seats, task_at-owners_in, owners_in-by_seat}
use Rattle.pif_kernel_model.proofs.WaiterLemmas.{waits-state, first_waiter-by_row, StandsFirst, stands-first, some_owner}

-- a node of a list that was kept is still there
pub held-kept : (first count : ℕ) (was now : NodeLists) (l n : ℕ) → KeepsLists first count was now → IsApart was
    → IsApart now
    → first ≤ l → l < first + count → holder was n ≡ Some l → holder now n ≡ Some l
held-kept first count was now l n keeps before apart low high e =
    apart.alone l n (ap (has n) (keeps.lists l low high) ∙ before.listed l n e)

-- and a list that was sorted is still sorted
pub sorted-kept : (first count : ℕ) (was now : NodeLists) (l : ℕ) → KeepsLists first count was now → first ≤ l
    → l < first + count
    → IsSorted was l → IsSorted now l
sorted-kept first count was now l keeps low high sorted =
    subst (IsInOrder now.keys) (sym (keeps.lists l low high))
    (IsInOrder-same was.keys now.keys (list_at was l) (λ p h. keeps.keys l p low high h) sorted)

-- fewer lists of those that were kept
pub keeps-fewer : (first count fewer : ℕ) (was now : NodeLists) → fewer ≤ count → KeepsLists first count was now
    → KeepsLists first fewer was now
keeps-fewer first count fewer was now less keeps =
    record {
      lists = λ l low high. keeps.lists l low (omega arith);
      keys = λ l n low high h. keeps.keys l n low (omega arith) h;
      list_count = keeps.list_count;
      node_count = keeps.node_count;
    }

-- what is there of an option, or that nothing is
pub cases_Some : (o : Option ℕ) → (o ≡ None) ⊎ ((x : ℕ) × (o ≡ Some x))
cases_Some None = inl refl
cases_Some (Some x) = inr (x, refl)

module _ (m : States) (was now : NodeLists) (keeps : KeepsLists m.first_list m.threads was now)
    (h : HoldsWaiters m was) where
  -- a waiter's node stands in the same list, and has the same key
  pub waiter-framed : (u k : ℕ) → wait_of m u ≡ Some k
      → (r : ℕ) × (get m.places k ≡ Some r) × (r < m.threads) × (key_at now (wait_node m u) ≡ key_at was
      (wait_node m u))
  waiter-framed u k w =
      let at : (r : ℕ) × (get m.places k ≡ Some r) × (r < m.threads) = h.placed k (waits-state m was u k h w) in
      let held : holder was (wait_node m u) ≡ Some (wait_list m at.0) = h.queued u k at.0 w at.1 in (
        at.0,
        at.1,
        at.2,
        keeps.keys (wait_list m at.0) (wait_node m u) (omega arith) (omega (arith, at.2))
            (h.apart.listed (wait_list m at.0) (wait_node m u) held),
      )

  -- what value and table say of a thread stays
  seat-framed : (u : ℕ) → seat_in m was u ≡ seat_in m now u
  seat-framed u = by_wait (cases_Some (wait_of m u))
    where
      seat : Option ℕ → Key → Task
      seat o k =
          record {
            base = (row_at m u).base;
            local = (row_at m u).local;
            wait =
                option_map (λ j. record { state = j; rank = k }) o;
          }

      by_wait : ((wait_of m u ≡ None) ⊎ ((k : ℕ) × (wait_of m u ≡ Some k))) → seat_in m was u ≡ seat_in m now u
      by_wait (inl none) =
          ap (λ (o : Option ℕ). record {
            base = (row_at m u).base;
            local = (row_at m u).local;
            wait =
                option_map (λ j. record { state = j; rank = key_at was (wait_node m u) }) o;
          }) none
          ∙ sym (ap
          (λ (o : Option ℕ). record {
            base = (row_at m u).base;
            local = (row_at m u).local;
            wait =
                option_map (λ j. record { state = j; rank = key_at now (wait_node m u) }) o;
          }) none)
      by_wait (inr some) =
          ap (λ (k : Key). record {
            base = (row_at m u).base;
            local = (row_at m u).local;
            wait =
                option_map (λ j. record { state = j; rank = k }) (wait_of m u);
          })
          (sym (waiter-framed u some.0 some.1).3)

  pub view-framed : owners_in m now ≡ owners_in m was
  view-framed =
      owners_in-by_seat m now (owners_in m was) refl (length-seats m was) (λ u l. task_at-owners_in m was u
      ∙ seat-framed u)

  pub waiters-framed : IsApart now → HoldsWaiters m now
  waiters-framed apart =
      record {
        apart = apart;
        lists = omega (arith, h.lists, keeps.list_count);
        nodes = omega (arith, h.nodes, keeps.node_count);
        rows = h.rows;
        sound = subst AreSoundOwners (sym view-framed) h.sound;
        owned = h.owned;
        placed = h.placed;
        stated = h.stated;
        alone = h.alone;
        queued = λ u k r w p.
            let at : (r : ℕ) × (get m.places k ≡ Some r) × (r < m.threads) = h.placed k (waits-state m was u k h w) in
            let same : r ≡ at.0 = same_Some r at.0 (sym p ∙ at.1) in
            held-kept m.first_list m.threads was now (wait_list m r) (wait_node m u) keeps h.apart apart (omega arith)
            (omega (arith, at.2)) (h.queued u k r w p);
        waiters =
            λ r n l e. h.waiters r n l (ap (has n) (sym (keeps.lists (wait_list m r) (omega arith) (omega arith))) ∙ e);
        sorted = λ r l. sorted-kept m.first_list m.threads was now (wait_list m r) keeps (omega arith) (omega arith)
            (h.sorted r l);
      }

  -- who the first waiter of a state is stays
  pub first_waiter-framed : (k o : ℕ) → get m.owners k ≡ Some o → first_waiter m now k ≡ first_waiter m was k
  first_waiter-framed k o e =
      let at : (r : ℕ) × (get m.places k ≡ Some r) × (r < m.threads) = h.placed k (some_owner m k o e) in
      first_waiter-by_row m now k at.0 at.1
      ∙ ap (λ (xs : List ℕ). option_map (waiter_for m) (first_of xs))
      (keeps.lists (wait_list m at.0) (omega arith) (omega (arith, at.2)))
      ∙ sym (first_waiter-by_row m was k at.0 at.1)

-- top nodes that stand for the same threads, said in another way
pub topped-as : (m : States) (t : NodeLists) (R S : ℕ → ℕ → Type 0) → ((o u : ℕ) → R o u → S o u)
    → ((o u : ℕ) → S o u → R o u)
    → IsTopped m t R → IsTopped m t S
topped-as m t R S to from h =
    record {
      stands = λ o u s. h.stands o u (from o u s);
      only = λ l u i e. let at : (o : ℕ) × (l ≡ top_list m o) × R o u = h.only l u i e in (at.0, at.1, to at.0 u at.2);
      nodes = h.nodes;
      sorted = h.sorted;
    }

-- the top nodes stand as they stood
topped-framed : (m : States) (was now : NodeLists) (R : ℕ → ℕ → Type 0) → KeepsOwn m was now → IsApart was → IsApart now
    → ((o u : ℕ) → R o u → IsThread m o) → IsTopped m was R → IsTopped m now R
topped-framed m was now R keeps before apart threads h =
    record {
      stands = stands;
      only = λ l u i e. by_holder l u i e (cases_Some (holder was (top_node m u)));
      nodes = λ o n i e. h.nodes o n i
          (ap (has n) (sym (keeps.lists.lists (top_list m o) (omega (arith, i)) (omega (arith, i)))) ∙ e);
      sorted = λ o i. sorted-kept m.first_list (2 * m.threads) was now (top_list m o) keeps.lists (omega (arith, i))
          (omega (arith, i)) (h.sorted o i);
    }
  where
    stands : (o u : ℕ) → R o u → holder now (top_node m u) ≡ Some (top_list m o)
    stands o u s =
        let i : IsThread m o = threads o u s in
        held-kept m.first_list (2 * m.threads) was now (top_list m o) (top_node m u) keeps.lists before apart
        (omega (arith, i)) (omega (arith, i)) (h.stands o u s)

    by_holder : (l u : ℕ) → IsThread m u → holder now (top_node m u) ≡ Some l
        → ((holder was (top_node m u) ≡ None) ⊎ ((j : ℕ) × (holder was (top_node m u) ≡ Some j)))
        → (o : ℕ) × (l ≡ top_list m o) × R o u
    by_holder l u i e (inl none) = let wrong : Some l ≡ None = sym e ∙ keeps.free u i none in absurd cc
    by_holder l u i e (inr some) =
        let at : (o : ℕ) × (some.0 ≡ top_list m o) × R o u = h.only some.0 u i some.1 in
        (at.0, same_Some l (top_list m at.0) (sym e ∙ stands at.0 u at.2), at.2)

module _ (m : States) (was now : NodeLists) (keeps : KeepsOwn m was now) (apart : IsApart now) (h : HoldsStates m was) where
  abbrev waits : KeepsLists m.first_list m.threads was now
  waits = keeps-fewer m.first_list (2 * m.threads) m.threads was now (omega arith) keeps.lists

  tops-framed : HoldsTops m now
  tops-framed =
      record {
        topped =
            topped-as m now (IsTopOf m was) (IsTopOf m now)
            (λ o u s. (s.0, (s.1.0, first_waiter-framed m was now waits h.waiters s.0 o s.1.0 ∙ s.1.1)))
            (λ o u s. (s.0, (s.1.0, sym (first_waiter-framed m was now waits h.waiters s.0 o s.1.0) ∙ s.1.1)))
            (topped-framed m was now (IsTopOf m was) keeps h.waiters.apart apart
            (λ o u s. h.waiters.owned s.0 o s.1.0) h.tops.topped);
        ranked = λ k o u s. by_first k o u (s.0, sym (first_waiter-framed m was now waits h.waiters k o s.0) ∙ s.1);
      }
    where
      by_first : (k o u : ℕ) → IsFirstOf m was k o u → IsRankedTop m now u
      by_first k o u s =
          let first : StandsFirst m was k u = stands-first m was k u h.waiters (some_owner m k o s.0) s.1 in
          let i : IsThread m o = h.waiters.owned k o s.0 in
          let top : key_at now (top_node m u) ≡ key_at was (top_node m u) =
          keeps.lists.keys (top_list m o) (top_node m u) (omega (arith, i)) (omega (arith, i))
          (h.waiters.apart.listed (top_list m o) (top_node m u) (h.tops.topped.stands o u (k, s))) in
          ap (λ (x : Key). x.prio) top ∙ h.tops.ranked k o u s
          ∙ ap (λ (x : Key). x.prio) (sym (waiter-framed m was now waits h.waiters u k first.waits).3)

  -- owner states stand in the table as before
  pub holds-framed : HoldsStates m now
  holds-framed = record { waiters = waiters-framed m was now waits h.waiters apart; tops = tops-framed }

  -- and are what they were
  pub owners-framed : owners_in m now ≡ owners_in m was
  owners-framed = view-framed m was now waits h.waiters
