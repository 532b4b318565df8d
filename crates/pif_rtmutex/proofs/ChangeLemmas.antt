-- The waiters of one state change: one thread comes, goes or gets another key.
use Rattle.std.proofs.Common.{◌≡◌, ◌≢◌, ◌⊎◌, ℕ, ◌<◌, true, List, length, set, get_or, Option, Some, None, option_map, refl, sym, ◌∙◌, ap, subst, inl, inr, arith}
use Rattle.std.proofs.lemmas.Bool.{cases_eq}
use Rattle.std.proofs.lemmas.List.{get_or-set_same, get_or-set_other, length-set}
use Rattle.std.proofs.lemmas.Option.{same_Some}
use Rattle.std.specs.FinMap.{get}
use Rattle.pif_nodes_model.specs.declared.keys.Key.{Key}
use Rattle.pif_nodes_model.specs.Lists.{has, first_of}
use Rattle.pif_nodes_model.specs.Table.{NodeLists, list_at, key_at, holder}
use Rattle.pif_nodes_model.specs.Order.{IsSorted}
use Rattle.pif_kernel_model.specs.Owners.{Task, no_task, with_task, AreSoundOwners}
use Rattle.pif_kernel_model.specs.States.{Row, States, IsThread, IsOwnList, no_row, row_at, wait_of, wait_node, top_node, wait_list, top_list, waiter_for, first_waiter, seat_in, owners_in}
use Rattle.pif_kernel_model.specs.Holds.{HoldsWaiters, IsWaiterIn, IsTopNode, IsTopped, IsFirstOf, IsTopOf, IsRankedTop, IsTopBut, HoldsTops, IsToppedBut}
use Rattle.pif_kernel_model.specs.Frames.{SameOutsideStates, ChangesList, ChangesTops}
use Rattle.pif_kernel_model.proofs.ViewLemmas.{length-seats, task_at-owners_in, owners_in-by_seat}
use Rattle.pif_kernel_model.proofs.WaiterLemmas.{waits-thread, first_waiter-by_row, StandsFirst, stands-first, some_owner}
use Rattle.pif_kernel_model.proofs.FrameLemmas.{cases_Some, view-framed, waiters-framed, topped-as}
use Rattle.pif_kernel_model.proofs.ListChanges.{had-other, outside-changed}

-- the value has these rows then, of which that of thread u may be another one, and of the table the list of row r of
-- state k and the node of u as a waiter changed
pub record IsChange (m : States) (rows : List Row) (t now : NodeLists) (k r u o : ℕ) : Type 0 where
  pub thread : IsThread m u
  pub place : get m.places k ≡ Some r
  pub below : r < m.threads
  pub owner : get m.owners k ≡ Some o
  pub changes : ChangesList (wait_list m r) (wait_node m u) t now
  pub count : length rows ≡ length m.rows
  pub others : (w : ℕ) → w ≢ u → get_or rows w no_row ≡ row_at m w
  -- u waited on no other state, and waits on no other
  pub before : (j : ℕ) → wait_of m u ≡ Some j → j ≡ k
  pub from : (j : ℕ) → holder t (wait_node m u) ≡ Some j → IsOwnList m j
  pub waits : (j : ℕ) → (get_or rows u no_row).wait ≡ Some j
      → (j ≡ k) × (holder now (wait_node m u) ≡ Some (wait_list m r))
  pub stands : holder now (wait_node m u) ≡ Some (wait_list m r) → (get_or rows u no_row).wait ≡ Some k

module _ (m : States) (rows : List Row) (t now : NodeLists) (k r u o : ℕ) (h : HoldsWaiters m t)
    (c : IsChange m rows t now k r u o) where
  abbrev next : States
  next = record m { rows = rows }

  -- another thread has another node
  other_node : (w : ℕ) → IsThread m w → w ≢ u → wait_node m w ≢ wait_node m u
  other_node w i ne e = ne (omega (arith, i, c.thread, e))

  -- and what is known of it stays
  seat-kept : (w : ℕ) → w ≢ u → seat_in next now w ≡ seat_in m t w
  seat-kept w ne =
      ap (λ (x : Row). record {
        base = x.base;
        local = x.local;
        wait =
            option_map (λ j. record { state = j; rank = key_at now (wait_node m w) }) x.wait;
      }) (c.others w ne)
      ∙ by_wait (cases_Some (wait_of m w))
    where
      by_wait : ((wait_of m w ≡ None) ⊎ ((j : ℕ) × (wait_of m w ≡ Some j)))
          → record {
            base = (row_at m w).base;
            local = (row_at m w).local;
            wait =
                option_map (λ j. record { state = j; rank = key_at now (wait_node m w) }) (wait_of m w);
          } ≡ seat_in m t w
      by_wait (inl none) =
          ap (λ (x : Option ℕ). record {
            base = (row_at m w).base;
            local = (row_at m w).local;
            wait =
                option_map (λ j. record { state = j; rank = key_at now (wait_node m w) }) x;
          }) none
          ∙ sym (ap
          (λ (x : Option ℕ). record {
            base = (row_at m w).base;
            local = (row_at m w).local;
            wait =
                option_map (λ j. record { state = j; rank = key_at t (wait_node m w) }) x;
          }) none)
      by_wait (inr some) =
          ap (λ (x : Key). record {
            base = (row_at m w).base;
            local = (row_at m w).local;
            wait =
                option_map (λ j. record { state = j; rank = x }) (wait_of m w);
          })
          (c.changes.keys (wait_node m w) (other_node w (waits-thread m t w some.0 h some.1) ne))

  -- so the view has another seat of that thread
  pub view-changed : (x : Task) → seat_in next now u ≡ x → owners_in next now ≡ with_task u x (owners_in m t)
  view-changed x e =
      owners_in-by_seat next now (with_task u x (owners_in m t)) refl
      (length-set (owners_in m t).seats u x ∙ length-seats m t ∙ sym c.count)
      (λ w l. by_thread w (cases_eq w u))
    where
      by_thread : (w : ℕ) → ((w ≡ u) ⊎ (w ≡ u → ⊥))
          → get_or (set (owners_in m t).seats u x) w no_task ≡ seat_in next now w
      by_thread w (inl same) =
          ap (λ p. get_or (set (owners_in m t).seats u x) p no_task) same
          ∙ get_or-set_same (owners_in m t).seats u x no_task (omega (arith, length-seats m t, h.rows, c.thread))
          ∙ sym e ∙ ap (seat_in next now) (sym same)
      by_thread w (inr ne) = get_or-set_other (owners_in m t).seats u w x no_task ne ∙ task_at-owners_in m t w
          ∙ sym (seat-kept w ne)

  pub waiters-outside : SameOutsideStates m t now
  waiters-outside =
      outside-changed m t now (wait_list m r) (wait_node m u) (omega arith, omega (arith, c.below))
      (omega arith, omega (arith, c.thread)) c.from c.changes

  -- the lists of other rows stay
  other_list : (q : ℕ) → q ≢ r → list_at now (wait_list m q) ≡ list_at t (wait_list m q)
  other_list q ne = c.changes.lists (wait_list m q) (λ e. ne (omega (arith, e)))

  pub waiters-changed : AreSoundOwners (owners_in next now) → HoldsWaiters next now
  waiters-changed sound =
      record {
        apart = c.changes.apart;
        lists = omega (arith, h.lists, c.changes.list_count);
        nodes = omega (arith, h.nodes, c.changes.node_count);
        rows = c.count ∙ h.rows;
        sound = sound;
        owned = h.owned;
        placed = h.placed;
        stated = h.stated;
        alone = h.alone;
        queued = λ w j q e p. queued w j q e p (cases_eq w u);
        waiters = λ q n l e. waiters q n l e (cases_eq n (wait_node m u)) (cases_eq q r);
        sorted = λ q l. sorted q l (cases_eq q r);
      }
    where
      queued : (w j q : ℕ) → (get_or rows w no_row).wait ≡ Some j → get m.places j ≡ Some q → ((w ≡ u) ⊎ (w ≡ u → ⊥))
          → holder now (wait_node m w) ≡ Some (wait_list m q)
      queued w j q e p (inl same) =
          let on : (j ≡ k) × (holder now (wait_node m u) ≡ Some (wait_list m r)) =
          c.waits j (ap (λ x. (get_or rows x no_row).wait) (sym same) ∙ e) in
          let row : r ≡ q = same_Some r q (sym c.place ∙ ap (get m.places) (sym on.0) ∙ p) in
          ap (λ x. holder now (wait_node m x)) same ∙ on.1 ∙ ap (λ x. Some (wait_list m x)) row
      queued w j q e p (inr ne) =
          let waits : wait_of m w ≡ Some j = ap (λ (x : Row). x.wait) (sym (c.others w ne)) ∙ e in
          c.changes.holders (wait_node m w) (other_node w (waits-thread m t w j h waits) ne) ∙ h.queued w j q waits p

      waiters : (q n : ℕ) → q < m.threads → has n (list_at now (wait_list m q)) ≡ true
          → ((n ≡ wait_node m u) ⊎ (n ≡ wait_node m u → ⊥))
          → ((q ≡ r) ⊎ (q ≡ r → ⊥)) → IsWaiterIn next q n
      waiters q n l e (inl same) (inl row) =
          record {
            thread = u;
            state = k;
            is_thread = c.thread;
            node = same;
            place = c.place ∙ ap Some (sym row);
            waits = c.stands (ap (holder now) (sym same) ∙ c.changes.apart.alone (wait_list m q) n e
                ∙ ap (λ x. Some (wait_list m x)) row);
          }
      waiters q n l e (inl same) (inr other) =
          let is : IsWaiterIn m q n = h.waiters q n l (ap (has n) (sym (other_list q other)) ∙ e) in
          let one : is.thread ≡ u = omega (arith, is.is_thread, c.thread, is.node, same) in
          let on : is.state ≡ k = c.before is.state (ap (wait_of m) (sym one) ∙ is.waits) in
          absurd (other (same_Some q r (sym is.place ∙ ap (get m.places) on ∙ c.place)))
      waiters q n l e (inr other) row =
          let is : IsWaiterIn m q n =
          h.waiters q n l (had-other t now (wait_list m r) (wait_node m u) (wait_list m q) n c.changes other e) in
          record {
            thread = is.thread;
            state = is.state;
            is_thread = is.is_thread;
            node = is.node;
            place = is.place;
            waits = ap (λ (x : Row). x.wait) (c.others is.thread (λ e. other (is.node ∙ ap (wait_node m) e)))
                ∙ is.waits;
          }

      sorted : (q : ℕ) → q < m.threads → ((q ≡ r) ⊎ (q ≡ r → ⊥)) → IsSorted now (wait_list m q)
      sorted q l (inl same) = subst (λ x. IsSorted now (wait_list m x)) (sym same) c.changes.own
      sorted q l (inr ne) = c.changes.sorted (wait_list m q) (λ e. ne (omega (arith, e))) (h.sorted q l)

  -- the first waiter of another state stays
  pub first_waiter-other : (j p : ℕ) → j ≢ k → get m.owners j ≡ Some p → first_waiter next now j ≡ first_waiter m t j
  first_waiter-other j p ne e =
      let at : (q : ℕ) × (get m.places j ≡ Some q) × (q < m.threads) = h.placed j (some_owner m j p e) in
      first_waiter-by_row next now j at.0 at.1
      ∙ ap (λ (xs : List ℕ). option_map (waiter_for m) (first_of xs))
      (other_list at.0 (λ same. ne (h.alone j k at.0 at.1 (c.place ∙ ap Some (sym same)))))
      ∙ sym (first_waiter-by_row m t j at.0 at.1)

  -- the top nodes stand as they stood
  tops_stand : (R : ℕ → ℕ → Type 0) → ((p w : ℕ) → R p w → IsThread m p) → IsTopped m t R → IsTopped next now R
  tops_stand R threads tops =
      record {
        stands = λ p w s. c.changes.holders (top_node m w) (λ e. absurd (omega (arith, c.thread, e)))
            ∙ tops.stands p w s;
        only = λ l w i e. tops.only l w i
            (sym (c.changes.holders (top_node m w) (λ e. absurd (omega (arith, c.thread, e)))) ∙ e);
        nodes = λ p n i e.
            let is : IsTopNode m n =
            tops.nodes p n i
            (ap (has n) (sym (c.changes.lists (top_list m p) (λ e. absurd (omega (arith, c.below, e))))) ∙ e) in
            record { thread = is.thread; is_thread = is.is_thread; node = is.node };
        sorted = λ p i. c.changes.sorted (top_list m p) (λ e. absurd (omega (arith, c.below, e))) (tops.sorted p i);
      }

  -- and are right but for the state whose waiters changed
  pub tops-but : HoldsTops m t → IsToppedBut next now k o (first_waiter m t k)
  tops-but tops =
      record {
        topped =
            topped-as next now (IsTopOf m t) (IsTopBut next now k o (first_waiter m t k))
            (λ p w s. to p w s (cases_eq s.0 k)) back
            (tops_stand (IsTopOf m t) (λ p w s. h.owned s.0 p s.1.0) tops.topped);
        ranked = ranked;
        thread = λ w e. (stands-first m t k w h (some_owner m k o c.owner) e).is_thread;
        apart = λ j p w e ne s.
            let first : StandsFirst m t k w = stands-first m t k w h (some_owner m k o c.owner) e in
            let was : IsFirstOf m t j p w = was_first j p w ne s in
            let other : StandsFirst m t j w = stands-first m t j w h (some_owner m j p was.0) was.1 in
            ne (same_Some j k (sym other.waits ∙ first.waits));
      }
    where
      was_first : (j p w : ℕ) → j ≢ k → IsFirstOf next now j p w → IsFirstOf m t j p w
      was_first j p w ne s =
          (s.0, sym (first_waiter-other j p ne s.0) ∙ s.1)

      to : (p w : ℕ) → (s : IsTopOf m t p w) → ((s.0 ≡ k) ⊎ (s.0 ≡ k → ⊥))
          → IsTopBut next now k o (first_waiter m t k) p w
      to p w s (inl same) =
          inr (same_Some p o (sym s.1.0 ∙ ap (get m.owners) same ∙ c.owner), ap (first_waiter m t) (sym same) ∙ s.1.1)
      to p w s (inr ne) = inl (s.0, ne, (s.1.0, first_waiter-other s.0 p ne s.1.0 ∙ s.1.1))

      back : (p w : ℕ) → IsTopBut next now k o (first_waiter m t k) p w → IsTopOf m t p w
      back p w (inl s) = (s.0, was_first s.0 p w s.1 s.2)
      back p w (inr s) = (k, (c.owner ∙ ap Some (sym s.0), s.1))

      ranked : (j p w : ℕ) → j ≢ k → IsFirstOf next now j p w → IsRankedTop next now w
      ranked j p w ne s =
          let was : IsFirstOf m t j p w = was_first j p w ne s in
          let first : StandsFirst m t j w = stands-first m t j w h (some_owner m j p was.0) was.1 in
          let other : w ≢ u = λ e. ne (c.before j (ap (wait_of m) (sym e) ∙ first.waits)) in
          ap (λ (x : Key). x.prio) (c.changes.keys (top_node m w) (λ e. absurd (omega (arith, c.thread, e))))
          ∙ tops.ranked j p w was
          ∙ ap (λ (x : Key). x.prio) (sym (c.changes.keys (wait_node m w) (other_node w first.is_thread other)))

-- once the top waiters are right again the owner states stand in the table, and are what they were before
module _ (m : States) (t now : NodeLists) (h : HoldsWaiters m t) (c : ChangesTops m t now) where
  pub waiters-stay : HoldsWaiters m now
  waiters-stay = waiters-framed m t now c.waiters h c.apart

  pub owners-stay : owners_in m now ≡ owners_in m t
  owners-stay = view-framed m t now c.waiters h
