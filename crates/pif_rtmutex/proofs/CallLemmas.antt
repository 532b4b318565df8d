-- What the calls on a list of waiters answer, as a step of owner states.
use Rattle.std.proofs.Common.{◌≡◌, ◌≢◌, ◌⊎◌, ℕ, ◌<◌, ◌≤◌, eqb, cond, List, set, Option, Some, None, option_map, sym, ◌∙◌, ap, subst, inl, inr, arith}
use Rattle.std.proofs.lemmas.Bool.{cases_eq}
use Rattle.std.proofs.lemmas.List.{get_or-set_same, get_or-set_other}
use Rattle.std.specs.FinMap.{get}
use Rattle.pif_nodes_model.specs.declared.keys.Key.{Key}
use Rattle.pif_nodes_model.specs.Table.{NodeLists, no_key, list_at, key_at, holder, with_key, IsApart}
use Rattle.pif_nodes_model.specs.Order.{comes_before, key_in, IsSorted, OthersStaySorted, table_after_insert, table_after_remove, key_with_prio, key_with_ticket}
use Rattle.pif_nodes_model.proofs.OrderLemmas.{not_before-self}
use Rattle.pif_nodes_model.proofs.SameOrder.{order-as}
use Rattle.pif_model.specs.Graph.{Reaches}
use Rattle.pif_kernel_model.specs.Owners.{Owners, Wait, owner_at, waits_on, rank_of, WaitsFor, KeepsOrder, with_wait, with_prio, with_ticket}
use Rattle.pif_kernel_model.specs.States.{States, IsThread, wait_of, wait_node, top_node, wait_list, first_waiter, owners_in, with_wait_on}
use Rattle.pif_kernel_model.specs.Holds.{HoldsWaiters, IsWaiterIn, IsRankedTop, HoldsTops, HoldsStates}
use Rattle.pif_kernel_model.specs.Frames.{ChangesList}
use Rattle.pif_kernel_model.proofs.ViewLemmas.{waits_on-owners_in, rank_of-owners_in}
use Rattle.pif_kernel_model.proofs.WaiterLemmas.{waits-thread, StandsFirst, stands-first, some_owner}
use Rattle.pif_kernel_model.proofs.ListChanges.{changes-inserted, changes-removed, changes-rekeyed, changes-renamed, changes-as, in-list, in-no_list, key-inserted, key-rekeyed, key-renamed}
use Rattle.pif_rtmutex.specs.Fields.{State}
use Rattle.pif_rtmutex.specs.Steps.{IsStored, IsStep}
use Rattle.pif_rtmutex.proofs.ReadLemmas.{row-below}
use Rattle.pif_rtmutex.proofs.StepLemmas.{seat-wait, IsDone, queued-step, freed-step, ranked-step}
use Rattle.pif_rtmutex.proofs.TopLemmas.{tops-same}

-- a call on list l and node n, which are those of the waiters of state k, of which s is stored, and of thread u
pub record IsCall (m : States) (t now : NodeLists) (k u l n : ℕ) (s : State) : Type 0 where
  pub holds : HoldsStates m t
  pub stored : IsStored m k s
  pub list : l ≡ wait_list m s.row
  pub node : n ≡ wait_node m u
  pub own : IsSorted now l
  pub others : OthersStaySorted t now l
  pub apart : IsApart now

-- what `insert` answered
module _ (m : States) (t now : NodeLists) (k u l n : ℕ) (s : State) (c : IsCall m t now k u l n s) where
  pub enqueued : (rank : Key) → 1 ≤ rank.prio → rank.prio ≤ 99 → IsThread m u → waits_on (owners_in m t) u ≡ None
      → holder t (wait_node m u) ≡ None
      → ((p : ℕ) → owner_at (owners_in m t) k ≡ Some p → Reaches (WaitsFor (owners_in m t)) p u → ⊥)
      → now ≡ table_after_insert t l n rank → ((p : ℕ) → holder now p ≡ cond (eqb p n) (Some l) (holder t p))
      → IsStep m (with_wait_on u (Some k) m) t now k s.owner u
      (with_wait u (Some (record { state = k; rank = rank })) (owners_in m t))
  enqueued rank least most i idle free no_cycle put holders =
      let changes : ChangesList (wait_list m s.row) (wait_node m u) t now =
      changes-as t now l n (wait_list m s.row) (wait_node m u) c.list c.node
      (changes-inserted t now l n c.holds.waiters.apart c.apart c.own c.others rank put holders) in
      let held : holder now (wait_node m u) ≡ Some (wait_list m s.row) = ap (holder now) (sym c.node)
      ∙ in-list t now l n holders ∙ ap Some c.list in
      let key : key_at now (wait_node m u) ≡ rank =
      ap (key_at now) (sym c.node)
      ∙ key-inserted t now l n rank (omega (arith, c.node, i, c.holds.waiters.nodes)) put in
      queued-step m t now k s.row u s.owner rank c.holds i c.stored.row
      (row-below m t k s.row c.holds.waiters c.stored.row) c.stored.owner changes (sym (waits_on-owners_in m t u)
      ∙ idle) free held key least most no_cycle

  -- what is there of a thread that waits on the state
  module _ (waits : waits_on (owners_in m t) u ≡ Some k) where
    on : wait_of m u ≡ Some k
    on = sym (waits_on-owners_in m t u) ∙ waits

    thread : IsThread m u
    thread = waits-thread m t u k c.holds.waiters on

    below : s.row < m.threads
    below = row-below m t k s.row c.holds.waiters c.stored.row

    held : holder t (wait_node m u) ≡ Some (wait_list m s.row)
    held = c.holds.waiters.queued u k s.row on c.stored.row

    -- what `remove` answered
    pub dequeued : now ≡ table_after_remove t l n → ((p : ℕ) → holder now p ≡ cond (eqb p n) None (holder t p))
        → IsStep m (with_wait_on u None m) t now k s.owner u (with_wait u None (owners_in m t))
    dequeued taken holders =
        freed-step m t now k s.row u s.owner c.holds thread c.stored.row below c.stored.owner
        (changes-as t now l n (wait_list m s.row) (wait_node m u) c.list c.node
        (changes-removed t now l n c.holds.waiters.apart c.apart c.own c.others taken holders)) on held
        (ap (holder now) (sym c.node) ∙ in-no_list t now n holders)

    -- what `rekey` answered
    pub rekeyed : (prio : ℕ) → 1 ≤ prio → prio ≤ 99
        → now ≡ table_after_insert (table_after_remove t l n) l n (key_with_prio t n prio)
        → ((p : ℕ) → holder now p ≡ holder t p)
        → IsStep m m t now k s.owner u (with_prio u prio (owners_in m t))
    rekeyed prio least most moved holders =
        let changes : ChangesList (wait_list m s.row) (wait_node m u) t now =
        changes-as t now l n (wait_list m s.row) (wait_node m u) c.list c.node
        (changes-rekeyed t now l n c.holds.waiters.apart c.apart c.own c.others (key_with_prio t n prio) moved
        holders) in
        let rank : Key = key_with_prio t (wait_node m u) prio in
        let key : key_at now (wait_node m u) ≡ rank =
        ap (key_at now) (sym c.node)
        ∙ key-rekeyed t now l n (key_with_prio t n prio)
        (omega (arith, c.node, thread, c.holds.waiters.nodes)) moved
        ∙ ap (λ p. key_with_prio t p prio) c.node in
        let step : IsStep m m t now k s.owner u
        (with_wait u (Some (record { state = k; rank = rank })) (owners_in m t)) =
        ranked-step m t now k s.row u s.owner rank c.holds thread c.stored.row below c.stored.owner changes on held
        (holders (wait_node m u) ∙ held) key least most in
        subst (λ (v : Owners). IsStep m m t now k s.owner u v)
        (ap (λ (w : Option Wait). with_wait u
        (option_map (λ (x : Wait). record x { rank = record x.rank { prio = prio } }) w) (owners_in m t))
        (sym (seat-wait m t u k on)))
        step

    -- what `set_ticket` answered: the first waiter is the same, and so is its priority
    pub ticketed : (ticket : ℕ) → now ≡ with_key t n (key_with_ticket t n ticket)
        → IsDone m m t now u (with_ticket u ticket (owners_in m t))
    ticketed ticket new =
        record {
          holds = record { waiters = step.waiters; tops = tops };
          outside = step.outside;
          nodes = step.nodes;
          view = step.view;
        }
      where
        rank : Key
        rank = key_with_ticket t (wait_node m u) ticket

        changes : ChangesList (wait_list m s.row) (wait_node m u) t now
        changes =
            changes-as t now l n (wait_list m s.row) (wait_node m u) c.list c.node
            (changes-renamed t now l n c.holds.waiters.apart c.apart c.own c.others (key_with_ticket t n ticket) new)

        key : key_at now (wait_node m u) ≡ rank
        key =
            ap (key_at now) (sym c.node)
            ∙ key-renamed t now n (key_with_ticket t n ticket)
            (omega (arith, c.node, thread, c.holds.waiters.nodes)) new
            ∙ ap (λ p. key_with_ticket t p ticket) c.node

        step : IsStep m m t now k s.owner u (with_ticket u ticket (owners_in m t))
        step =
            let seat = c.holds.waiters.sound.seats u in
            let was = seat-wait m t u k on in
            subst (λ (v : Owners). IsStep m m t now k s.owner u v)
            (ap (λ (w : Option Wait). with_wait u
            (option_map (λ (x : Wait). record x { rank = record x.rank { ticket = ticket } }) w) (owners_in m t))
            (sym was))
            (ranked-step m t now k s.row u s.owner rank c.holds thread c.stored.row below c.stored.owner changes on held
            (ap (λ (x : NodeLists). holder x (wait_node m u)) new ∙ held) key
            (seat.least (record { state = k; rank = key_at t (wait_node m u) }) was)
            (seat.most (record { state = k; rank = key_at t (wait_node m u) }) was))

        ranked : (w : ℕ) → first_waiter m t k ≡ Some w → ((w ≡ u) ⊎ (w ≡ u → ⊥)) → IsRankedTop m now w
        ranked w e (inl same) =
            ap (λ (x : Key). x.prio) (changes.keys (top_node m w) (λ q. absurd (omega (arith, thread, q))))
            ∙ c.holds.tops.ranked k s.owner w (c.stored.owner, e)
            ∙ ap (λ p. (key_at t (wait_node m p)).prio) same
            ∙ sym (ap (λ p. (key_at now (wait_node m p)).prio) same ∙ ap (λ (x : Key). x.prio) key)
        ranked w e (inr ne) =
            let first : StandsFirst m t k w =
            stands-first m t k w c.holds.waiters (some_owner m k s.owner c.stored.owner) e in
            ap (λ (x : Key). x.prio) (changes.keys (top_node m w) (λ q. absurd (omega (arith, thread, q))))
            ∙ c.holds.tops.ranked k s.owner w (c.stored.owner, e)
            ∙ ap (λ (x : Key). x.prio)
            (sym (changes.keys (wait_node m w) (λ q. ne (omega (arith, first.is_thread, thread, q)))))

        tops : HoldsTops m now
        tops =
            tops-same m now k s.owner (first_waiter m t k) c.stored.owner
            (ap (λ (x : NodeLists). first_waiter m x k) new) (λ w e. ranked w e (cases_eq w u)) step.but

-- a list of waiters stays in order with a ticket that keeps the order
module _ (m : States) (t : NodeLists) (k u r ticket : ℕ) (h : HoldsWaiters m t) (w : wait_of m u ≡ Some k)
    (place : get m.places k ≡ Some r)
    (low : r < m.threads) (keeps : KeepsOrder (owners_in m t) u ticket) where
  abbrev keys : List Key
  keys = set t.keys (wait_node m u) (key_with_ticket t (wait_node m u) ticket)

  mine : key_in keys (wait_node m u) ≡ key_with_ticket t (wait_node m u) ticket
  mine =
      get_or-set_same t.keys (wait_node m u) (key_with_ticket t (wait_node m u) ticket) no_key
      (omega (arith, waits-thread m t u k h w, h.nodes))

  other : (z : ℕ) → z ≢ wait_node m u → key_in keys z ≡ key_in t.keys z
  other z ne = get_or-set_other t.keys (wait_node m u) z (key_with_ticket t (wait_node m u) ticket) no_key ne

  -- another waiter of the state, and its rank
  waits : (z : ℕ) → (is : IsWaiterIn m r z) → waits_on (owners_in m t) is.thread ≡ waits_on (owners_in m t) u
  waits z is =
      waits_on-owners_in m t is.thread ∙ is.waits ∙ ap Some (h.alone is.state k r is.place place)
      ∙ sym (waits_on-owners_in m t u ∙ w)

  ranks : (z : ℕ) → (is : IsWaiterIn m r z) → rank_of (owners_in m t) is.thread ≡ Some (key_in t.keys z)
  ranks z is = rank_of-owners_in m t is.thread is.state is.waits ∙ ap (λ q. Some (key_at t q)) (sym is.node)

  by_node : (y x : ℕ) → IsWaiterIn m r y → IsWaiterIn m r x → ((y ≡ wait_node m u) ⊎ (y ≡ wait_node m u → ⊥))
      → ((x ≡ wait_node m u) ⊎ (x ≡ wait_node m u → ⊥))
      → comes_before (key_in keys y) (key_in keys x) ≡ comes_before (key_in t.keys y) (key_in t.keys x)
  by_node y x p q (inl e) (inl f) =
      let same : y ≡ x = e ∙ sym f in
      ap (λ z. comes_before (key_in keys y) (key_in keys z)) (sym same) ∙ not_before-self (key_in keys y)
      ∙ sym (ap (λ z. comes_before (key_in t.keys y) (key_in t.keys z)) (sym same) ∙ not_before-self (key_in t.keys y))
  by_node y x p q (inl e) (inr f) =
      (λ i. comes_before ((ap (key_in keys) e ∙ mine) i) (other x f i))
      ∙ keeps.before q.thread (key_at t (wait_node m u)) (key_in t.keys x) (λ s. f (q.node ∙ ap (wait_node m) s))
      (waits x q)
      (rank_of-owners_in m t u k w) (ranks x q)
      ∙ ap (λ z. comes_before (key_in t.keys z) (key_in t.keys x)) (sym e)
  by_node y x p q (inr e) (inl f) =
      (λ i. comes_before (other y e i) ((ap (key_in keys) f ∙ mine) i))
      ∙ keeps.behind p.thread (key_at t (wait_node m u)) (key_in t.keys y) (λ s. e (p.node ∙ ap (wait_node m) s))
      (waits y p)
      (rank_of-owners_in m t u k w) (ranks y p)
      ∙ ap (λ z. comes_before (key_in t.keys y) (key_in t.keys z)) (sym f)
  by_node y x p q (inr e) (inr f) = λ i. comes_before (other y e i) (other x f i)

  pub ticket-sorted : (n l : ℕ) → n ≡ wait_node m u → l ≡ wait_list m r
      → IsSorted (with_key t n (key_with_ticket t n ticket)) l
  ticket-sorted n l node list =
      subst (λ (x : ℕ × ℕ). IsSorted (with_key t x.0 (key_with_ticket t x.0 ticket)) x.1)
      (λ i. (sym node i, sym list i))
      (order-as t.keys keys (list_at t (wait_list m r))
      (λ y x a b. by_node y x (h.waiters r y low a) (h.waiters r x low b) (cases_eq y (wait_node m u))
      (cases_eq x (wait_node m u))) (h.sorted r low))
