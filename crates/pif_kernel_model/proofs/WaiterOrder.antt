-- The waiters of a mutex in the order in which they get it: the top waiter first, and then who stands right behind
-- whom.
use Rattle.std.proofs.Common.{◌≡◌, ◌⊎◌, ℕ, suc, ◌<◌, ◌≤◌, Bool, true, List, length, Option, Some, None, option_map, unwrap_or, sym, ap, subst, ◌∙◌, inl, inr, arith}
use Rattle.std.specs.List.{slice_get}
use Rattle.std.proofs.lemmas.Bool.{cases_eq, cases_lt}
use Rattle.pif_nodes_model.specs.declared.keys.Key.{Key}
use Rattle.pif_nodes_model.specs.Order.{comes_before}
use Rattle.pif_model.specs.Graph.{waiting_order}
use Rattle.pif_model.specs.PiKernel.{effective_in, is_among, waiters_in}
use Rattle.pif_kernel_model.specs.Owners.{Task, no_task, task_at, waits_on, rank_of, IsTop, HasNoWaiter}
use Rattle.pif_kernel_model.proofs.OwnersLemmas.{some_rank}
use Rattle.pif_kernel_model.specs.Behind.{IsLast, IsBehind}
use Rattle.pif_model_lemmas.proofs.kernel.Orders.{order-none, ordered-is_waiter}
use Rattle.pif_kernel_model.specs.Inside.{Inside, IsSoundInside, kernel_of, state_key_at, owner_under, ticket_of}
use Rattle.pif_kernel_model.proofs.WaiterRows.{InRow, key_by, among_at, row_first, row_last, row_next, in_row, all_ordered}
use Rattle.pif_kernel_model.proofs.Seats.{waiters_seen, added_back}
use Rattle.pif_kernel_model.proofs.Standing.{fits, effective_level}
use Rattle.pif_kernel_model.proofs.TopLaws.{waits_under, under_waits, some_waiter}
use Rattle.pif_kernel_model.proofs.Waiters.{no_key-no_waiter}

module _ (p : Inside) (h : IsSoundInside p) (m : ℕ) where
  few_levels : (u : ℕ) → effective_in (kernel_of p) u ≤ 99
  few_levels u = by_zero (cases_eq u 0) (cases_lt u (length p.statuses))
    where
      free : task_at p.owners u ≡ no_task → effective_in (kernel_of p) u ≤ 99
      free e = omega (arith, h.local u, ap (λ (x : Task). x.local) e)

      by_zero : ((u ≡ 0) ⊎ (u ≡ 0 → ⊥)) → ((u < length p.statuses) ⊎ (length p.statuses ≤ u))
          → effective_in (kernel_of p) u ≤ 99
      by_zero (inl z) c = free (ap (task_at p.owners) z ∙ h.placed.nobody)
      by_zero (inr n) (inl l) = (effective_level p h u (added_back p (fits p h) u n l)).1
      by_zero (inr n) (inr g) = free (h.placed.free u g)

  abbrev order : List ℕ
  order = waiters_in (kernel_of p) m

  ordered : order ≡ waiting_order (effective_in (kernel_of p)) p.arrivals m
  ordered = ap (λ (ws : List (ℕ × ℕ)). waiting_order (effective_in (kernel_of p)) ws m) (waiters_seen p)

  -- who has no key has no waiter
  pub keyless : state_key_at p m ≡ None → (k : ℕ) → slice_get order k ≡ None
  keyless e k =
      ap (λ (l : List ℕ). slice_get l k) (ordered ∙ order-none (effective_in (kernel_of p)) p.arrivals m
      (no_key-no_waiter p h m (ap (λ (o : Option ℕ). owner_under p.owners o) e)))

  module _ (key : ℕ) (at : state_key_at p m ≡ Some key) where
    abbrev ahead : ℕ → ℕ → Bool
    ahead u v =
        comes_before (key_by (effective_in (kernel_of p)) (ticket_of p.owners) u)
        (key_by (effective_in (kernel_of p)) (ticket_of p.owners) v)

    row : InRow ahead order
    row =
        subst (InRow ahead) (sym ordered)
        (in_row (effective_in (kernel_of p)) (ticket_of p.owners) few_levels m (length p.arrivals) p.arrivals 1 p.next
        (omega arith) h.placed.tickets)

    among_waits : (u : ℕ) → is_among order u ≡ true → waits_on p.owners u ≡ Some key
    among_waits u e =
        under_waits p h u m key at (ordered-is_waiter (effective_in (kernel_of p)) p.arrivals u m
        (ap (λ (l : List ℕ). is_among l u) (sym ordered) ∙ e))

    waits_among : (u : ℕ) → waits_on p.owners u ≡ Some key → is_among order u ≡ true
    waits_among u e =
        ap (λ (l : List ℕ). is_among l u) ordered
        ∙ all_ordered (effective_in (kernel_of p)) (ticket_of p.owners) few_levels m (length p.arrivals) p.arrivals 1
        p.next u (omega arith) h.placed.tickets (waits_under p h u m key at e)

    -- a waiter's rank is its key
    rank_is : (u : ℕ) (r : Key) → rank_of p.owners u ≡ Some r
        → r ≡ key_by (effective_in (kernel_of p)) (ticket_of p.owners) u
    rank_is u r e =
        let level = h.rank u r e in
        let tag : r.ticket ≡ ticket_of p.owners u
        = sym (ap (λ (o : Option Key). unwrap_or (option_map (λ (k : Key). k.ticket) o) 0) e) in
        λ i. record { prio = level i; ticket = tag i }

    rank_some : (u : ℕ) → waits_on p.owners u ≡ Some key
        → rank_of p.owners u ≡ Some (key_by (effective_in (kernel_of p)) (ticket_of p.owners) u)
    rank_some u e =
        let r = some_rank (task_at p.owners u).wait key e in r.1 ∙ ap Some (rank_is u r.0 r.1)

    -- who stands there waits
    pub waits_at : (n t : ℕ) → slice_get order n ≡ Some t → waits_on p.owners t ≡ Some key
    waits_at n t e = among_waits t (among_at order n t e)

    pub top_at : (t : ℕ) → IsTop p.owners key t → slice_get order 0 ≡ Some t
    top_at t top =
        row_first ahead order t row (waits_among t top.waits)
        (λ x e. ap (comes_before (key_by (effective_in (kernel_of p)) (ticket_of p.owners) x))
        (sym (rank_is t top.rank top.ranked))
        ∙ top.first x (key_by (effective_in (kernel_of p)) (ticket_of p.owners) x) (among_waits x e)
        (rank_some x (among_waits x e)))

    pub last_at : (n t : ℕ) → slice_get order n ≡ Some t → IsLast p.owners t → slice_get order (suc n) ≡ None
    last_at n t e last =
        row_last ahead order n t row e (λ x a. last x (key_by (effective_in (kernel_of p)) (ticket_of p.owners) t)
        (key_by (effective_in (kernel_of p)) (ticket_of p.owners) x)
        (among_waits x a ∙ sym (waits_at n t e)) (rank_some t (waits_at n t e)) (rank_some x (among_waits x a)))

    pub next_at : (n t u : ℕ) → slice_get order n ≡ Some t → IsBehind p.owners t u
        → slice_get order (suc n) ≡ Some u
    next_at n t u e is =
        let mine = rank_some t (waits_at n t e) in
        let key_u = rank_is u is.rank is.ranked in
        row_next ahead order n t u row e (waits_among u (is.waits ∙ waits_at n t e)) is.other
        (ap (λ (r : Key). comes_before r (key_by (effective_in (kernel_of p)) (ticket_of p.owners) t)) (sym key_u)
        ∙ is.behind (key_by (effective_in (kernel_of p)) (ticket_of p.owners) t) mine)
        (λ x a b. ap (comes_before (key_by (effective_in (kernel_of p)) (ticket_of p.owners) x)) (sym key_u)
        ∙ is.next x (key_by (effective_in (kernel_of p)) (ticket_of p.owners) t)
        (key_by (effective_in (kernel_of p)) (ticket_of p.owners) x)
        (among_waits x a ∙ sym (waits_at n t e)) mine (rank_some x (among_waits x a)) b)

    -- there is somebody
    pub nobody_at : HasNoWaiter p.owners key → (k : ℕ) → slice_get order k ≡ None
    nobody_at none k = let w = some_waiter p h m key at in absurd (none w.0 w.1)
