-- What `first`, `ticket` and `maximum` read is what the view says.
use Rattle.std.proofs.Common.{◌≡◌, ◌≢◌, ◌⊎◌, ◌↔◌, ◌==◌, ℕ, ◌+◌, ◌<◌, ◌≤◌, true, false, eqb, List, [], ◌∷◌, length, Option, Some, None, IsSome, IfSome, IfNone, OnSome, option_map, option_and_then, unwrap_or, refl, sym, ◌∙◌, ap, subst, inl, inr, ⊎_elim, arith}
use Rattle.std.proofs.lemmas.Bool.{false≢true, both_ways, cases_lt, or_cases, eqb-true, eq-eqb}
use Rattle.std.proofs.lemmas.Option.{same_Some}
use Rattle.std.specs.FinMap.{get}
use Rattle.pif_nodes_model.specs.declared.keys.Key.{Key}
use Rattle.pif_nodes_model.specs.Lists.{has, first_of}
use Rattle.pif_nodes_model.specs.Table.{NodeLists, list_at, key_at, holder}
use Rattle.pif_nodes_model.proofs.ListLemmas.{first_of-has}
use Rattle.pif_nodes_model.specs.Order.{comes_before, key_in, IsInOrder}
use Rattle.pif_nodes_model.proofs.OrderLemmas.{not_before-self, comes_before-from}
use Rattle.pif_model_lemmas.proofs.Following.{greatest_where_above}
use Rattle.pif_model_lemmas.proofs.Greatest.{greatest_where_most}
use Rattle.pif_kernel_model.specs.Owners.{Task, Wait, task_at, owner_at, rank_of, waits_for, IsTop, HasNoWaiter}
use Rattle.pif_kernel_model.proofs.OwnersLemmas.{WaitsFor-some, WaitsFor-from}
use Rattle.pif_kernel_model.specs.States.{States, IsThread, wait_of, wait_node, top_node, wait_list, top_list, waiter_for, first_waiter, owners_in}
use Rattle.pif_kernel_model.specs.Holds.{HoldsWaiters, IsWaiterIn, IsTopNode, IsFirstOf, IsTopOf, HoldsStates}
use Rattle.pif_rtmutex.specs.Maximum.{rank_priority, greatest_rank}
use Rattle.pif_kernel_model.proofs.ViewLemmas.{length-seats, task_at-owners_in, waits_on-owners_in, rank_of-owners_in}
use Rattle.pif_kernel_model.proofs.WaiterLemmas.{waits-state, first_waiter-by_row, StandsFirst, stands-first, some_owner}
use Rattle.pif_kernel_model.proofs.FrameLemmas.{cases_Some}

-- the first of a list that has a node
pub first-there : (n : ℕ) (xs : List ℕ) → has n xs ≡ true → (p : ℕ) × (first_of xs ≡ Some p)
first-there n [] h = absurd (false≢true h)
first-there n (x ∷ xs) h = (x, refl)

-- no node of a list in order comes before the first
pub first-no_later : (keys : List Key) (xs : List ℕ) (n p : ℕ) → IsInOrder keys xs → first_of xs ≡ Some n
    → has p xs ≡ true
    → comes_before (key_in keys p) (key_in keys n) ≡ false
first-no_later keys [] n p order first h = absurd (false≢true h)
first-no_later keys (x ∷ xs) n p order first h =
    let same : x ≡ n = same_Some x n first in
    subst (λ y. comes_before (key_in keys p) (key_in keys y) ≡ false) same
    (⊎_elim
    (λ e. ap (λ y. comes_before (key_in keys y) (key_in keys x)) (eqb-true p x e) ∙ not_before-self (key_in keys x))
    (λ e. order.0 p e)
    (or_cases (eqb p x) (has p xs) h))

-- so none has a greater priority
pub no_later-prio : (a b : Key) → comes_before a b ≡ false → a.prio ≤ b.prio
no_later-prio a b h = by_place (cases_lt b.prio a.prio)
  where
    by_place : ((b.prio < a.prio) ⊎ (a.prio ≤ b.prio)) → a.prio ≤ b.prio
    by_place (inl l) = absurd (both_ways (comes_before a b) h (comes_before-from a b (inl l)))
    by_place (inr l) = l

-- the row of a state is below the number of threads
pub row-below : (m : States) (t : NodeLists) (k r : ℕ) → HoldsWaiters m t → get m.places k ≡ Some r → r < m.threads
row-below m t k r h e =
    let at : (q : ℕ) × (get m.places k ≡ Some q) × (q < m.threads) = h.placed k (h.stated k r e) in
    omega (arith, at.2, same_Some at.0 r (sym at.1 ∙ e))

-- a state on which somebody waits has a first waiter
pub waited-first : (m : States) (t : NodeLists) (u k : ℕ) → HoldsWaiters m t → wait_of m u ≡ Some k
    → (p : ℕ) × (first_waiter m t k ≡ Some p) × (comes_before (key_at t (wait_node m u))
    (key_at t (wait_node m p)) ≡ false)
waited-first m t u k h w =
    let some : IsSome (get m.owners k) = waits-state m t u k h w in
    let at : (r : ℕ) × (get m.places k ≡ Some r) × (r < m.threads) = h.placed k some in
    let listed : has (wait_node m u) (list_at t (wait_list m at.0)) ≡ true =
    h.apart.listed (wait_list m at.0) (wait_node m u) (h.queued u k at.0 w at.1) in
    let first : (p : ℕ) × (first_of (list_at t (wait_list m at.0)) ≡ Some p) =
    first-there (wait_node m u) (list_at t (wait_list m at.0)) listed in
    let is : first_waiter m t k ≡ Some (waiter_for m first.0) = first_waiter-by_row m t k at.0 at.1
    ∙ ap (option_map (waiter_for m)) first.1 in
    let stands : StandsFirst m t k (waiter_for m first.0) = stands-first m t k (waiter_for m first.0) h some is in
    let row : stands.row ≡ at.0 = same_Some stands.row at.0 (sym stands.place ∙ at.1) in (
      waiter_for m first.0,
      is,
      first-no_later t.keys (list_at t (wait_list m at.0)) (wait_node m (waiter_for m first.0)) (wait_node m u)
          (h.sorted at.0 at.2)
          (ap (λ r. first_of (list_at t (wait_list m r))) (sym row) ∙ stands.first) listed,
    )

-- the first node of the list of a state is that of a thread
pub first-node : (m : States) (t : NodeLists) (k r n : ℕ) → HoldsWaiters m t → get m.places k ≡ Some r
    → first_of (list_at t (wait_list m r)) ≡ Some n
    → (r < m.threads) × (m.first_node ≤ n) × (n < m.first_node + m.threads)
first-node m t k r n h e first =
    let low : r < m.threads = row-below m t k r h e in
    let is : IsWaiterIn m r n = h.waiters r n low (first_of-has (list_at t (wait_list m r)) n first) in
    (low, omega (arith, is.node), omega (arith, is.is_thread, is.node))

-- nobody waits on a state that has no first waiter
pub first-none : (o : Option ℕ) (m : States) (t : NodeLists) (k : ℕ) → HoldsWaiters m t → o ≡ first_waiter m t k
    → IfNone o (HasNoWaiter (owners_in m t) k)
first-none None m t k h e = λ u w.
    let first = waited-first m t u k h (sym (waits_on-owners_in m t u) ∙ w) in
    let wrong : None ≡ Some first.0 = e ∙ first.1 in
    absurd cc
first-none (Some p) m t k h e = tt

-- a state that has a first waiter is there
pub first-state : (m : States) (t : NodeLists) (k u : ℕ) → HoldsWaiters m t → first_waiter m t k ≡ Some u
    → IsSome (get m.owners k)
first-state m t k u h e = by_place (cases_Some (get m.places k))
  where
    by_place : ((get m.places k ≡ None) ⊎ ((r : ℕ) × (get m.places k ≡ Some r))) → IsSome (get m.owners k)
    by_place (inl none) =
        let wrong : Some u ≡ None = sym e
        ∙ ap (λ (o : Option ℕ). option_and_then
        (λ r. option_map (waiter_for m) (first_of (list_at t (wait_list m r)))) o) none in
        absurd cc
    by_place (inr some) = h.stated k some.0 some.1

-- and its first waiter is its top waiter
pub first-top : (m : States) (t : NodeLists) (k u : ℕ) → HoldsWaiters m t → first_waiter m t k ≡ Some u
    → IsTop (owners_in m t) k u
first-top m t k u h e =
    let first : StandsFirst m t k u = stands-first m t k u h (first-state m t k u h e) e in
    record {
      waits = waits_on-owners_in m t u ∙ first.waits;
      rank = key_at t (wait_node m u);
      ranked = rank_of-owners_in m t u k first.waits;
      first = λ w other on rank.
          let waits : wait_of m w ≡ Some k = sym (waits_on-owners_in m t w) ∙ on in
          let top = waited-first m t w k h waits in
          let same : top.0 ≡ u = same_Some top.0 u (sym top.1 ∙ e) in
          let key : Some (key_at t (wait_node m w)) ≡ Some other = sym (rank_of-owners_in m t w k waits) ∙ rank in
          let is : key_at t (wait_node m w) ≡ other = ap (λ (o : Option Key). unwrap_or o other) key in
          (λ i. comes_before (sym is i) (key_at t (wait_node m (sym same i)))) ∙ top.2;
    }

pub first-some : (o : Option ℕ) (m : States) (t : NodeLists) (k : ℕ) → HoldsWaiters m t → o ≡ first_waiter m t k
    → IfSome o (λ u. IsTop (owners_in m t) k u)
first-some None m t k h e = tt
first-some (Some u) m t k h e = first-top m t k u h (sym e)

pub first-owned : (o : Option ℕ) (m : States) (t : NodeLists) (k : ℕ) → HoldsWaiters m t → o ≡ first_waiter m t k
    → OnSome o (IsSome (owner_at (owners_in m t) k))
first-owned None m t k h e = tt
first-owned (Some u) m t k h e = first-state m t k u h (sym e)

-- who waits for nothing has no rank
pub rank_of-none : (m : States) (t : NodeLists) (u : ℕ) → wait_of m u ≡ None → rank_of (owners_in m t) u ≡ None
rank_of-none m t u w =
    ap (λ (x : Task). option_map (λ (w : Wait). w.rank) x.wait) (task_at-owners_in m t u)
    ∙ ap (λ (o : Option ℕ). option_map (λ (w : Wait). w.rank)
    (option_map (λ k. record { state = k; rank = key_at t (wait_node m u) }) o)) w

-- who waits does so with the priority of its node
priority-waiting : (m : States) (t : NodeLists) (u k : ℕ) → wait_of m u ≡ Some k
    → rank_priority (owners_in m t) u ≡ (key_at t (wait_node m u)).prio
priority-waiting m t u k w =
    ap (λ (o : Option Key). unwrap_or (option_map (λ (x : Key). x.prio) o) 0) (rank_of-owners_in m t u k w)

-- a thread that waits for another does so on a state that that one owns
waits-owned : (m : States) (t : NodeLists) (u o : ℕ) → o ≢ 0 → waits_for (owners_in m t) u ≡ o
    → (k : ℕ) × (wait_of m u ≡ Some k) × (get m.owners k ≡ Some o)
waits-owned m t u o n e =
    let at : (w : Wait) × ((task_at (owners_in m t) u).wait ≡ Some w) × (owner_at (owners_in m t) w.state ≡ Some o) =
    WaitsFor-some (owners_in m t) u o (e, n) in
    (at.0.state, sym (waits_on-owners_in m t u) ∙ ap (option_map (λ (w : Wait). w.state)) at.1, at.2)

-- nobody waits for a thread with a greater priority than the first of its top waiters has
rank-most : (m : States) (t : NodeLists) (o n u : ℕ) → HoldsStates m t → IsThread m o
    → first_of (list_at t (top_list m o)) ≡ Some n
    → waits_for (owners_in m t) u ≡ o → rank_priority (owners_in m t) u ≤ (key_at t n).prio
rank-most m t o n u h i first e =
    let on = waits-owned m t u o (λ z. absurd (omega (arith, i, z))) e in
    let top = waited-first m t u on.0 h.waiters on.1 in
    let is : IsFirstOf m t on.0 o top.0 = (on.2, top.1) in
    let listed : has (top_node m top.0) (list_at t (top_list m o)) ≡ true =
    h.waiters.apart.listed (top_list m o) (top_node m top.0) (h.tops.topped.stands o top.0 (on.0, is)) in
    let above : (key_at t (top_node m top.0)).prio ≤ (key_at t n).prio =
    no_later-prio (key_at t (top_node m top.0)) (key_at t n)
    (first-no_later t.keys (list_at t (top_list m o)) n (top_node m top.0) (h.tops.topped.sorted o i) first listed) in
    let ranked : (key_at t (top_node m top.0)).prio ≡ (key_at t (wait_node m top.0)).prio =
    h.tops.ranked on.0 o top.0 is in
    let below : (key_at t (wait_node m u)).prio ≤ (key_at t (wait_node m top.0)).prio =
    no_later-prio (key_at t (wait_node m u)) (key_at t (wait_node m top.0)) top.2 in
    omega (arith, above, ranked, below, priority-waiting m t u on.0 on.1)

-- and if it has none, nobody waits for it
rank-none : (m : States) (t : NodeLists) (o u : ℕ) → HoldsStates m t → IsThread m o → first_of (list_at t (top_list m o)) ≡ None
    → waits_for (owners_in m t) u ≡ o → ⊥
rank-none m t o u h i none e =
    let on = waits-owned m t u o (λ z. absurd (omega (arith, i, z))) e in
    let top = waited-first m t u on.0 h.waiters on.1 in
    let listed : has (top_node m top.0) (list_at t (top_list m o)) ≡ true =
    h.waiters.apart.listed (top_list m o) (top_node m top.0) (h.tops.topped.stands o top.0 (on.0, (on.2, top.1))) in
    let first = first-there (top_node m top.0) (list_at t (top_list m o)) listed in
    let wrong : None ≡ Some first.0 = sym none ∙ first.1 in
    absurd cc

-- the first of the top waiters is a thread that waits for this one, with the priority that its top node has
pub record IsTopWaiter (m : States) (t : NodeLists) (o n : ℕ) : Type 0 where
  pub thread : ℕ
  pub is_thread : IsThread m thread
  pub waits : waits_for (owners_in m t) thread ≡ o
  pub priority : rank_priority (owners_in m t) thread ≡ (key_at t n).prio
  pub least : 1 ≤ (key_at t n).prio
  pub most : (key_at t n).prio ≤ 99

top-waiter : (m : States) (t : NodeLists) (o n : ℕ) → HoldsStates m t → IsThread m o
    → first_of (list_at t (top_list m o)) ≡ Some n → IsTopWaiter m t o n
top-waiter m t o n h i first =
    let listed : has n (list_at t (top_list m o)) ≡ true = first_of-has (list_at t (top_list m o)) n first in
    let node : IsTopNode m n = h.tops.topped.nodes o n i listed in
    let u : ℕ = node.thread in
    let held : holder t (top_node m u) ≡ Some (top_list m o) = ap (holder t) (sym node.node)
    ∙ h.waiters.apart.alone (top_list m o) n listed in
    let at : (p : ℕ) × (top_list m o ≡ top_list m p) × IsTopOf m t p u =
    h.tops.topped.only (top_list m o) u node.is_thread held in
    let own : IsThread m at.0 = h.waiters.owned at.2.0 at.0 at.2.1.0 in
    let same : at.0 ≡ o = omega (arith, i, own, at.1) in
    let k : ℕ = at.2.0 in
    let stands : StandsFirst m t k u = stands-first m t k u h.waiters (some_owner m k at.0 at.2.1.0) at.2.1.1 in
    let wait : Wait = record { state = k; rank = key_at t (wait_node m u) } in
    let seat : (task_at (owners_in m t) u).wait ≡ Some wait =
    ap (λ (x : Task). x.wait) (task_at-owners_in m t u)
    ∙ ap (λ (o : Option ℕ). option_map (λ k. record { state = k; rank = key_at t (wait_node m u) }) o) stands.waits in
    let ranked : (key_at t n).prio ≡ (key_at t (wait_node m u)).prio =
    ap (λ x. (key_at t x).prio) node.node ∙ h.tops.ranked k at.0 u at.2.1 in
    let least : 1 ≤ (key_at t (wait_node m u)).prio = (h.waiters.sound.seats u).least wait seat in
    let most : (key_at t (wait_node m u)).prio ≤ 99 = (h.waiters.sound.seats u).most wait seat in
    let some : o ≢ 0 = λ z. absurd (omega (arith, i, z)) in
    record {
      thread = u;
      is_thread = node.is_thread;
      waits = (WaitsFor-from (owners_in m t) u o wait seat (at.2.1.0 ∙ ap Some same) some).0;
      priority = priority-waiting m t u k stands.waits ∙ sym ranked;
      least = omega (arith, least, ranked);
      most = omega (arith, most, ranked);
    }

-- the greatest priority with which another thread waits for this one
pub greatest-none : (m : States) (t : NodeLists) (o : ℕ) → HoldsStates m t → IsThread m o
    → first_of (list_at t (top_list m o)) ≡ None
    → greatest_rank (owners_in m t) o ≡ 0
greatest-none m t o h i none =
    let most : greatest_rank (owners_in m t) o ≤ 0 =
    greatest_where_most (λ u. waits_for (owners_in m t) u == o) (rank_priority (owners_in m t))
    (length (owners_in m t).seats) 0
    (λ u l e. absurd (rank-none m t o u h i none (eqb-true (waits_for (owners_in m t) u) o e))) in
    omega (arith, most)

pub greatest-some : (m : States) (t : NodeLists) (o n : ℕ) → HoldsStates m t → IsThread m o
    → first_of (list_at t (top_list m o)) ≡ Some n
    → greatest_rank (owners_in m t) o ≡ (key_at t n).prio
greatest-some m t o n h i first =
    let top : IsTopWaiter m t o n = top-waiter m t o n h i first in
    let most : greatest_rank (owners_in m t) o ≤ (key_at t n).prio =
    greatest_where_most (λ u. waits_for (owners_in m t) u == o) (rank_priority (owners_in m t))
    (length (owners_in m t).seats) (key_at t n).prio
    (λ u l e. rank-most m t o n u h i first (eqb-true (waits_for (owners_in m t) u) o e)) in
    let least : rank_priority (owners_in m t) top.thread ≤ greatest_rank (owners_in m t) o =
    greatest_where_above (λ u. waits_for (owners_in m t) u == o) (rank_priority (owners_in m t))
    (length (owners_in m t).seats) top.thread
    (omega (arith, length-seats m t, h.waiters.rows, top.is_thread))
    (eq-eqb (waits_for (owners_in m t) top.thread) o top.waits) in
    omega (arith, most, least, top.priority)

-- a priority that was made of the first one's
pub prio-made : (r : Option ℕ) (m : States) (t : NodeLists) (o n p : ℕ) → HoldsStates m t → IsThread m o
    → first_of (list_at t (top_list m o)) ≡ Some n
    → p ≡ (key_at t n).prio → (IsSome r ↔ ((1 ≤ p) × (p ≤ 99))) → IfSome r (λ x. x ≡ p)
    → unwrap_or r 0 ≡ greatest_rank (owners_in m t) o
prio-made None m t o n p h i first is valid value =
    let top : IsTopWaiter m t o n = top-waiter m t o n h i first in
    absurd (false≢true (valid.1 (omega (arith, is, top.least), omega (arith, is, top.most))))
prio-made (Some x) m t o n p h i first is valid value = value ∙ is ∙ sym (greatest-some m t o n h i first)
