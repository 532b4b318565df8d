-- What the lists of parked threads say is what a kernel says of the parked threads in order of tickets.
use Rattle.std.proofs.Common.{◌≡◌, ◌≢◌, ◌⊎◌, ◌↔◌, ℕ, ◌<◌, ◌≤◌, ◌==◌, ◌||◌, ◌&&◌, nat_eq, Bool, true, false, if◌then◌else◌, List, [], ◌∷◌, length, map, Option, Some, None, IfSome, IfNone, IsTrue, option_map, refl, sym, ap, subst, ◌∙◌, inl, inr, arith}
use Rattle.std.specs.List.{slice_get}
use Rattle.std.proofs.lemmas.Bool.{eqb-true, eq-eqb, or_right, true≢false, false≢true}
use Rattle.std.proofs.lemmas.Bool.Decides.{nat_tests}
use Rattle.std.proofs.lemmas.Option.{same_Some}
use Rattle.pif_nodes_model.specs.declared.keys.Key.{Key}
use Rattle.pif_nodes_model.specs.Lists.{has, HasNoRepeats}
use Rattle.pif_nodes_model.specs.Table.{NodeLists, list_at, key_at}
use Rattle.pif_nodes_model.specs.Order.{comes_before, IsInOrder}
use Rattle.pif_model.specs.Graph.{has_waiter, waiting_order, next_waiter}
use Rattle.pif_model.specs.PiKernel.{parked_pairs, is_among}
use Rattle.pif_model_lemmas.proofs.Among.{is_among_here, is_among_there, is_among_cons}
use Rattle.pif_model_lemmas.proofs.Among.{is_among as is_waiter}
use Rattle.pif_model_lemmas.proofs.kernel.Orders.{order-none, order-next, ordered-is_waiter}
use Rattle.pif_model_lemmas.proofs.Waiting.{by_test, names, has_waiter-from_pair, next-is_waiter, pair-from_named}
use Rattle.pif_kernel_model.specs.Parked.{Place, Parked, ParkedLists, place_at, IsThread, IsCond, variable_list, parking_node, thread_of_node, parked_with, parked_at, parked_on, IsParkedNode, StandsIn, StandParked, IsTopParked, HasNoParked, HasTarget}
use Rattle.pif_queue.specs.Numbered.{ticket_in}
use Rattle.pif_kernel_model.specs.Takings.{first_parked, have_target}
use Rattle.pif_kernel_model.proofs.ArrivalLaws.{rise_once}
use Rattle.pif_kernel_model.proofs.WaiterRows.{InRow, in_row, all_ordered, row_first}
use Rattle.pif_chains_linked.specs.Parkings.{parked_target, parked_prio, parking_of, pairs_by, parkings_in, AreParked, ByPriority}
use Rattle.pif_chains_linked.proofs.ParkingLemmas.{pairs_seen, pairs_rise, paired_parked, parked_paired}
use Rattle.pif_chains_linked.proofs.ParkingRows.{row_is, one_before, never_both, order_agrees, next_agrees}

-- a node among these has its thread among theirs, and the other way round
thread_among : (f : ℕ → ℕ) (xs : List ℕ) (n : ℕ) → has n xs ≡ true → is_among (map f xs) (f n) ≡ true
thread_among f [] n e = e
thread_among f (x ∷ xs) n e =
    by_test (λ b. (b || has n xs) ≡ true → (nat_eq n x ≡ b) → ((f x == f n) || is_among (map f xs) (f n)) ≡ true)
    (nat_eq n x)
    (λ k y z. let same : x ≡ n = grind (arith, nat_tests, k) in
    let at : (f x == f n) ≡ true = grind (arith, nat_tests, ap f same) in rw at refl)
    (λ k y z. or_right (f x == f n) (is_among (map f xs) (f n)) (thread_among f xs n y)) e refl

among_thread : (f : ℕ → ℕ) (xs : List ℕ) (u : ℕ) → is_among (map f xs) u ≡ true
    → (n : ℕ) × (has n xs ≡ true) × (f n ≡ u)
among_thread f [] u e = absurd (false≢true e)
among_thread f (x ∷ xs) u e =
    by_test (λ b. (f x == u) ≡ b → (b || is_among (map f xs) u) ≡ true → (n : ℕ) × (has n (x ∷ xs) ≡ true) × (f n ≡ u))
    (f x == u)
    (λ k y z. let here : has x (x ∷ xs) ≡ true = grind (arith, nat_tests) in
    let same : f x ≡ u = grind (arith, nat_tests, k) in (x, here, same))
    (λ k y z. let n = among_thread f xs u z in (n.0, or_right (nat_eq n.0 x) (has n.0 xs) n.1, n.2)) refl e

module _ (p : ParkedLists) (t : NodeLists) (next : ℕ) (h : StandParked p t) (a : AreParked (parked_at p t) p.threads next) where
  abbrev at : ℕ → Option Parked
  at u = parked_at p t u

  abbrev pairs_now : List (ℕ × ℕ)
  pairs_now = pairs_by at p.threads

  abbrev prio : ℕ → ℕ
  prio u = parked_prio (at u)

  abbrev ticket : ℕ → ℕ
  ticket u = ticket_in (at u)

  abbrev before : ℕ → ℕ → Bool
  before u v = comes_before (record { prio = prio u; ticket = ticket u }) (record { prio = prio v; ticket = ticket v })

  few : (u : ℕ) → prio u ≤ 99
  few u = by_option (at u) refl
    where
      by_option : (o : Option Parked) → at u ≡ o → parked_prio o ≤ 99
      by_option None e = omega arith
      by_option (Some x) e = a.most u x e

  -- a thread by where it is parked
  placed : (u : ℕ) (x : Parked) → at u ≡ Some x
      → (y : Place) × (place_at p u ≡ Some y) × (x ≡ parked_with (key_at t (parking_node p u)) y)
  placed u x e = by_place (place_at p u) e refl
    where
      by_place : (o : Option Place) → option_map (parked_with (key_at t (parking_node p u))) o ≡ Some x → place_at p u ≡ o
          → (y : Place) × (place_at p u ≡ Some y) × (x ≡ parked_with (key_at t (parking_node p u)) y)
      by_place None e k = absurd cc
      by_place (Some y) e k = (y, k, same_Some x (parked_with (key_at t (parking_node p u)) y) (sym e))

  -- who is parked on a variable stands in its list
  in_list : (u : ℕ) (x : Parked) → at u ≡ Some x
      → IsThread p u × IsCond p x.cond × (has (parking_node p u) (list_at t (variable_list p x.cond)) ≡ true)
  in_list u x e =
      let y = placed u x e in
      let stands : StandsIn p t u y.0 = h.parked u y.0 y.1 in
      let same : y.0.cond ≡ x.cond = sym (ap (λ (z : Parked). z.cond) y.2) in (
        stands.is_thread,
        subst (IsCond p) same stands.is_cond,
        subst (λ (c : ℕ). has (parking_node p u) (list_at t (variable_list p c)) ≡ true) same
            (h.apart.listed (variable_list p y.0.cond) (parking_node p u) stands.held),
      )

  module _ (c : ℕ) where
    -- nobody waits for a variable on which nobody is parked
    no_waiter : HasNoParked p t c → has_waiter pairs_now c ≡ false
    no_waiter none =
        by_test (λ b. has_waiter pairs_now c ≡ b → b ≡ false) (has_waiter pairs_now c)
        (λ e k. let x = paired_parked at p.threads next a (next_waiter prio pairs_now c) c
        (next-is_waiter prio pairs_now c e) in absurd (none (next_waiter prio pairs_now c) x.0 x.1 x.2))
        (λ e k. refl) refl

    -- a variable that has no list has nobody parked on it
    none_past : p.conds < c → HasNoParked p t c
    none_past past u x e on = let l = in_list u x e in omega (arith, l.1, past, on)

    module _ (is : IsCond p c) where
      abbrev nodes : List ℕ
      nodes = list_at t (variable_list p c)

      -- who stands in the list of a variable is parked on it, by the key of its node
      of_node : (n : ℕ) → has n nodes ≡ true
          → (x : Parked) × (at (thread_of_node p n) ≡ Some x) × (x.cond ≡ c) × (x.rank ≡ key_at t n)
          × (parking_node p (thread_of_node p n) ≡ n)
      of_node n there =
          let node : IsParkedNode p c n = h.others c n is there in
          let thread : thread_of_node p n ≡ node.thread = omega (arith, node.node, node.is_thread) in
          let own : parking_node p (thread_of_node p n) ≡ n = ap (parking_node p) thread ∙ sym node.node in
          let place : place_at p (thread_of_node p n) ≡ Some node.place = ap (place_at p) thread ∙ node.at in (
            parked_with (key_at t (parking_node p (thread_of_node p n))) node.place,
            ap (option_map (parked_with (key_at t (parking_node p (thread_of_node p n))))) place,
            node.cond,
            ap (key_at t) own,
            own,
          )

      key_of : (n : ℕ) → has n nodes ≡ true
          → record { prio = prio (thread_of_node p n); ticket = ticket (thread_of_node p n) } ≡ key_at t n
      key_of n there =
          let x = of_node n there in
          (λ i. record { prio = parked_prio (x.1 i); ticket = ticket_in (x.1 i) }) ∙ x.3

      -- the threads of some of its nodes, in the order of their keys
      row_of : (xs : List ℕ) → IsInOrder t.keys xs → HasNoRepeats xs
          → ((n : ℕ) → has n xs ≡ true → has n nodes ≡ true) → InRow before (map (thread_of_node p) xs)
      row_of [] o r within = tt
      row_of (x ∷ xs) o r within = (
        (λ y k. let n = among_thread (thread_of_node p) xs y k in
            subst (λ (z : ℕ). before (thread_of_node p x) z ≡ true) n.2 (ahead n.0 n.1)),
        row_of xs o.1 r.1 (λ n k. within n (or_right (nat_eq n x) (has n xs) k)),
      )
        where
          here : has x (x ∷ xs) ≡ true
          here = grind (arith, nat_tests)

          ahead : (n : ℕ) → has n xs ≡ true → before (thread_of_node p x) (thread_of_node p n) ≡ true
          ahead n k =
              let one = of_node x (within x here) in
              let other = of_node n (within n (or_right (nat_eq n x) (has n xs) k)) in
              let differ : (key_at t x).ticket ≢ (key_at t n).ticket
              = λ same. true≢false (sym k ∙ ap (λ (z : ℕ). has z xs) (sym other.4 ∙ ap (parking_node p)
              (sym (a.once (thread_of_node p x) (thread_of_node p n) one.0 other.0 one.1 other.1
              (ap (λ (z : Key). z.ticket) one.3 ∙ same ∙ ap (λ (z : Key). z.ticket) (sym other.3)))) ∙ one.4) ∙ r.0) in
              (λ i. comes_before (key_of x (within x here) i)
              (key_of n (within n (or_right (nat_eq n x) (has n xs) k)) i))
              ∙ one_before (key_at t x) (key_at t n) (o.0 n k) differ

      -- the list of a variable is the order in which its threads are taken
      order_by_prio : parked_on p t c ≡ waiting_order prio pairs_now c
      order_by_prio =
          row_is before
          (λ x y. never_both (record { prio = prio x; ticket = ticket x }) (record { prio = prio y; ticket = ticket y }))
          (parked_on p t c) (waiting_order prio pairs_now c)
          (row_of nodes (h.sorted c is) (h.apart.once (variable_list p c)) (λ n k. k))
          (in_row prio ticket few c (length pairs_now) pairs_now 1 next (omega arith) (pairs_rise at p.threads next a))
          to from
        where
          to : (u : ℕ) → is_among (parked_on p t c) u ≡ true → is_among (waiting_order prio pairs_now c) u ≡ true
          to u k =
              let n = among_thread (thread_of_node p) nodes u k in
              let x = of_node n.0 n.1 in
              all_ordered prio ticket few c (length pairs_now) pairs_now 1 next u (omega arith)
              (pairs_rise at p.threads next a)
              (subst (λ (d : ℕ). is_waiter pairs_now u d ≡ true) x.2
              (parked_paired at p.threads next a u x.0 (ap at (sym n.2) ∙ x.1)))

          from : (u : ℕ) → is_among (waiting_order prio pairs_now c) u ≡ true → is_among (parked_on p t c) u ≡ true
          from u k =
              let x = paired_parked at p.threads next a u c (ordered-is_waiter prio pairs_now u c k) in
              let l = in_list u x.0 x.1 in
              let own : thread_of_node p (parking_node p u) ≡ u = omega (arith, l.0) in
              subst (λ (z : ℕ). is_among (parked_on p t c) z ≡ true) own
              (thread_among (thread_of_node p) nodes (parking_node p u)
              (subst (λ (d : ℕ). has (parking_node p u) (list_at t (variable_list p d)) ≡ true) x.2 l.2))

  -- BY PRIORITIES THAT ARE THOSE OF THE THREADS

  module _ (local : ℕ → ℕ) (by : ByPriority at local) (c : ℕ) where
    pairs_same : parked_pairs (parkings_in p t) ≡ pairs_now
    pairs_same = pairs_seen at pairs_now

    same_prio : (u : ℕ) → names u pairs_now ≡ true → prio u ≡ local u
    same_prio u e =
        let d = pair-from_named pairs_now u e in
        let x = paired_parked at p.threads next a u d.0 d.1 in ap parked_prio x.1 ∙ by u x.0 x.1

    -- the list of a variable, and a variable that has none
    pub order_seen : IsCond p c → parked_on p t c ≡ waiting_order local (parked_pairs (parkings_in p t)) c
    order_seen is =
        order_by_prio c is ∙ order_agrees prio local pairs_now c same_prio
        ∙ ap (λ (ws : List (ℕ × ℕ)). waiting_order local ws c) (sym pairs_same)

    pub order_past : p.conds < c → waiting_order local (parked_pairs (parkings_in p t)) c ≡ []
    order_past past =
        ap (λ (ws : List (ℕ × ℕ)). waiting_order local ws c) pairs_same
        ∙ order-none local pairs_now c (no_waiter c (none_past c past))

    -- the thread that is taken first
    first_none : HasNoParked p t c → None ≡ first_parked local (parked_pairs (parkings_in p t)) c
    first_none none =
        let free : has_waiter pairs_now c ≡ false = no_waiter c none in
        sym (ap (λ (ws : List (ℕ × ℕ)). first_parked local ws c) pairs_same ∙ rw free refl)

    next_is : (u : ℕ) → IsTopParked p t c u → (has_waiter pairs_now c ≡ true) × (next_waiter prio pairs_now c ≡ u)
    next_is u top =
        let waits : is_waiter pairs_now u c ≡ true
        = subst (λ (d : ℕ). is_waiter pairs_now u d ≡ true) top.on.cond
        (parked_paired at p.threads next a u top.on.parked top.on.at) in
        let some : has_waiter pairs_now c ≡ true = has_waiter-from_pair pairs_now u c waits in
        let rises = pairs_rise at p.threads next a in
        let first : slice_get (waiting_order prio pairs_now c) 0 ≡ Some u
        = row_first before (waiting_order prio pairs_now c) u
        (in_row prio ticket few c (length pairs_now) pairs_now 1 next (omega arith) rises)
        (all_ordered prio ticket few c (length pairs_now) pairs_now 1 next u (omega arith) rises waits)
        (λ v e. behind v (paired_parked at p.threads next a v c (ordered-is_waiter prio pairs_now v c e))) in
        let order = order-next prio pairs_now c (rise_once ticket 1 pairs_now next rises) few some in
        (some, same_Some (next_waiter prio pairs_now c) u (ap (λ (l : List ℕ). slice_get l 0) (sym order) ∙ first))
      where
        behind : (v : ℕ) → (x : Parked) × (at v ≡ Some x) × (x.cond ≡ c) → before v u ≡ false
        behind v x =
            let rank : record { prio = prio u; ticket = ticket u } ≡ top.rank
            = (λ i. record { prio = parked_prio (top.on.at i); ticket = ticket_in (top.on.at i) }) ∙ top.on.ranked in
            let own : record { prio = prio v; ticket = ticket v } ≡ x.0.rank
            = λ i. record { prio = parked_prio (x.1 i); ticket = ticket_in (x.1 i) } in
            (λ i. comes_before (own i) (rank i))
            ∙ top.first v x.0.rank (record { parked = x.0; at = x.1; cond = x.2; ranked = refl })

    first_some : (u : ℕ) → IsTopParked p t c u → Some u ≡ first_parked local (parked_pairs (parkings_in p t)) c
    first_some u top =
        let is = next_is u top in
        let some : has_waiter pairs_now c ≡ true = is.0 in
        sym (ap (λ (ws : List (ℕ × ℕ)). first_parked local ws c) pairs_same
        ∙ rw some (ap Some (sym (next_agrees prio local pairs_now c same_prio) ∙ is.1)))

    pub first_seen : (r : Option ℕ) → IfNone r (HasNoParked p t c) → IfSome r (λ u. IsTopParked p t c u)
        → r ≡ first_parked local (parked_pairs (parkings_in p t)) c
    first_seen None none some = first_none none
    first_seen (Some u) none some = first_some u some

  -- THE TARGETS

  module _ (c m : ℕ) where
    have_all : (ws : List (ℕ × ℕ)) → ((u d : ℕ) → is_waiter ws u d ≡ true → d ≡ c → parked_target (at u) ≡ m)
        → have_target (map (parking_of at) ws) c m ≡ true
    have_all [] each = refl
    have_all (w ∷ ws) each =
        both (if w.1 == c then parked_target (at w.0) == m else true) (have_target (map (parking_of at) ws) c m)
        (by_test (λ b. (w.1 == c) ≡ b → (if b then parked_target (at w.0) == m else true) ≡ true) (w.1 == c)
        (λ e k. eq-eqb (parked_target (at w.0)) m
        (each w.0 w.1 (is_among_here w ws w.0 w.1 refl refl) (eqb-true w.1 c e))) (λ e k. refl) refl)
        (have_all ws (λ u d e. each u d (is_among_there w ws u d e)))
      where
        both : (x y : Bool) → x ≡ true → y ≡ true → (x && y) ≡ true
        both true y e f = f
        both false y e f = e

    have_each : (ws : List (ℕ × ℕ)) → have_target (map (parking_of at) ws) c m ≡ true → (u : ℕ)
        → is_waiter ws u c ≡ true → parked_target (at u) ≡ m
    have_each [] all u e = absurd (false≢true e)
    have_each (w ∷ ws) all u e =
        by_head (if w.1 == c then parked_target (at w.0) == m else true) (have_target (map (parking_of at) ws) c m)
        refl all (is_among_cons w ws u c e) (λ rest. have_each ws rest u)
      where
        by_head : (x y : Bool) → (if w.1 == c then parked_target (at w.0) == m else true) ≡ x → (x && y) ≡ true
            → ((w.0 ≡ u) × (w.1 ≡ c)) ⊎ (is_waiter ws u c ≡ true)
            → (y ≡ true → is_waiter ws u c ≡ true → parked_target (at u) ≡ m) → parked_target (at u) ≡ m
        by_head false y k f g ih = absurd (false≢true f)
        by_head true y k f (inl here) ih =
            ap (λ (v : ℕ). parked_target (at v)) (sym here.0)
            ∙ eqb-true (parked_target (at w.0)) m
            (sym (ap (λ (b : Bool). if b then parked_target (at w.0) == m else true) (eq-eqb w.1 c here.1)) ∙ k)
        by_head true y k f (inr rest) ih = ih f rest

    pub target_seen : (r : Bool) → (IsTrue r ↔ HasTarget p t c m) → r ≡ have_target (parkings_in p t) c m
    target_seen r is = by_answer r is.0 is.1
      where
        by_answer : (b : Bool) → (IsTrue b → HasTarget p t c m) → (HasTarget p t c m → IsTrue b)
            → b ≡ have_target (parkings_in p t) c m
        by_answer true to from =
            sym (have_all pairs_now (λ u d e on. let x = paired_parked at p.threads next a u d e in
            ap parked_target x.1 ∙ to refl u x.0 x.1 (x.2 ∙ on)))
        by_answer false to from =
            by_test (λ b. have_target (parkings_in p t) c m ≡ b → false ≡ b) (have_target (parkings_in p t) c m)
            (λ e k. from (λ u x at_u on. sym (ap parked_target at_u) ∙ have_each pairs_now e u
            (subst (λ (d : ℕ). is_waiter pairs_now u d ≡ true) on (parked_paired at p.threads next a u x at_u))))
            (λ e k. refl) refl
