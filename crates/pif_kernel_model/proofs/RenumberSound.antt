-- What is kept stays sound if tickets are renumbered.
use Rattle.std.proofs.Common.{◌≡◌, ◌≢◌, ◌⊎◌, ℕ, ◌+◌, ◌<◌, true, false, nat_lt, List, [], ◌∷◌, length, get_or, Option, Some, None, IsSome, is_some, option_map, option_and_then, unwrap_or, refl, sym, ap, subst, ◌∙◌, inl, inr, arith}
use Rattle.std.proofs.Math.Path.{fun_ext}
use Rattle.std.proofs.lemmas.Bool.{false≢true}
use Rattle.std.proofs.lemmas.Bool.Decides.{nat_tests}
use Rattle.pif_nodes_model.specs.declared.keys.Key.{Key}
use Rattle.pif_nodes_model.specs.Order.{comes_before}
use Rattle.pif_model.specs.PiKernel.{Kernel, IsKernel, effective_in}
use Rattle.pif_kernel_model.specs.Owners.{Owners, Task, Wait, task_at, owner_at, count, waits_on, rank_of, no_task, KeepsOrder}
use Rattle.pif_model_lemmas.proofs.Waiting.{names}
use Rattle.pif_kernel_model.specs.Inside.{Inside, IsPlaced, IsSoundInside, kernel_of, state_key_at, state_at, ticket_of}
use Rattle.pif_kernel_model.specs.Arrivals.{Rise}
use Rattle.pif_kernel_model.specs.Tickets.{renumbered_ticket, seat_with_ticket, IsRenumbered, IsRenumberable}
use Rattle.pif_kernel_model.proofs.Seats.{IsFitted, states_seen, states_length, kernel_by_parts, seats_of-same_base}
use Rattle.pif_kernel_model.proofs.Standing.{listed_kept, fits}
use Rattle.pif_kernel_model.proofs.ArrivalLaws.{rise_once}
use Rattle.pif_kernel_model.proofs.TicketLaws.{order, ticket_before, rise_renumbered, named_at}
use Rattle.pif_kernel_model.proofs.Waiters.{waits_some, waits_named, named_known, arrivals_few}

wait_state : (n : ℕ) (o : Option Wait)
    → option_map (λ (w : Wait). w.state)
    (option_map (λ (w : Wait). record { state = w.state; rank = record { prio = w.rank.prio; ticket = n } }) o)
    ≡ option_map (λ (w : Wait). w.state) o
wait_state n None = refl
wait_state n (Some w) = refl

wait_rank : (n : ℕ) (o : Option Wait) (r : Key)
    → option_map (λ (w : Wait). w.rank)
    (option_map (λ (w : Wait). record { state = w.state; rank = record { prio = w.rank.prio; ticket = n } }) o) ≡ Some r
    → (r.ticket ≡ n) × ((s : Key) × (option_map (λ (w : Wait). w.rank) o ≡ Some s) × (s.prio ≡ r.prio))
wait_rank n None r e = cc
wait_rank n (Some w) r e =
    let same : record { prio = w.rank.prio; ticket = n } ≡ r = cc in
    (sym (ap (λ (k : Key). k.ticket) same), (w.rank, refl, ap (λ (k : Key). k.prio) same))

wait_ticket : (n : ℕ) (o : Option Wait) → is_some (option_map (λ (w : Wait). w.state) o) ≡ true
    → unwrap_or (option_map (λ (r : Key). r.ticket)
    (option_map (λ (w : Wait). w.rank)
    (option_map (λ (w : Wait). record { state = w.state; rank = record { prio = w.rank.prio; ticket = n } }) o))) 0 ≡ n
wait_ticket n None e = absurd (false≢true e)
wait_ticket n (Some w) e = refl

module _ (p : Inside) (now : Owners) (i : ℕ) (h : IsSoundInside p) (g : IsRenumbered p.owners now p.arrivals i) where
  abbrev tag : ℕ → ℕ
  tag u = renumbered_ticket (ticket_of p.owners) 1 i p.arrivals u

  waits_now : (u : ℕ) → waits_on now u ≡ waits_on p.owners u
  waits_now u =
      ap (λ (x : Task). option_map (λ (w : Wait). w.state) x.wait) (g.seat u)
      ∙ wait_state (tag u) (task_at p.owners u).wait

  rank_now : (u : ℕ) (r : Key) → rank_of now u ≡ Some r
      → (r.ticket ≡ tag u) × ((s : Key) × (rank_of p.owners u ≡ Some s) × (s.prio ≡ r.prio))
  rank_now u r e =
      wait_rank (tag u) (task_at p.owners u).wait r
      (sym (ap (λ (x : Task). option_map (λ (w : Wait). w.rank) x.wait) (g.seat u)) ∙ e)

  abbrev Side : ℕ → ℕ → Type 0
  Side t u = ((tag u < 1 + i) × (tag u < tag t)) ⊎ ((1 + i < tag u) × (tag t < tag u))

  -- with its new ticket a thread stands where it did
  pub keeps : (t : ℕ) (d : ℕ × ℕ) → i < length p.arrivals → (get_or p.arrivals i d).0 ≡ t → (k : ℕ)
      → waits_on p.owners t ≡ Some k → KeepsOrder now t (i + 1)
  keeps t d l e k waits = record {
    before =
        λ u mine other ne same a b. ahead mine other u (side u ne same) (rank_now t mine a).0 (rank_now u other b).0;
    behind =
        λ u mine other ne same a b. back mine other u (side u ne same) (rank_now t mine a).0 (rank_now u other b).0;
  }
    where
      old : tag t ≡ ticket_of p.owners t
      old =
          ticket_before (ticket_of p.owners) 1 i p.arrivals t d
          (rise_once (ticket_of p.owners) 1 p.arrivals p.next h.placed.tickets) l e

      side : (u : ℕ) → u ≢ t → waits_on now u ≡ waits_on now t → Side t u
      side u ne same =
          let waited : waits_on p.owners u ≡ Some k = sym (waits_now u) ∙ same ∙ waits_now t ∙ waits in
          let s
          = order (ticket_of p.owners) 1 i 1 p.arrivals p.next t u d (omega arith) h.placed.tickets l e ne
          (waits_named p h u k waited) in
          subst (λ (n : ℕ). ((tag u < 1 + i) × (tag u < n)) ⊎ ((1 + i < tag u) × (n < tag u))) (sym old) s.1

      ahead : (mine other : Key) (u : ℕ) → Side t u → mine.ticket ≡ tag t → other.ticket ≡ tag u
          → comes_before (record mine { ticket = i + 1 }) other ≡ comes_before mine other
      ahead mine other u (inl s) a b =
          let x : nat_lt (i + 1) other.ticket ≡ false = grind (arith, nat_tests, s.0) in
          let y : nat_lt mine.ticket other.ticket ≡ false = grind (arith, nat_tests, s.1) in rw (x, y) refl
      ahead mine other u (inr s) a b =
          let x : nat_lt (i + 1) other.ticket ≡ true = grind (arith, nat_tests, s.0) in
          let y : nat_lt mine.ticket other.ticket ≡ true = grind (arith, nat_tests, s.1) in rw (x, y) refl

      back : (mine other : Key) (u : ℕ) → Side t u → mine.ticket ≡ tag t → other.ticket ≡ tag u
          → comes_before other (record mine { ticket = i + 1 }) ≡ comes_before other mine
      back mine other u (inl s) a b =
          let x : nat_lt other.ticket (i + 1) ≡ true = grind (arith, nat_tests, s.0) in
          let y : nat_lt other.ticket mine.ticket ≡ true = grind (arith, nat_tests, s.1) in rw (x, y) refl
      back mine other u (inr s) a b =
          let x : nat_lt other.ticket (i + 1) ≡ false = grind (arith, nat_tests, s.0) in
          let y : nat_lt other.ticket mine.ticket ≡ false = grind (arith, nat_tests, s.1) in rw (x, y) refl

  module _ (next : ℕ) (all : i ≡ length p.arrivals) (next_is : next ≡ 1 + length p.arrivals) where
    abbrev pub after : Inside
    after = record p { owners = now; next = next }

    owner_now : (k : ℕ) → owner_at now k ≡ owner_at p.owners k
    owner_now k = ap (λ m. owner_at (record { seats = now.seats; owners = m }) k) g.owners

    state_now : (m : ℕ) → state_at after m ≡ state_at p m
    state_now m = ap (λ (f : ℕ → Option ℕ). unwrap_or (option_and_then f (state_key_at p m)) 0) (fun_ext owner_now)

    base_now : (u : ℕ) → (task_at now u).base ≡ (task_at p.owners u).base
    base_now u = ap (λ (x : Task). x.base) (g.seat u)

    nobody_now : (u : ℕ) → task_at p.owners u ≡ no_task → task_at now u ≡ no_task
    nobody_now u e = g.seat u ∙ ap (seat_with_ticket (tag u)) e

    ticket_now : (u : ℕ) → names u p.arrivals ≡ true
        → ticket_of now u ≡ renumbered_ticket (ticket_of p.owners) 1 (length p.arrivals) p.arrivals u
    ticket_now u e =
        ap (λ (x : Task). unwrap_or (option_map (λ (r : Key). r.ticket) (option_map (λ (w : Wait). w.rank) x.wait)) 0)
        (g.seat u)
        ∙ wait_ticket (tag u) (task_at p.owners u).wait (waits_some p h u e)
        ∙ ap (λ (n : ℕ). renumbered_ticket (ticket_of p.owners) 1 n p.arrivals u) all

    pub kernel_after : kernel_of after ≡ kernel_of p
    unfolding kernel_of
    kernel_after =
        kernel_by_parts (kernel_of after) (kernel_of p) refl
        (seats_of-same_base p.statuses p.owners.seats now.seats g.seats base_now)
        (states_length after ∙ sym (states_length p))
        (λ m. states_seen after m ∙ state_now m ∙ sym (states_seen p m)) refl refl refl (λ r. refl)

    kept : IsKernel (kernel_of after)
    kept = subst IsKernel (sym kernel_after) h.kernel

    same : (u : ℕ) → effective_in (kernel_of p) u ≡ effective_in (kernel_of after) u
    same u = sym (ap (λ (k : Kernel). effective_in k u) kernel_after)

    fit_after : IsFitted after
    fit_after = record {
      few = omega (arith, (fits p h).few, g.seats);
      free = λ t l. nobody_now t (h.placed.free t l);
      waits = λ t. waits_now t ∙ h.placed.waits t;
      owners = λ m. omega (arith, state_now m, h.placed.owners m);
    }

    local_after : (t : ℕ) → (task_at now t).local ≡ effective_in (kernel_of after) t
    local_after t = ap (λ (x : Task). x.local) (g.seat t) ∙ h.local t ∙ same t

    placed_after : IsPlaced after
    placed_after = record {
      within = h.placed.within;
      rows = g.seats ∙ h.placed.rows;
      keys = h.placed.keys;
      some = h.placed.some;
      few = h.placed.few;
      nobody = nobody_now 0 h.placed.nobody;
      admitted = λ t n l. omega (arith, base_now t, h.placed.admitted t n l);
      free = fit_after.free;
      most = λ t. omega (arith, base_now t, h.placed.most t);
      threads = h.placed.threads;
      holds = h.placed.holds;
      listed = listed_kept after fit_after kept local_after;
      waits = fit_after.waits;
      no_mutex = h.placed.no_mutex;
      apart = h.placed.apart;
      made = λ m k e. subst (λ (o : Option ℕ). IsSome o) (sym (owner_now k)) (h.placed.made m k e);
      owned = λ m k e z. h.placed.owned m k e (sym (state_now m) ∙ z);
      count = ap (λ o. count (record { seats = now.seats; owners = o })) g.owners ∙ h.placed.count;
      owners = fit_after.owners;
      tickets =
          subst (λ (n : ℕ). Rise (ticket_of now) 1 p.arrivals n) (sym next_is)
          (rise_renumbered (ticket_of p.owners) (ticket_of now) 1 p.arrivals
          (rise_once (ticket_of p.owners) 1 p.arrivals p.next h.placed.tickets) ticket_now);
    }

    pub sound_after : IsSoundInside after
    sound_after = record {
      placed = placed_after;
      local = local_after;
      rank = λ t r e. let s = (rank_now t r e).1 in sym s.2 ∙ h.rank t s.0 s.1 ∙ same t;
      kernel = kept;
    }

pub renumberable : (p : Inside) → IsSoundInside p → IsRenumberable p.owners p.arrivals
renumberable p h = record {
  few = arrivals_few p h;
  rows = λ t e. let k = named_known p h t e in omega (arith, k.1, h.placed.few, h.placed.rows);
  waits = λ t e. waits_some p h t e;
  once = rise_once (ticket_of p.owners) 1 p.arrivals p.next h.placed.tickets;
  keeps = λ now i t d g l e. by_wait now i t d g l e (waits_on p.owners t) refl;
  stays = λ now i t g. waits_now p now i h g t;
}
  where
    by_wait : (now : Owners) (i t : ℕ) (d : ℕ × ℕ) → IsRenumbered p.owners now p.arrivals i → i < length p.arrivals
        → (get_or p.arrivals i d).0 ≡ t
        → (o : Option ℕ) → waits_on p.owners t ≡ o → KeepsOrder now t (i + 1)
    by_wait now i t d g l e None x =
        absurd (false≢true (sym (ap is_some x) ∙ waits_some p h t (named_at p.arrivals i t d l e)))
    by_wait now i t d g l e (Some k) x = keeps p now i h g t d l e k x

-- THE NEXT TICKET

rise_more : (f : ℕ → ℕ) (least : ℕ) (ws : List (ℕ × ℕ)) (next : ℕ) → Rise f least ws next → Rise f least ws (next + 1)
rise_more f least [] next r = omega arith
rise_more f least (w ∷ ws) next r = (r.0, rise_more f (f w.0 + 1) ws next r.1)

pub kernel_next : (p : Inside) (n : ℕ) → kernel_of (record p { next = n }) ≡ kernel_of p
unfolding kernel_of
kernel_next p n = refl

placed_next : (p : Inside) → IsPlaced p → IsPlaced (record p { next = p.next + 1 })
unfolding kernel_of
placed_next p h = record {
  within = h.within;
  rows = h.rows;
  keys = h.keys;
  some = h.some;
  few = h.few;
  nobody = h.nobody;
  admitted = h.admitted;
  free = h.free;
  most = h.most;
  threads = h.threads;
  holds = h.holds;
  listed = λ t r e. let l = h.listed t r e in record { added = l.added; ready = l.ready; local = l.local };
  waits = h.waits;
  no_mutex = h.no_mutex;
  apart = h.apart;
  made = h.made;
  owned = h.owned;
  count = h.count;
  owners = h.owners;
  tickets = rise_more (ticket_of p.owners) 1 p.arrivals p.next h.tickets;
}

pub sound_next : (p : Inside) → IsSoundInside p → IsSoundInside (record p { next = p.next + 1 })
unfolding kernel_of
sound_next p h = record { placed = placed_next p h.placed; local = h.local; rank = h.rank; kernel = h.kernel }
