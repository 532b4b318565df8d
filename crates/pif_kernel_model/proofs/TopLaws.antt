-- The top waiter by priority and ticket is the next waiter: the first in arrival among those of greatest priority.
use Rattle.std.proofs.Common.{◌≡◌, ◌⊎◌, ℕ, ◌<◌, ◌≤◌, true, false, List, ◌∷◌, Option, Some, None, option_map, unwrap_or, refl, sym, ap, subst, ◌∙◌, inl, inr, arith}
use Rattle.std.proofs.lemmas.Bool.Decides.{nat_tests}
use Rattle.pif_nodes_model.specs.declared.keys.Key.{Key}
use Rattle.pif_nodes_model.specs.Order.{comes_before}
use Rattle.pif_model.specs.declared.lines.Status.{Status}
use Rattle.pif_model.specs.declared.lines.Status.TheVariants.{Ready, Queued, Parked, Stopped, Ended}
use Rattle.pif_model.specs.Graph.{next_waiter, IsNextWaiter}
use Rattle.pif_model.specs.PiKernel.{queued_on, effective_in, next_in}
use Rattle.pif_kernel_model.specs.Owners.{task_at, waits_on, rank_of, IsTop}
use Rattle.pif_kernel_model.proofs.OwnersLemmas.{some_rank}
use Rattle.pif_model_lemmas.proofs.Among.{is_among_cons}
use Rattle.pif_model_lemmas.proofs.Among.{is_among as is_waiter}
use Rattle.pif_model_lemmas.proofs.Next.{next_is_next}
use Rattle.pif_model_lemmas.proofs.Waiting.{named-from_pair}
use Rattle.pif_kernel_model.specs.Inside.{Inside, IsSoundInside, kernel_of, status_at, state_key_at, ticket_of}
use Rattle.pif_kernel_model.specs.Arrivals.{Rise}
use Rattle.pif_kernel_model.proofs.Seats.{status_seen, waiters_seen}
use Rattle.pif_kernel_model.proofs.Standing.{fits}
use Rattle.pif_kernel_model.proofs.Waiters.{has_waiter-key}
use Rattle.pif_kernel_model.proofs.ArrivalLaws.{rise_behind, waiter_middle, waiter_split}

-- who waits under the key of m is queued on m
pub waits_under : (p : Inside) → IsSoundInside p → (u m key : ℕ) → state_key_at p m ≡ Some key → waits_on p.owners u ≡ Some key
    → is_waiter p.arrivals u m ≡ true
waits_under p h u m key at waits =
    subst (λ (ws : List (ℕ × ℕ)). is_waiter ws u m ≡ true) (waiters_seen p)
    (h.kernel.queued u m (status_seen p (fits p h) u ∙ by_status (status_at p u) refl))
  where
    on : queued_on (status_at p u) ≡ m
    on = h.placed.apart (queued_on (status_at p u)) m key (sym (h.placed.waits u) ∙ waits) at

    nobody : m ≡ 0 → ⊥
    nobody z = let both : None ≡ Some key = sym h.placed.no_mutex ∙ ap (state_key_at p) (sym z) ∙ at in cc

    by_status : (x : Status) → status_at p u ≡ x → status_at p u ≡ Queued m
    by_status (Queued n) e = e ∙ ap Queued (sym (ap queued_on e) ∙ on)
    by_status (Ready w) e = absurd (nobody (sym on ∙ ap queued_on e))
    by_status (Parked c) e = absurd (nobody (sym on ∙ ap queued_on e))
    by_status Stopped e = absurd (nobody (sym on ∙ ap queued_on e))
    by_status Ended e = absurd (nobody (sym on ∙ ap queued_on e))

-- who is queued on m waits under its key
pub under_waits : (p : Inside) → IsSoundInside p → (u m key : ℕ) → state_key_at p m ≡ Some key → is_waiter p.arrivals u m ≡ true
    → waits_on p.owners u ≡ Some key
under_waits p h u m key at e =
    let status : status_at p u ≡ Queued m
    = sym (status_seen p (fits p h) u)
    ∙ h.kernel.queue u m (subst (λ (ws : List (ℕ × ℕ)). is_waiter ws u m ≡ true) (sym (waiters_seen p)) e) in
    h.placed.waits u ∙ ap (λ (x : Status). state_key_at p (queued_on x)) status ∙ at

pub priority_below : (a b : Key) → comes_before a b ≡ false → a.prio ≤ b.prio
priority_below a b e = grind (arith, nat_tests)

ticket_below : (a b : Key) → comes_before a b ≡ false → a.prio ≡ b.prio → b.ticket ≤ a.ticket
ticket_below a b e same = grind (arith, nat_tests)

top_by : (p : Inside) → IsSoundInside p → (m key u x : ℕ) → state_key_at p m ≡ Some key → (top : IsTop p.owners key u)
    → IsNextWaiter (effective_in (kernel_of p)) p.arrivals m x → u ≡ x
top_by p h m key u x at top next =
    by_place (waiter_split next.earlier ((x, m) ∷ next.later) u m
    (subst (λ (ws : List (ℕ × ℕ)). is_waiter ws u m ≡ true) next.place (waits_under p h u m key at top.waits)))
    (some_rank (task_at p.owners x).wait key waits_x) waits_x
  where
    waits_x : waits_on p.owners x ≡ Some key
    waits_x =
        under_waits p h x m key at (subst (λ (ws : List (ℕ × ℕ)). is_waiter ws x m ≡ true) (sym next.place)
        (waiter_middle next.earlier next.later x m))

    by_place : (is_waiter next.earlier u m ≡ true) ⊎ (is_waiter ((x, m) ∷ next.later) u m ≡ true)
        → (r : Key) × (rank_of p.owners x ≡ Some r) → waits_on p.owners x ≡ Some key → u ≡ x
    by_place (inl e) r waits =
        let first : comes_before r.0 top.rank ≡ false = top.first x r.0 waits r.1 in
        absurd (omega (
          arith,
          priority_below r.0 top.rank first,
          h.rank x r.0 r.1,
          h.rank u top.rank top.ranked,
          next.above_earlier u e,
        ))
    by_place (inr e) r waits = by_head (is_among_cons (x, m) next.later u m e)
      where
        by_head : ((x ≡ u) × (m ≡ m)) ⊎ (is_waiter next.later u m ≡ true) → u ≡ x
        by_head (inl a) = sym a.0
        by_head (inr l) =
            let high : r.0.prio ≤ top.rank.prio = priority_below r.0 top.rank (top.first x r.0 waits r.1) in
            let even : r.0.prio ≡ top.rank.prio
            = omega (arith, high, h.rank x r.0 r.1, h.rank u top.rank top.ranked, next.above_later u l) in
            let late : ticket_of p.owners x < ticket_of p.owners u
            = rise_behind (ticket_of p.owners) 1 next.earlier next.later x m p.next u
            (subst (λ (ws : List (ℕ × ℕ)). Rise (ticket_of p.owners) 1 ws p.next) next.place h.placed.tickets)
            (named-from_pair next.later u m l) in
            let tx : ticket_of p.owners x ≡ r.0.ticket
            = ap (λ (o : Option Key). unwrap_or (option_map (λ (k : Key). k.ticket) o) 0) r.1 in
            let tu : ticket_of p.owners u ≡ top.rank.ticket
            = ap (λ (o : Option Key). unwrap_or (option_map (λ (k : Key). k.ticket) o) 0) top.ranked in
            absurd (omega (arith, ticket_below r.0 top.rank (top.first x r.0 waits r.1) even, late, tx, tu))

pub top_is_next : (p : Inside) → IsSoundInside p → (m key u : ℕ) → state_key_at p m ≡ Some key → IsTop p.owners key u
    → u ≡ next_in (kernel_of p) m
top_is_next p h m key u at top =
    let ws : (kernel_of p).waiters ≡ p.arrivals = waiters_seen p in
    top_by p h m key u (next_waiter (effective_in (kernel_of p)) p.arrivals m) at top
    (next_is_next (effective_in (kernel_of p)) p.arrivals m (has_waiter-key p h m (h.placed.owned m key at)))
    ∙ ap (λ (l : List (ℕ × ℕ)). next_waiter (effective_in (kernel_of p)) l m) (sym ws)

-- a mutex that has a key has a waiter
pub some_waiter : (p : Inside) → IsSoundInside p → (m key : ℕ) → state_key_at p m ≡ Some key
    → (u : ℕ) × (waits_on p.owners u ≡ Some key)
some_waiter p h m key at =
    by_next (next_is_next (effective_in (kernel_of p)) p.arrivals m (has_waiter-key p h m (h.placed.owned m key at)))
  where
    by_next :
        IsNextWaiter (effective_in (kernel_of p)) p.arrivals m (next_waiter (effective_in (kernel_of p)) p.arrivals m)
        → (u : ℕ) × (waits_on p.owners u ≡ Some key)
    by_next next = (
      next_waiter (effective_in (kernel_of p)) p.arrivals m,
      under_waits p h (next_waiter (effective_in (kernel_of p)) p.arrivals m) m key at
          (subst (λ (ws : List (ℕ × ℕ)). is_waiter ws (next_waiter (effective_in (kernel_of p)) p.arrivals m) m ≡ true)
          (sym next.place) (waiter_middle next.earlier next.later
          (next_waiter (effective_in (kernel_of p)) p.arrivals m) m)),
    )
