-- The waiters that a kernel keeps are those that are found by going through all threads.
use Rattle.std.proofs.Common.{◌≡◌, ◌≢◌, ℕ, ◌<◌, true, List, length, refl, sym, ap, subst, ◌∙◌}
use Rattle.std.proofs.lemmas.Bool.{true≢false}
use Rattle.pif_model.specs.declared.lines.Status.TheVariants.{Queued}
use Rattle.pif_model.specs.Graph.{has_waiter}
use Rattle.pif_model.specs.PiKernel.{Kernel, queued_on}
use Rattle.pif_model_lemmas.proofs.Among.{is_among as is_waiter}
use Rattle.pif_model_lemmas.proofs.Waiting.{named-from_pair, has_waiter-from_pair}
use Rattle.pif_model_lemmas.proofs.kernel.Facts.{queued-from_number}
use Rattle.pif_kernel_model.specs.Inside.{Inside, IsSoundInside, kernel_of, status_at, state_at, owner_under, ticket_of, arrivals_in}
use Rattle.pif_kernel_model.proofs.Seats.{status_seen, waiters_seen}
use Rattle.pif_kernel_model.proofs.Standing.{fits}
use Rattle.pif_kernel_model.proofs.Waiters.{named_known, no_key-no_waiter}
use Rattle.pif_kernel_model.proofs.InOrder.{in_order-is}

-- what is kept soundly has the waiters that are found
pub waiters_found : (p : Inside) → IsSoundInside p → arrivals_in p.statuses p.owners ≡ p.arrivals
waiters_found p h =
    in_order-is (ticket_of p.owners) (λ (t : ℕ). queued_on (status_at p t)) (length p.statuses) 1 p.arrivals p.next
    h.placed.tickets within all
  where
    seen : (u m : ℕ) → is_waiter p.arrivals u m ≡ true → status_at p u ≡ Queued m
    seen u m e =
        sym (status_seen p (fits p h) u)
        ∙ h.kernel.queue u m (subst (λ (ws : List (ℕ × ℕ)). is_waiter ws u m ≡ true) (sym (waiters_seen p)) e)

    within : (u m : ℕ) → is_waiter p.arrivals u m ≡ true
        → (u < length p.statuses) × ((m ≢ 0) × (queued_on (status_at p u) ≡ m))
    within u m e = (
      (named_known p h u (named-from_pair p.arrivals u m e)).1,
      ((λ z. nobody m z (has_waiter-from_pair p.arrivals u m e)), ap queued_on (seen u m e)),
    )
      where
        nobody : (m : ℕ) → m ≡ 0 → has_waiter p.arrivals m ≡ true → ⊥
        nobody m z w =
            true≢false (sym w ∙ no_key-no_waiter p h m
            (ap (λ (n : ℕ). state_at p n) z ∙ ap (owner_under p.owners) h.placed.no_mutex))

    all : (u : ℕ) → u < length p.statuses → queued_on (status_at p u) ≢ 0
        → is_waiter p.arrivals u (queued_on (status_at p u)) ≡ true
    all u l some =
        subst (λ (ws : List (ℕ × ℕ)). is_waiter ws u (queued_on (status_at p u)) ≡ true) (waiters_seen p)
        (h.kernel.queued u (queued_on (status_at p u)) (status_seen p (fits p h) u
        ∙ queued-from_number (status_at p u) (queued_on (status_at p u)) some refl))

-- so it is the same with these in the place of those that it names
pub renewed : (p : Inside) → IsSoundInside p → record p { arrivals = arrivals_in p.statuses p.owners } ≡ p
renewed p h = ap (λ (ws : List (ℕ × ℕ)). record p { arrivals = ws }) (waiters_found p h)

-- and what holds of it with any list of waiters holds of it as it is found
pub found_so : (p : Inside) (k : Kernel) → (kernel_of p ≡ k) × IsSoundInside p
    → (kernel_of (record p { arrivals = arrivals_in p.statuses p.owners }) ≡ k)
    × IsSoundInside (record p { arrivals = arrivals_in p.statuses p.owners })
found_so p k h = (ap kernel_of (renewed p h.1) ∙ h.0, subst IsSoundInside (sym (renewed p h.1)) h.1)
