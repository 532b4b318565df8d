-- What follows from what a kernel keeps: who waits for whom, and the next waiter.
use Rattle.std.proofs.Common.{◌≡◌, ◌≢◌, ◌⊎◌, ℕ, ◌<◌, ◌≤◌, Bool, true, false, if◌then◌else◌, length, refl, sym, ap, ◌∙◌, subst, arith, eqb-true, true≢false, inl, inr}
use Rattle.std.proofs.lemmas.Bool.{cases_eq, cases_lt, eqb-false, false_from_ne_true}
use Rattle.std.proofs.lemmas.List.{get_or_past}
use Rattle.pif_model.specs.declared.lines.Status.{Status}
use Rattle.pif_model.specs.declared.lines.Status.TheVariants.{Ready, Queued, Parked, Stopped, Ended}
use Rattle.pif_model.specs.Graph.{waited_by, has_waiter, reaches_within}
use Rattle.pif_model.specs.PiKernel.{Kernel, Seat, IsKernel, IsKernelShaped, no_seat, seat_at, has_seat, state_at, waits_for, effective_in, next_in, queued_on, is_ready, has_ended, is_living}
use Rattle.pif_model_lemmas.proofs.Numbers.{from_within, within}
use Rattle.pif_model_lemmas.proofs.Following.{within_here}
use Rattle.pif_model_lemmas.proofs.Waiting.{by_test, names, pairs, waited-from_pair, unnamed-from_0, paired-from_waited, next-is_waiter, has_waiter-from_pair}

-- STATUSES

-- who is queued on something is queued on that
pub queued-from_number : (x : Status) (m : ℕ) → m ≢ 0 → queued_on x ≡ m → x ≡ Queued m
queued-from_number (Ready w) m n e = absurd (n (sym e))
queued-from_number (Queued k) m n e = ap Queued e
queued-from_number (Parked c) m n e = absurd (n (sym e))
queued-from_number Stopped m n e = absurd (n (sym e))
queued-from_number Ended m n e = absurd (n (sym e))

-- who is queued may not run
pub queued-unready : (x : Status) (m : ℕ) → x ≡ Queued m → is_ready x ≡ false
queued-unready x m e = ap is_ready e

-- THREADS

-- a thread that lives was added, and has not ended
pub living-facts : (k : Kernel) (t : ℕ) → is_living k t ≡ true
    → (has_seat k t ≡ true) × (has_ended (seat_at k t).status ≡ false)
living-facts k t e = go (has_seat k t) (has_ended (seat_at k t).status) e
  where
    go : (a b : Bool) → (if a then (if b then false else true) else false) ≡ true → (a ≡ true) × (b ≡ false)
    go true true e = absurd (true≢false (sym e))
    go true false e = (refl, refl)
    go false b e = absurd (true≢false (sym e))

-- a thread that lives was added
pub living-added : (k : Kernel) (t : ℕ) → is_living k t ≡ true → has_seat k t ≡ true
living-added k t e = (living-facts k t e).0

-- and back
pub living-from_added : (k : Kernel) (t : ℕ) → has_seat k t ≡ true → has_ended (seat_at k t).status ≡ false
    → is_living k t ≡ true
living-from_added k t added e = rw (added, e) refl

-- who may run has not ended
pub ready-not_ended : (x : Status) → is_ready x ≡ true → has_ended x ≡ false
ready-not_ended (Ready w) e = refl
ready-not_ended (Queued m) e = refl
ready-not_ended (Parked c) e = refl
ready-not_ended Stopped e = refl
ready-not_ended Ended e = absurd (true≢false (sym e))

-- if a thread's seat is as it was, and as many were added, it lives if it did
pub living-same : (k now : Kernel) (t : ℕ) → has_seat now t ≡ has_seat k t → seat_at now t ≡ seat_at k t
    → is_living now t ≡ is_living k t
living-same k now t has seat =
    λ i. if has i then (if has_ended (ap (λ (x : Seat). x.status) seat i) then false else true) else false

-- who was not added has the place of nobody
pub seat-unadded : (k : Kernel) → IsKernelShaped k → (u : ℕ) → has_seat k u ≡ false → seat_at k u ≡ no_seat
seat-unadded k h u e = go (cases_eq u 0) (cases_lt u (length k.seats))
  where
    go : (u ≡ 0) ⊎ (u ≢ 0) → (u < length k.seats) ⊎ (length k.seats ≤ u) → seat_at k u ≡ no_seat
    go (inl z) c = ap (seat_at k) z ∙ h.nobody
    go (inr d) (inl l) = absurd (true≢false (sym (from_within u (length k.seats) d l) ∙ e))
    go (inr d) (inr g) = get_or_past k.seats u no_seat g

-- who is queued on something was added
pub added-from_queued : (k : Kernel) → IsKernelShaped k → (u m : ℕ) → m ≢ 0 → queued_on (seat_at k u).status ≡ m
    → has_seat k u ≡ true
added-from_queued k h u m n e = by_test (λ b. has_seat k u ≡ b → b ≡ true) (has_seat k u) (λ _ _. refl)
    (λ x _. absurd (n (sym e ∙ ap (λ (x : Seat). queued_on x.status) (seat-unadded k h u x)))) refl

module _ (k : Kernel) (h : IsKernel k) where
  -- OWNER STATES

  -- a mutex with an owner state has a waiter
  pub waiter-from_state : (m : ℕ) → state_at k m ≢ 0 → has_waiter k.waiters m ≡ true
  waiter-from_state m n = by_test (λ b. has_waiter k.waiters m ≡ b → b ≡ true) (has_waiter k.waiters m) (λ _ _. refl)
      (λ e _. absurd (n (eqb-true (state_at k m) 0 (h.states m ∙ rw e refl)))) refl

  -- and back
  pub state-from_waiter : (m : ℕ) → has_waiter k.waiters m ≡ true → state_at k m ≢ 0
  state-from_waiter m e = eqb-false (state_at k m) 0 (h.states m ∙ rw e refl)

  -- no mutex has the number 0
  pub some_mutex : (m : ℕ) → state_at k m ≢ 0 → m ≢ 0
  some_mutex m n z = n (ap (state_at k) z ∙ h.shape.no_mutex)

  -- nobody waits for 0
  pub no_waiter-0 : has_waiter k.waiters 0 ≡ false
  no_waiter-0 = false_from_ne_true (has_waiter k.waiters 0) (λ e. state-from_waiter 0 e h.shape.no_mutex)

  -- who is queued on nothing is queued on no mutex
  pub not_queued : (u m : ℕ) → queued_on (seat_at k u).status ≡ 0 → (seat_at k u).status ≡ Queued m → ⊥
  not_queued u m z q =
      some_mutex m (state-from_waiter m (has_waiter-from_pair k.waiters u m (h.queued u m q)))
      (ap queued_on (sym q) ∙ z)

  -- a mutex that has an owner state is one of those that can be
  pub mutex_below : (m : ℕ) → state_at k m ≢ 0 → m < 1025
  mutex_below m n = go (cases_lt m 1025)
    where
      go : (m < 1025) ⊎ (1025 ≤ m) → m < 1025
      go (inl l) = l
      go (inr g) = absurd (n (get_or_past k.states m 0 (omega (arith, h.shape.states))))

  -- an owner is below the number of threads
  pub state_below : (m : ℕ) → state_at k m < length k.seats
  state_below m = go (cases_eq (state_at k m) 0)
    where
      go : (state_at k m ≡ 0) ⊎ (state_at k m ≢ 0) → state_at k m < length k.seats
      go (inl z) = omega (arith, h.shape.some)
      go (inr d) = (within (state_at k m) (length k.seats) (h.owners m d)).1

  -- for whom a thread waits is below the number of threads
  pub waits_below : (u : ℕ) → waits_for k u < length k.seats
  waits_below u = state_below (queued_on (seat_at k u).status)

  -- QUEUES

  -- the mutex with which a thread stands in the queue is that on which it is queued
  pub waited-status : (u : ℕ) → waited_by k.waiters u ≡ queued_on (seat_at k u).status
  waited-status u = go (cases_eq (waited_by k.waiters u) 0) (cases_eq (queued_on (seat_at k u).status) 0)
    where
      go : (waited_by k.waiters u ≡ 0) ⊎ (waited_by k.waiters u ≢ 0)
          → (queued_on (seat_at k u).status ≡ 0) ⊎ (queued_on (seat_at k u).status ≢ 0)
          → waited_by k.waiters u ≡ queued_on (seat_at k u).status
      go (inr d) c =
          sym (ap queued_on (h.queue u (waited_by k.waiters u)
          (paired-from_waited k.waiters u (waited_by k.waiters u) d refl)))
      go (inl z) (inl y) = z ∙ sym y
      go (inl z) (inr d) = waited-from_pair k.waiters u (queued_on (seat_at k u).status) h.once
          (h.queued u (queued_on (seat_at k u).status)
          (queued-from_number (seat_at k u).status (queued_on (seat_at k u).status) d refl))

  -- who stands in the queue may not run
  pub unready-from_named : (u : ℕ) → names u k.waiters ≡ true → is_ready (seat_at k u).status ≡ false
  unready-from_named u e = go (cases_eq (waited_by k.waiters u) 0)
    where
      go : (waited_by k.waiters u ≡ 0) ⊎ (waited_by k.waiters u ≢ 0) → is_ready (seat_at k u).status ≡ false
      go (inl z) = absurd (true≢false (sym e ∙ unnamed-from_0 k.waiters u no_waiter-0 z))
      go (inr d) =
          queued-unready (seat_at k u).status (waited_by k.waiters u)
          (h.queue u (waited_by k.waiters u) (paired-from_waited k.waiters u (waited_by k.waiters u) d refl))

  -- who may run stands nowhere in the queue
  pub unnamed-from_ready : (u : ℕ) → is_ready (seat_at k u).status ≡ true → names u k.waiters ≡ false
  unnamed-from_ready u e = false_from_ne_true (names u k.waiters) (λ x. true≢false (sym e ∙ unready-from_named u x))

  -- whom one waits for is another
  pub waits_for-other : (u : ℕ) → waits_for k u ≢ 0 → waits_for k u ≢ u
  waits_for-other u n e =
      true≢false (sym (subst (λ v. reaches_within (length k.seats) (waits_for k) v u ≡ true) (sym e)
      (within_here (length k.seats) (waits_for k) u)) ∙ h.acyclic u n)

  -- a mutex on which a thread is queued has an owner state
  pub has_state-from_queued : (u m : ℕ) → m ≢ 0 → queued_on (seat_at k u).status ≡ m → state_at k m ≢ 0
  has_state-from_queued u m n e =
      state-from_waiter m (has_waiter-from_pair k.waiters u m
      (h.queued u m (queued-from_number (seat_at k u).status m n e)))

  -- THE NEXT WAITER

  -- the next waiter of a mutex that has an owner state stands in the queue with it
  pub next-paired : (m : ℕ) → state_at k m ≢ 0 → pairs (next_in k m) m k.waiters ≡ true
  next-paired m n = next-is_waiter (effective_in k) k.waiters m (waiter-from_state m n)

  -- it is queued on it
  pub next-queued : (m : ℕ) → state_at k m ≢ 0 → (seat_at k (next_in k m)).status ≡ Queued m
  next-queued m n = h.queue (next_in k m) m (next-paired m n)

  -- it was added
  pub next-added : (m : ℕ) → state_at k m ≢ 0 → has_seat k (next_in k m) ≡ true
  next-added m n = added-from_queued k h.shape (next_in k m) m (some_mutex m n) (ap queued_on (next-queued m n))

  -- it is the mutex with which it stands there
  pub next-waited : (m : ℕ) → state_at k m ≢ 0 → waited_by k.waiters (next_in k m) ≡ m
  next-waited m n = waited-from_pair k.waiters (next_in k m) m h.once (next-paired m n)

  -- it is somebody
  pub next-some : (m : ℕ) → state_at k m ≢ 0 → next_in k m ≢ 0
  next-some m n = (within (next_in k m) (length k.seats) (next-added m n)).0
