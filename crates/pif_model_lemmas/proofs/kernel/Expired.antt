-- The deadline of a thread is reached, in whatever it waits for: the kernel keeps what it keeps, and what it has at
-- each place then.
use Rattle.std.proofs.Common.{◌≡◌, ◌≢◌, ◌==◌, ℕ, List, true, false, cond, [], ◌∷◌, length, set, refl, sym, ap, ◌∙◌, subst, if◌then◌else◌}
use Rattle.pif_model.specs.declared.lines.Status.TheVariants.{Ready, Stopped}
use Rattle.pif_model.specs.declared.lines.Woken.TheVariants.{Expired as WokenExpired}
use Rattle.pif_model.specs.Graph.{has_waiter}
use Rattle.pif_model.specs.PiKernel.{Kernel, Seat, Parking, IsKernel, seat_at, has_seat, is_living, is_ready, state_at, queued_on, effective_in, levels_with, parkings_without, kernel_left_as, kernel_after_waking, kernel_after_expire}
use Rattle.pif_model_lemmas.proofs.Waiting.{by_test}
use Rattle.pif_model_lemmas.proofs.kernel.Facts.{living-same}
use Rattle.pif_model_lemmas.proofs.kernel.Left.{mutex_left, waiters_left, limits-left, length-left_seats, has-left, seat-left_other, seat-left_same, status-left_same, base-left, waiters-left, parked-left, state-left_other, state-left, kernel-left}
use Rattle.pif_model_lemmas.proofs.kernel.Woken.{woken_limits, woken_length, woken_has, woken_seat_other, woken_seat_same, woken_base, woken_state, woken_waiters, woken_parked, kernel-roused}

-- who has left the parked can't leave them again
unparked-twice : (ps : List Parking) (u : ℕ) → parkings_without (parkings_without ps u) u ≡ parkings_without ps u
unparked-twice [] u = refl
unparked-twice (p ∷ ps) u =
    by_test (λ b. (p.thread == u) ≡ b
    → parkings_without (cond (cond b false true) (p ∷ parkings_without ps u) (parkings_without ps u)) u
    ≡ cond (cond b false true) (p ∷ parkings_without ps u) (parkings_without ps u)) (p.thread == u)
    (λ e x. unparked-twice ps u) (λ e x. rw x (ap (λ qs. p ∷ qs) (unparked-twice ps u))) refl

module _ (t : ℕ) (k : Kernel) where
  -- the kernel once t has left what it waited for
  abbrev pub left : Kernel
  left = kernel_left_as Stopped t k

  -- the kernel after
  abbrev now : Kernel
  now = kernel_after_expire t k

  -- t has left, and is woken
  pub expired-as_woken : kernel_after_expire t k ≡ kernel_after_waking t WokenExpired left
  unfolding kernel_after_expire kernel_after_waking
  expired-as_woken =
      sym (ap (λ ps. record left {
        seats = set left.seats t (record (seat_at left t) { status = Ready WokenExpired });
        parked = ps;
        levels = levels_with t (effective_in left t) left.levels;
      }) (ap (λ ps. parkings_without ps t) (parked-left Stopped t k) ∙ unparked-twice k.parked t
      ∙ sym (parked-left Stopped t k)))

  -- the limits are what they were
  pub limits-expired : now.limits ≡ k.limits
  limits-expired =
      ap (λ (x : Kernel). x.limits) expired-as_woken ∙ woken_limits t WokenExpired left ∙ limits-left Stopped t k

  -- as many threads
  pub length-expired : length now.seats ≡ length k.seats
  length-expired =
      ap (λ (x : Kernel). length x.seats) expired-as_woken ∙ woken_length t WokenExpired left
      ∙ length-left_seats Stopped t k

  -- the same threads were added
  pub has-expired : (u : ℕ) → has_seat now u ≡ has_seat k u
  has-expired u =
      ap (λ x. has_seat x u) expired-as_woken ∙ woken_has t WokenExpired left u ∙ has-left Stopped t k u

  -- the others are as they were
  pub seat-expired_other : (u : ℕ) → u ≢ t → seat_at now u ≡ seat_at k u
  seat-expired_other u d =
      ap (λ x. seat_at x u) expired-as_woken ∙ woken_seat_other t WokenExpired left u d
      ∙ seat-left_other Stopped t k u d

  -- each has the base priority that it had
  pub base-expired : (u : ℕ) → (seat_at now u).base ≡ (seat_at k u).base
  base-expired u =
      ap (λ x. (seat_at x u).base) expired-as_woken ∙ woken_base t WokenExpired left u ∙ base-left Stopped t k u

  -- t is not in the queue
  pub waiters-expired : now.waiters ≡ waiters_left t k
  waiters-expired =
      ap (λ (x : Kernel). x.waiters) expired-as_woken ∙ woken_waiters t WokenExpired left
      ∙ waiters-left Stopped t k

  -- nor among the parked
  pub parked-expired : now.parked ≡ parkings_without k.parked t
  parked-expired =
      ap (λ (x : Kernel). x.parked) expired-as_woken ∙ woken_parked t WokenExpired left
      ∙ ap (λ ps. parkings_without ps t) (parked-left Stopped t k) ∙ unparked-twice k.parked t

  -- the other owner states are as they were
  pub state-expired_other : (i : ℕ) → i ≢ mutex_left t k → state_at now i ≡ state_at k i
  state-expired_other i d =
      ap (λ x. state_at x i) expired-as_woken ∙ woken_state t WokenExpired left i ∙ state-left_other Stopped t k i d

  -- an owner state stays exactly if others than t are queued
  pub state-expired : IsKernel k → (i : ℕ)
      → state_at now i ≡ (if has_waiter (waiters_left t k) i then state_at k i else 0)
  state-expired h i =
      ap (λ x. state_at x i) expired-as_woken ∙ woken_state t WokenExpired left i ∙ state-left Stopped t k h i

  module _ (added : has_seat k t ≡ true) where
    -- it was added
    added_left : has_seat left t ≡ true
    added_left = has-left Stopped t k t ∙ added

    -- t is ready
    pub seat-expired_same : seat_at now t ≡ record (seat_at k t) { status = Ready WokenExpired }
    seat-expired_same =
        ap (λ x. seat_at x t) expired-as_woken ∙ woken_seat_same t WokenExpired left added_left
        ∙ ap (λ (x : Seat). record x { status = Ready WokenExpired }) (seat-left_same Stopped t k added)

    -- its status
    pub status-expired_same : (seat_at now t).status ≡ Ready WokenExpired
    status-expired_same = ap (λ (x : Seat). x.status) seat-expired_same

    -- it lives
    pub living-expired_same : is_living now t ≡ true
    living-expired_same = rw (has-expired t ∙ added, status-expired_same) refl

    -- all is settled
    pub kernel-expired : IsKernel k → IsKernel now
    kernel-expired h =
        subst IsKernel (sym expired-as_woken)
        (kernel-roused t WokenExpired left (kernel-left Stopped t k h added refl) added_left
        (ap is_ready (status-left_same Stopped t k added)) (ap queued_on (status-left_same Stopped t k added)))

  -- the others live if they did
  pub living-expired_other : (u : ℕ) → u ≢ t → is_living now u ≡ is_living k u
  living-expired_other u d = living-same k now u (has-expired u) (seat-expired_other u d)
