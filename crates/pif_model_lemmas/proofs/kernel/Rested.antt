-- A thread that may run stops for good or is parked: the kernel keeps what it keeps, and what it has at each place
-- then.
use Rattle.std.proofs.Common.{◌≡◌, ◌≢◌, ◌⊎◌, ℕ, ◌+◌, ◌≤◌, true, false, ◌==◌, nat_lt, List, [], ◌∷◌, ◌++◌, length, refl, sym, ap, ◌∙◌, subst, if◌then◌else◌, true≢false, inl, inr, length-set, get_or-set_same, get_or-set_other}
use Rattle.std.proofs.lemmas.Bool.{cases_eq}
use Rattle.pif_model.specs.declared.lines.Status.{Status}
use Rattle.pif_model.specs.declared.lines.Status.TheVariants.{Queued, Parked, Stopped}
use Rattle.pif_model.specs.PiKernel.{Kernel, Seat, Parking, ParksAsTold, IsKernel, no_seat, seat_at, has_seat, state_at, waits_for, effective_in, queued_on, is_ready, is_parked, levels_without, with_status, kernel_after_stop, kernel_after_parking}
use Rattle.pif_model.specs.Graph.{is_priority}
use Rattle.pif_model_lemmas.proofs.Numbers.{within}
use Rattle.pif_model_lemmas.proofs.Places.{kept_at}
use Rattle.pif_model_lemmas.proofs.kernel.Statuses.{ready-queued_on_nothing, ready-unparked}
use Rattle.pif_model_lemmas.proofs.Greatest.{effective_same, reaches_same}
use Rattle.pif_model_lemmas.proofs.kernel.Parks.{parks_kept, parks_joined}
use Rattle.pif_model_lemmas.proofs.kernel.Settled.{IsUnsettled, effective_range, kernel-from_listed, listed-from_kernel}
use Rattle.pif_model_lemmas.proofs.kernel.Listed.{listed-left}
use Rattle.pif_model_lemmas.proofs.kernel.Levels.{length-left}

-- RESTING

-- t has this status then, and these threads are parked
module _ (t : ℕ) (x : Status) (ps : List Parking) (k : Kernel) where
  -- the seat of t
  abbrev seat : Seat
  seat = record (seat_at k t) { status = x }

  -- the kernel after
  abbrev now : Kernel
  now = record (with_status t x k) { parked = ps; levels = levels_without t k.levels }

  -- as many threads
  length-rested : length now.seats ≡ length k.seats
  length-rested = length-set k.seats t seat

  -- the same threads were added
  has-rested : (u : ℕ) → has_seat now u ≡ has_seat k u
  has-rested u = ap (λ n. if u == 0 then false else nat_lt u n) length-rested

  -- the others are as they were
  seat-rested_other : (u : ℕ) → u ≢ t → seat_at now u ≡ seat_at k u
  seat-rested_other u n = get_or-set_other k.seats t u seat no_seat n

  -- each has the base priority that it had
  base-rested : (u : ℕ) → (seat_at now u).base ≡ (seat_at k u).base
  base-rested u = kept_at (λ (y : Seat). y.base) k.seats t seat no_seat refl u

  -- the others have the status that they had
  status-rested_other : (u : ℕ) → u ≢ t → (seat_at now u).status ≡ (seat_at k u).status
  status-rested_other u n = ap (λ (y : Seat). y.status) (seat-rested_other u n)

  module _ (h : IsKernel k) (added : has_seat k t ≡ true) (ready : is_ready (seat_at k t).status ≡ true) where
    -- t has that status
    seat-rested_same : seat_at now t ≡ record (seat_at k t) { status = x }
    seat-rested_same = get_or-set_same k.seats t seat no_seat (within t (length k.seats) added).1

    module _ (unready : is_ready x ≡ false) (unqueued : (m : ℕ) → x ≡ Queued m → ⊥) (nothing : queued_on x ≡ 0)
        (parking : ParksAsTold now) where
      -- each waits for whom it waited
      waits-rested : (u : ℕ) → waits_for now u ≡ waits_for k u
      waits-rested u =
          ap (state_at k) (kept_at (λ (y : Seat). queued_on y.status) k.seats t seat no_seat
          (nothing ∙ sym (ready-queued_on_nothing (seat_at k t).status ready)) u)

      -- each has its effective priority
      effective-rested : (u : ℕ) → effective_in now u ≡ effective_in k u
      effective-rested u = effective_same _ _ _ _ _ _ u length-rested waits-rested base-rested

      -- who was queued is
      is_queued : (u m : ℕ) → (u ≡ t) ⊎ (u ≢ t) → (seat_at k u).status ≡ Queued m → (seat_at now u).status ≡ Queued m
      is_queued u m (inl e) q =
          absurd (true≢false (sym ready ∙ ap is_ready (sym (ap (λ v. (seat_at k v).status) e) ∙ q)))
      is_queued u m (inr n) q = status-rested_other u n ∙ q

      -- and back
      was_queued : (u m : ℕ) → (u ≡ t) ⊎ (u ≢ t) → (seat_at now u).status ≡ Queued m → (seat_at k u).status ≡ Queued m
      was_queued u m (inl e) q =
          absurd (unqueued m (sym (ap (λ (y : Seat). y.status) seat-rested_same)
          ∙ sym (ap (λ v. (seat_at now v).status) e) ∙ q))
      was_queued u m (inr n) q = sym (status-rested_other u n) ∙ q

      -- all but the levels is kept
      unsettled-rested : IsUnsettled now
      unsettled-rested = record {
        shape = record {
          some = subst (λ n. 1 ≤ n) (sym length-rested) h.shape.some;
          few = subst (λ n. n ≤ k.limits.threads + 1) (sym length-rested) h.shape.few;
          nobody = seat-rested_other 0 (λ e. (within t (length k.seats) added).0 (sym e)) ∙ h.shape.nobody;
          priorities = λ u e. ap is_priority (base-rested u) ∙ h.shape.priorities u (sym (has-rested u) ∙ e);
          states = h.shape.states;
          no_mutex = h.shape.no_mutex;
          levels = length-left t k.levels ∙ h.shape.levels;
        };
        queue = λ u m e. is_queued u m (cases_eq u t) (h.queue u m e);
        queued = λ u m e. h.queued u m (was_queued u m (cases_eq u t) e);
        once = h.once;
        parking = parking;
        states = h.states;
        owners = λ m n. has-rested (state_at k m) ∙ h.owners m n;
        acyclic = λ u n. reaches_same _ _ _ _ _ _ u length-rested waits-rested (waits-rested u)
            ∙ h.acyclic u (λ z. n (waits-rested u ∙ z));
      }

      -- t has left its level
      kernel-rested : IsKernel now
      kernel-rested = kernel-from_listed now unsettled-rested
          (listed-left k now t (effective_in k) (effective_in now) (λ u n. has-rested u)
          status-rested_other (λ u n. effective-rested u) (listed-from_kernel k h) refl
          (ap (λ (y : Seat). is_ready y.status) seat-rested_same ∙ unready)
          (effective_range now unsettled-rested.shape t (has-rested t ∙ added)))

-- STOPPING

-- t is stopped for good
pub kernel-stopped : (t : ℕ) (k : Kernel) → IsKernel k → has_seat k t ≡ true
    → is_ready (seat_at k t).status ≡ true → IsKernel (kernel_after_stop t k)
unfolding kernel_after_stop
kernel-stopped t k h added ready =
    kernel-rested t Stopped k.parked k h added ready refl (λ m e. cc) refl
    (parks_kept k (now t Stopped k.parked k) t (status-rested_other t Stopped k.parked k) h.parking refl
    (ready-unparked (seat_at k t).status ready)
    (ap (λ (y : Seat). is_parked y.status) (seat-rested_same t Stopped k.parked k h added ready)))

-- PARKING

module _ (t c m : ℕ) (k : Kernel) where
  -- the threads that are parked then
  abbrev pub parked_then : List Parking
  parked_then = k.parked ++ record { thread = t; cond = c; target = m } ∷ []

  -- the kernel after
  abbrev after_parking : Kernel
  after_parking = kernel_after_parking t c m k

  -- the limits are what they were
  pub parked_limits : after_parking.limits ≡ k.limits
  unfolding kernel_after_parking
  parked_limits = refl

  -- as many threads
  pub parked_length : length after_parking.seats ≡ length k.seats
  unfolding kernel_after_parking
  parked_length = length-rested t (Parked c) parked_then k

  -- the same threads were added
  pub parked_has : (u : ℕ) → has_seat after_parking u ≡ has_seat k u
  unfolding kernel_after_parking
  parked_has u = has-rested t (Parked c) parked_then k u

  -- the other threads are as they were
  pub parked_seat_other : (u : ℕ) → u ≢ t → seat_at after_parking u ≡ seat_at k u
  unfolding kernel_after_parking
  parked_seat_other u d = seat-rested_other t (Parked c) parked_then k u d

  -- t is parked on c
  pub parked_seat_same : has_seat k t ≡ true → seat_at after_parking t ≡ record (seat_at k t) { status = Parked c }
  unfolding kernel_after_parking
  parked_seat_same added =
      get_or-set_same k.seats t (seat t (Parked c) parked_then k) no_seat (within t (length k.seats) added).1

  -- owner states are as they were
  pub parked_state : (i : ℕ) → state_at after_parking i ≡ state_at k i
  unfolding kernel_after_parking
  parked_state i = refl

  -- and so is the queue
  pub parked_waiters : after_parking.waiters ≡ k.waiters
  unfolding kernel_after_parking
  parked_waiters = refl

  -- t is the last of the parked
  pub parked_parked : after_parking.parked ≡ parked_then
  unfolding kernel_after_parking
  parked_parked = refl

  module _ (h : IsKernel k) (added : has_seat k t ≡ true) (ready : is_ready (seat_at k t).status ≡ true) where
    -- who is parked
    parks : ParksAsTold (now t (Parked c) parked_then k)
    parks = parks_joined k (now t (Parked c) parked_then k) t (status-rested_other t (Parked c) parked_then k) h.parking
        c m refl (ready-unparked (seat_at k t).status ready)
        (ap (λ (y : Seat). y.status) (seat-rested_same t (Parked c) parked_then k h added ready))

    -- it is a kernel
    pub kernel-parked : IsKernel after_parking
    unfolding kernel_after_parking
    kernel-parked = kernel-rested t (Parked c) parked_then k h added ready refl (λ m e. cc) refl parks
