-- A thread has left what it waited for and its level, and neither runs nor waits: the kernel keeps what it keeps, and
-- what it has at each place then.
use Rattle.std.proofs.Common.{◌≡◌, ◌≢◌, ◌⊎◌, ◌+◌, ◌<◌, ℕ, ◌≤◌, List, true, false, ◌==◌, nat_lt, length, refl, sym, ap, ◌∙◌, subst, arith, if◌then◌else◌, eq-eqb, ne_eqb, true≢false, inl, inr, length-set, get_or-set_same, get_or-set_other}
use Rattle.std.proofs.lemmas.Bool.{cases_eq, cases_Bool}
use Rattle.pif_model.specs.declared.lines.Status.{Status}
use Rattle.pif_model.specs.declared.lines.Status.TheVariants.{Queued}
use Rattle.pif_model.specs.Graph.{is_priority, has_waiter, without, reaches_within}
use Rattle.pif_model.specs.PiKernel.{Kernel, Seat, IsKernel, no_seat, seat_at, has_seat, has_ended, is_living, state_at, waits_for, effective_in, queued_on, is_ready, is_parked, is_out, parkings_without, levels_without, with_effective_levels, with_status, with_state, kernel_left_as}
use Rattle.pif_model_lemmas.proofs.Numbers.{within}
use Rattle.pif_model_lemmas.proofs.Places.{kept_at}
use Rattle.pif_model_lemmas.proofs.kernel.Statuses.{out-unready, out-unparked, out-queued_on_nothing}
use Rattle.pif_model_lemmas.proofs.Among.{is_among-without}
use Rattle.pif_model_lemmas.proofs.Waiting.{pairs, once_without, has_waiter-without_none, has_waiter-without_other, has_waiter-from_pair}
use Rattle.pif_model_lemmas.proofs.Hops.{reached_never}
use Rattle.pif_model_lemmas.proofs.Greatest.{reaches_same}
use Rattle.pif_model_lemmas.proofs.Cycles.{still_acyclic}
use Rattle.pif_model_lemmas.proofs.kernel.Parks.{parks_left}
use Rattle.pif_model_lemmas.proofs.kernel.Settled.{IsUnsettled, IsListed, effective_range, settled_kept, listed-from_kernel}
use Rattle.pif_model_lemmas.proofs.kernel.Facts.{mutex_below, waits_below, waited-status, queued-from_number, has_state-from_queued, waiter-from_state, state-from_waiter, living-same}
use Rattle.pif_model_lemmas.proofs.kernel.Levels.{length-left}
use Rattle.pif_model_lemmas.proofs.kernel.Queues.{pairs-without_other}
use Rattle.pif_model_lemmas.proofs.kernel.Listed.{listed-left}

module _ (t : ℕ) (k : Kernel) where
  -- the mutex on which t was queued, 0 for none
  abbrev pub mutex_left : ℕ
  mutex_left = queued_on (seat_at k t).status

  -- the queue without t
  abbrev pub waiters_left : List (ℕ × ℕ)
  waiters_left = without k.waiters t

  -- the owner that the owner state of that mutex names then
  abbrev owner_left : ℕ
  owner_left = if has_waiter waiters_left mutex_left then state_at k mutex_left else 0

module _ (x : Status) (t : ℕ) (k : Kernel) where
  -- the seat of t then
  abbrev seat : Seat
  seat = record (seat_at k t) { status = x }

  -- the mutex on which t was queued
  abbrev was_on : ℕ
  was_on = mutex_left t k

  -- the queue without t
  abbrev rest : List (ℕ × ℕ)
  rest = waiters_left t k

  -- the kernel before it is settled
  abbrev pub kernel_with_leaving : Kernel
  kernel_with_leaving =
      record (with_status t x (with_state was_on (owner_left t k) k)) {
        waiters = rest;
        parked = parkings_without k.parked t;
        levels = levels_without t k.levels;
      }

  -- the kernel after
  abbrev now : Kernel
  now = kernel_left_as x t k

  -- it is this one, settled
  pub left_is : kernel_left_as x t k ≡ with_effective_levels kernel_with_leaving
  unfolding kernel_left_as
  left_is = refl

  -- the limits are what they were
  pub limits-left : now.limits ≡ k.limits
  unfolding kernel_left_as
  limits-left = refl

  -- as many threads
  pub length-left_seats : length now.seats ≡ length k.seats
  unfolding kernel_left_as
  length-left_seats = length-set k.seats t seat

  -- a place for as many mutexes
  pub length-left_states : length now.states ≡ length k.states
  unfolding kernel_left_as
  length-left_states = length-set k.states was_on (owner_left t k)

  -- the same threads were added
  pub has-left : (u : ℕ) → has_seat now u ≡ has_seat k u
  has-left u = ap (λ n. if u == 0 then false else nat_lt u n) length-left_seats

  -- the others are as they were
  pub seat-left_other : (u : ℕ) → u ≢ t → seat_at now u ≡ seat_at k u
  unfolding kernel_left_as
  seat-left_other u d = get_or-set_other k.seats t u seat no_seat d

  -- t has that status
  pub seat-left_same : has_seat k t ≡ true → seat_at now t ≡ record (seat_at k t) { status = x }
  unfolding kernel_left_as
  seat-left_same added = get_or-set_same k.seats t seat no_seat (within t (length k.seats) added).1

  -- and no other part of it has changed
  pub status-left_same : has_seat k t ≡ true → (seat_at now t).status ≡ x
  status-left_same added = ap (λ (y : Seat). y.status) (seat-left_same added)

  -- that of the others
  pub status-left_other : (u : ℕ) → u ≢ t → (seat_at now u).status ≡ (seat_at k u).status
  status-left_other u d = ap (λ (y : Seat). y.status) (seat-left_other u d)

  -- each has the base priority that it had
  pub base-left : (u : ℕ) → (seat_at now u).base ≡ (seat_at k u).base
  unfolding kernel_left_as
  base-left u = kept_at (λ (y : Seat). y.base) k.seats t seat no_seat refl u

  -- the others live if they did
  pub living-left_other : (u : ℕ) → u ≢ t → is_living now u ≡ is_living k u
  living-left_other u d = living-same k now u (has-left u) (seat-left_other u d)

  -- t does unless that status is that of an ended thread
  pub living-left_same : has_seat k t ≡ true → is_living now t ≡ (if has_ended x then false else true)
  living-left_same added = rw (has-left t ∙ added, status-left_same added) refl

  -- t is not in the queue
  pub waiters-left : now.waiters ≡ rest
  unfolding kernel_left_as
  waiters-left = refl

  -- nor among the parked
  pub parked-left : now.parked ≡ parkings_without k.parked t
  unfolding kernel_left_as
  parked-left = refl

  -- the other owner states are as they were
  pub state-left_other : (i : ℕ) → i ≢ was_on → state_at now i ≡ state_at k i
  unfolding kernel_left_as
  state-left_other i d = get_or-set_other k.states was_on i (owner_left t k) 0 d

  module _ (h : IsKernel k) where
    -- there is a place for the mutex on which t was queued
    was_on-below : was_on < 1025
    was_on-below = go (cases_eq was_on 0)
      where
        go : (was_on ≡ 0) ⊎ (was_on ≢ 0) → was_on < 1025
        go (inl z) = omega arith
        go (inr d) = mutex_below k h was_on (has_state-from_queued k h t was_on d refl)

    -- its owner state stays if others are queued on it
    pub state-left_same : state_at now was_on
        ≡ (if has_waiter rest was_on then state_at k was_on else 0)
    unfolding kernel_left_as
    state-left_same =
        get_or-set_same k.states was_on (owner_left t k) 0 (omega (arith, h.shape.states, was_on-below))

    -- the other mutexes keep their waiters
    pub waiter-left_other : (i : ℕ) → i ≢ was_on → has_waiter rest i ≡ has_waiter k.waiters i
    waiter-left_other i d = has_waiter-without_other k.waiters t was_on i h.once (waited-status k h t) d

    -- no mutex has a waiter that had none
    pub waiter-left_before : (i : ℕ) → has_waiter rest i ≡ true → has_waiter k.waiters i ≡ true
    waiter-left_before i e = go (cases_Bool (has_waiter k.waiters i))
      where
        go : (has_waiter k.waiters i ≡ true) ⊎ (has_waiter k.waiters i ≡ false) → has_waiter k.waiters i ≡ true
        go (inl x) = x
        go (inr x) = absurd (true≢false (sym e ∙ has_waiter-without_none k.waiters t i x))

    -- an owner state stays exactly if others than t are queued
    pub state-left : (i : ℕ) → state_at now i ≡ (if has_waiter rest i then state_at k i else 0)
    state-left i = go (cases_eq i was_on) (cases_Bool (has_waiter k.waiters i)) (cases_eq (state_at k i) 0)
      where
        go : (i ≡ was_on) ⊎ (i ≢ was_on)
            → (has_waiter k.waiters i ≡ true) ⊎ (has_waiter k.waiters i ≡ false)
            → (state_at k i ≡ 0) ⊎ (state_at k i ≢ 0)
            → state_at now i ≡ (if has_waiter rest i then state_at k i else 0)
        go (inl e) c z =
            subst (λ j. state_at now j ≡ (if has_waiter rest j then state_at k j else 0)) (sym e)
            state-left_same
        go (inr d) (inl y) z = state-left_other i d ∙ rw (waiter-left_other i d ∙ y) refl
        go (inr d) (inr n) (inl z) = state-left_other i d ∙ rw (waiter-left_other i d ∙ n) z
        go (inr d) (inr n) (inr z) = absurd (true≢false (sym (waiter-from_state k h i z) ∙ n))

    -- a mutex on which others are queued has the owner state that it had
    pub state-left_kept : (i : ℕ) → has_waiter rest i ≡ true → state_at now i ≡ state_at k i
    state-left_kept i e = state-left i ∙ rw e refl

    -- and one that has an owner state has the one that it had
    pub state-left_some : (i : ℕ) → state_at now i ≢ 0 → state_at now i ≡ state_at k i
    state-left_some i d = go (cases_Bool (has_waiter rest i))
      where
        go : (has_waiter rest i ≡ true) ⊎ (has_waiter rest i ≡ false) → state_at now i ≡ state_at k i
        go (inl e) = state-left_kept i e
        go (inr e) = absurd (d (state-left i ∙ rw e refl))

    -- no mutex has the number 0
    pub no_mutex-left : state_at now 0 ≡ 0
    no_mutex-left = go (cases_Bool (has_waiter rest 0))
      where
        go : (has_waiter rest 0 ≡ true) ⊎ (has_waiter rest 0 ≡ false) → state_at now 0 ≡ 0
        go (inl e) = state-left_kept 0 e ∙ h.shape.no_mutex
        go (inr e) = state-left 0 ∙ rw e refl

    -- the mutex on which a thread was queued, 0 for none
    abbrev on : ℕ → ℕ
    on u = queued_on (seat_at k u).status

    -- the others wait for whom they waited
    pub waits-left_other : (u : ℕ) → u ≢ t → waits_for now u ≡ waits_for k u
    waits-left_other u d =
        ap (λ (y : Seat). state_at now (queued_on y.status)) (seat-left_other u d) ∙ go (cases_eq (on u) 0)
      where
        go : (on u ≡ 0) ⊎ (on u ≢ 0) → state_at now (on u) ≡ state_at k (on u)
        go (inl z) = ap (state_at now) z ∙ no_mutex-left ∙ sym (ap (state_at k) z ∙ h.shape.no_mutex)
        go (inr n) = state-left_kept (on u) (has_waiter-from_pair rest u (on u)
            (pairs-without_other k.waiters t u (on u) d
            ∙ h.queued u (on u) (queued-from_number (seat_at k u).status (on u) n refl)))

    module _ (added : has_seat k t ≡ true) (out : is_out x ≡ true) where
      -- t waits for nobody
      pub waits-left_same : waits_for now t ≡ 0
      waits-left_same =
          ap (λ y. state_at now (queued_on y)) (status-left_same added)
          ∙ ap (state_at now) (out-queued_on_nothing x out) ∙ no_mutex-left

      -- who is in the queue is queued
      is_queued : (u i : ℕ) → (pairs u i k.waiters ≡ true) × (u ≢ t) → (seat_at now u).status ≡ Queued i
      is_queued u i r = status-left_other u r.1 ∙ h.queue u i r.0

      -- and back
      in_queue : (u i : ℕ) → (u ≡ t) ⊎ (u ≢ t) → (seat_at now u).status ≡ Queued i → pairs u i rest ≡ true
      in_queue u i (inl e) q =
          absurd (true≢false (sym out
          ∙ ap is_out (sym (status-left_same added) ∙ ap (λ v. (seat_at now v).status) (sym e) ∙ q)))
      in_queue u i (inr d) q =
          pairs-without_other k.waiters t u i d ∙ h.queued u i (sym (status-left_other u d) ∙ q)

      -- there is an owner state exactly while threads are queued
      states : (i : ℕ) → (state_at now i == 0) ≡ (if has_waiter rest i then false else true)
      states i = go (cases_Bool (has_waiter rest i))
        where
          go : (has_waiter rest i ≡ true) ⊎ (has_waiter rest i ≡ false)
              → (state_at now i == 0) ≡ (if has_waiter rest i then false else true)
          go (inl e) =
              ap (λ x. x == 0) (state-left_kept i e)
              ∙ ne_eqb (state_at k i) 0 (state-from_waiter k h i (waiter-left_before i e)) ∙ rw e refl
          go (inr e) = eq-eqb (state_at now i) 0 (state-left i ∙ rw e refl) ∙ rw e refl

      -- of a thread that was added
      owners : (i : ℕ) → state_at now i ≢ 0 → has_seat now (state_at now i) ≡ true
      owners i x =
          has-left (state_at now i) ∙ ap (has_seat k) (state-left_some i x)
          ∙ h.owners i (λ z. x (state-left_some i x ∙ z))

      -- nobody reaches no other
      unreached : reaches_within (length k.seats) (waits_for k) 0 t ≡ false
      unreached =
          reached_never (length k.seats) (waits_for k) 0 t (λ e. (within t (length k.seats) added).0 (sym e))
          (ap (λ (y : Seat). state_at k (queued_on y.status)) h.shape.nobody ∙ h.shape.no_mutex)

      -- no chain closes
      acyclic : (u : ℕ) → waits_for now u ≢ 0
          → reaches_within (length now.seats) (waits_for now) (waits_for now u) u ≡ false
      acyclic u x =
          reaches_same _ _ _ _ _ _ u length-left_seats (λ y. refl) refl
          ∙ still_acyclic (waits_for k) (waits_for now) t 0 waits-left_other waits-left_same (length k.seats)
          (waits_below k h) (omega (arith, h.shape.some)) unreached h.acyclic u x

      -- all but the levels is kept
      unsettled-leaving : IsUnsettled kernel_with_leaving
      unfolding kernel_left_as
      unsettled-leaving = record {
        shape = record {
          some = subst (λ n. 1 ≤ n) (sym length-left_seats) h.shape.some;
          few = subst (λ n. n ≤ k.limits.threads + 1) (sym length-left_seats) h.shape.few;
          nobody = seat-left_other 0 (λ e. (within t (length k.seats) added).0 (sym e)) ∙ h.shape.nobody;
          priorities = λ u e. ap is_priority (base-left u) ∙ h.shape.priorities u (sym (has-left u) ∙ e);
          states = length-left_states ∙ h.shape.states;
          no_mutex = no_mutex-left;
          levels = length-left t k.levels ∙ h.shape.levels;
        };
        queue = λ u i e. is_queued u i (is_among-without k.waiters t u i e);
        queued = λ u i e. in_queue u i (cases_eq u t) e;
        once = once_without k.waiters t h.once;
        parking = parks_left k kernel_with_leaving t status-left_other h.parking refl
            (ap is_parked (status-left_same added) ∙ out-unparked x out);
        states = states;
        owners = owners;
        acyclic = acyclic;
      }

      -- the ready threads stand where they stood
      listed-leaving : IsListed kernel_with_leaving (effective_in k)
      unfolding kernel_left_as
      listed-leaving = listed-left k kernel_with_leaving t (effective_in k) (effective_in k) (λ u d. has-left u)
          status-left_other (λ u d. refl) (listed-from_kernel k h) refl
          (ap is_ready (status-left_same added) ∙ out-unready x out)
          (effective_range k h.shape t added)

      -- all is settled
      pub kernel-left : IsKernel (kernel_left_as x t k)
      unfolding kernel_left_as
      kernel-left = settled_kept kernel_with_leaving (effective_in k) unsettled-leaving listed-leaving
