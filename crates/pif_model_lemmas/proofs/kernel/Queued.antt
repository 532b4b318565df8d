-- A thread is queued on a mutex: the kernel keeps what it keeps.
use Rattle.std.proofs.Common.{◌≡◌, ◌≢◌, ◌⊎◌, ◌+◌, ◌<◌, ℕ, ◌≤◌, true, false, ◌||◌, ◌==◌, nat_lt, [], ◌∷◌, ◌++◌, length, refl, sym, ap, ◌∙◌, subst, arith, if◌then◌else◌, eq-eqb, ne_eqb, true≢false, inl, inr, length-set, get_or-set_same, get_or-set_other}
use Rattle.std.proofs.lemmas.Bool.{cases_eq}
use Rattle.pif_model.specs.declared.lines.Status.TheVariants.{Queued}
use Rattle.pif_model.specs.Graph.{is_priority, has_waiter, reaches_within}
use Rattle.pif_model.specs.PiKernel.{Kernel, Seat, IsKernel, no_seat, seat_at, has_seat, state_at, waits_for, effective_in, queued_on, is_ready, is_parked, levels_without, with_status, with_state, kernel_after_queueing}
use Rattle.pif_model_lemmas.proofs.Numbers.{within}
use Rattle.pif_model_lemmas.proofs.Places.{kept_at}
use Rattle.pif_model_lemmas.proofs.Among.{is_among_push}
use Rattle.pif_model_lemmas.proofs.Waiting.{pairs, once_push, has_waiter-push, or_true, or_false}
use Rattle.pif_model_lemmas.proofs.Greatest.{reaches_same}
use Rattle.pif_model_lemmas.proofs.Cycles.{still_acyclic}
use Rattle.pif_model_lemmas.proofs.kernel.Statuses.{ready-unparked}
use Rattle.pif_model_lemmas.proofs.kernel.Parks.{parks_kept}
use Rattle.pif_model_lemmas.proofs.kernel.Settled.{IsUnsettled, IsListed, effective_range, settled_kept, listed-from_kernel}
use Rattle.pif_model_lemmas.proofs.kernel.Facts.{waits_below, unnamed-from_ready, has_state-from_queued}
use Rattle.pif_model_lemmas.proofs.kernel.Levels.{length-left}
use Rattle.pif_model_lemmas.proofs.kernel.Queues.{pairs-push}
use Rattle.pif_model_lemmas.proofs.kernel.Listed.{listed-left}

module _ (t m n : ℕ) (k : Kernel) where
  -- the seat of t then
  abbrev seat : Seat
  seat = record (seat_at k t) { status = Queued m }

  -- the kernel before it is settled
  abbrev pub kernel_with_queueing : Kernel
  kernel_with_queueing =
      record (with_status t (Queued m) (with_state m n k)) {
        waiters = k.waiters ++ (t, m) ∷ [];
        levels = levels_without t k.levels;
      }

  -- as many threads
  pub length-queueing : length kernel_with_queueing.seats ≡ length k.seats
  length-queueing = length-set k.seats t seat

  -- the same threads were added
  pub has-queueing : (u : ℕ) → has_seat kernel_with_queueing u ≡ has_seat k u
  has-queueing u = ap (λ n. if u == 0 then false else nat_lt u n) length-queueing

  -- the others are as they were
  pub seat-queueing_other : (u : ℕ) → u ≢ t → seat_at kernel_with_queueing u ≡ seat_at k u
  seat-queueing_other u d = get_or-set_other k.seats t u seat no_seat d

  -- t is queued
  pub seat-queueing_same : has_seat k t ≡ true
      → seat_at kernel_with_queueing t ≡ record (seat_at k t) { status = Queued m }
  seat-queueing_same added = get_or-set_same k.seats t seat no_seat (within t (length k.seats) added).1

  -- each has the base priority that it had
  pub base-queueing : (u : ℕ) → (seat_at kernel_with_queueing u).base ≡ (seat_at k u).base
  base-queueing u = kept_at (λ (x : Seat). x.base) k.seats t seat no_seat refl u

  -- the other owner states are as they were
  pub state-queueing_other : (i : ℕ) → i ≢ m → state_at kernel_with_queueing i ≡ state_at k i
  state-queueing_other i d = get_or-set_other k.states m i n 0 d

  module _ (h : IsKernel k) (added : has_seat k t ≡ true) (ready : is_ready (seat_at k t).status ≡ true)
      (some : m ≢ 0) (few : m < 1025)
      (owner : has_seat k n ≡ true) (agrees : state_at k m ≢ 0 → state_at k m ≡ n)
      (free : reaches_within (length k.seats) (waits_for k) n t ≡ false) where
    -- the owner state of m names n
    pub state-queueing_same : state_at kernel_with_queueing m ≡ n
    state-queueing_same = get_or-set_same k.states m n 0 (omega (arith, h.shape.states))

    -- the status of t
    status-same : (seat_at kernel_with_queueing t).status ≡ Queued m
    status-same = ap (λ (x : Seat). x.status) (seat-queueing_same added)

    -- who stands in the queue is queued
    is_queued : (u i : ℕ) → (u ≡ t) ⊎ (u ≢ t) → (pairs u i k.waiters ≡ true) ⊎ ((t ≡ u) × (m ≡ i))
        → (seat_at kernel_with_queueing u).status ≡ Queued i
    is_queued u i c (inr e) = ap (λ v. (seat_at kernel_with_queueing v).status) (sym e.0) ∙ status-same ∙ ap Queued e.1
    is_queued u i (inl e) (inl q) =
        absurd (true≢false (sym ready ∙ ap (λ v. is_ready (seat_at k v).status) (sym e) ∙ ap is_ready (h.queue u i q)))
    is_queued u i (inr d) (inl q) = ap (λ (x : Seat). x.status) (seat-queueing_other u d) ∙ h.queue u i q

    -- one in the queue stays there
    pairs-more : (u i : ℕ) → pairs u i k.waiters ≡ true → pairs u i (k.waiters ++ (t, m) ∷ []) ≡ true
    pairs-more u i e = pairs-push k.waiters t m u i ∙ ap (λ b. b || (if t == u then m == i else false)) e

    -- and back
    in_queue : (u i : ℕ) → (u ≡ t) ⊎ (u ≢ t) → (seat_at kernel_with_queueing u).status ≡ Queued i
        → pairs u i (k.waiters ++ (t, m) ∷ []) ≡ true
    in_queue u i (inl e) q =
        let same : Queued m ≡ Queued i = sym status-same ∙ ap (λ v. (seat_at kernel_with_queueing v).status) (sym e)
        ∙ q in
        pairs-push k.waiters t m u i
        ∙ ap (λ b. pairs u i k.waiters || b) (rw (eq-eqb t u (sym e)) (eq-eqb m i (ap queued_on same)))
        ∙ or_true (pairs u i k.waiters)
    in_queue u i (inr d) q =
        pairs-more u i (h.queued u i (sym (ap (λ (x : Seat). x.status) (seat-queueing_other u d)) ∙ q))

    -- there is an owner state exactly while threads are queued
    states : (i : ℕ) → (i ≡ m) ⊎ (i ≢ m)
        → (state_at kernel_with_queueing i == 0) ≡ (if has_waiter (k.waiters ++ (t, m) ∷ []) i then false else true)
    states i (inl e) =
        ap (λ j. state_at kernel_with_queueing j == 0) e ∙ ap (λ x. x == 0) state-queueing_same
        ∙ ne_eqb n 0 (within n (length k.seats) owner).0
        ∙ sym (ap (λ b. if b then false else true) (has_waiter-push k.waiters t m i
        ∙ ap (λ b. has_waiter k.waiters i || b) (eq-eqb m i (sym e)) ∙ or_true (has_waiter k.waiters i)))
    states i (inr d) =
        ap (λ x. x == 0) (state-queueing_other i d) ∙ h.states i
        ∙ sym (ap (λ b. if b then false else true) (has_waiter-push k.waiters t m i
        ∙ ap (λ b. has_waiter k.waiters i || b) (ne_eqb m i (λ e. d (sym e))) ∙ or_false (has_waiter k.waiters i)))

    -- of a thread that was added
    owners : (i : ℕ) → (i ≡ m) ⊎ (i ≢ m) → state_at kernel_with_queueing i ≢ 0
        → has_seat kernel_with_queueing (state_at kernel_with_queueing i) ≡ true
    owners i (inl e) x =
        has-queueing (state_at kernel_with_queueing i)
        ∙ ap (has_seat k) (ap (state_at kernel_with_queueing) e ∙ state-queueing_same) ∙ owner
    owners i (inr d) x =
        has-queueing (state_at kernel_with_queueing i) ∙ ap (has_seat k) (state-queueing_other i d)
        ∙ h.owners i (λ z. x (state-queueing_other i d ∙ z))

    -- t waits for n
    pub waits-queueing_same : waits_for kernel_with_queueing t ≡ n
    waits-queueing_same = ap (λ x. state_at kernel_with_queueing (queued_on x)) status-same ∙ state-queueing_same

    -- the others wait for whom they waited
    pub waits-queueing_other : (u : ℕ) → u ≢ t → waits_for kernel_with_queueing u ≡ waits_for k u
    waits-queueing_other u d =
        ap (λ (x : Seat). state_at kernel_with_queueing (queued_on x.status)) (seat-queueing_other u d)
        ∙ by_mutex (cases_eq (queued_on (seat_at k u).status) m)
      where
        by_mutex : (queued_on (seat_at k u).status ≡ m) ⊎ (queued_on (seat_at k u).status ≢ m)
            → state_at kernel_with_queueing (queued_on (seat_at k u).status)
            ≡ state_at k (queued_on (seat_at k u).status)
        by_mutex (inl e) =
            ap (state_at kernel_with_queueing) e ∙ state-queueing_same
            ∙ sym (agrees (has_state-from_queued k h u m some e)) ∙ ap (state_at k) (sym e)
        by_mutex (inr e) = state-queueing_other (queued_on (seat_at k u).status) e

    -- no chain closes
    acyclic : (u : ℕ) → waits_for kernel_with_queueing u ≢ 0
        → reaches_within (length kernel_with_queueing.seats) (waits_for kernel_with_queueing)
        (waits_for kernel_with_queueing u) u ≡ false
    acyclic u x =
        reaches_same _ _ _ _ _ _ u length-queueing (λ y. refl) refl
        ∙ still_acyclic (waits_for k) (waits_for kernel_with_queueing) t n waits-queueing_other waits-queueing_same
        (length k.seats) (waits_below k h)
        (within n (length k.seats) owner).1 free h.acyclic u x

    -- all but the levels is kept
    unsettled-queueing : IsUnsettled kernel_with_queueing
    unsettled-queueing = record {
      shape = record {
        some = subst (λ n. 1 ≤ n) (sym length-queueing) h.shape.some;
        few = subst (λ n. n ≤ k.limits.threads + 1) (sym length-queueing) h.shape.few;
        nobody = seat-queueing_other 0 (λ e. (within t (length k.seats) added).0 (sym e)) ∙ h.shape.nobody;
        priorities = λ u e. ap is_priority (base-queueing u) ∙ h.shape.priorities u (sym (has-queueing u) ∙ e);
        states = length-set k.states m n ∙ h.shape.states;
        no_mutex = state-queueing_other 0 (λ e. some (sym e)) ∙ h.shape.no_mutex;
        levels = length-left t k.levels ∙ h.shape.levels;
      };
      queue = λ u i e. is_queued u i (cases_eq u t) (is_among_push k.waiters t m u i e);
      queued = λ u i e. in_queue u i (cases_eq u t) e;
      once = once_push k.waiters (t, m) (unnamed-from_ready k h t ready) h.once;
      parking = parks_kept k kernel_with_queueing t (λ u d. ap (λ (x : Seat). x.status) (seat-queueing_other u d))
          h.parking refl (ready-unparked (seat_at k t).status ready) (ap is_parked status-same);
      states = λ i. states i (cases_eq i m);
      owners = λ i x. owners i (cases_eq i m) x;
      acyclic = acyclic;
    }

    -- the ready threads stand where they stood
    listed-queueing : IsListed kernel_with_queueing (effective_in k)
    listed-queueing = listed-left k kernel_with_queueing t (effective_in k) (effective_in k) (λ u d. has-queueing u)
        (λ u d. ap (λ (x : Seat). x.status) (seat-queueing_other u d)) (λ u d. refl) (listed-from_kernel k h) refl
        (ap is_ready status-same) (effective_range k h.shape t added)

    -- t is queued, and all is settled
    pub kernel-queued : IsKernel (kernel_after_queueing t m n k)
    unfolding kernel_after_queueing
    kernel-queued = settled_kept kernel_with_queueing (effective_in k) unsettled-queueing listed-queueing
