-- A mutex is handed to a thread that is queued on it: the kernel keeps what it keeps.
use Rattle.std.proofs.Common.{◌≡◌, ◌≢◌, ◌⊎◌, ◌+◌, ℕ, ◌≤◌, Bool, true, false, ◌==◌, nat_lt, length, refl, sym, ap, ◌∙◌, subst, arith, if◌then◌else◌, eqb-true, eq-eqb, ne_eqb, true≢false, inl, inr, length-set, get_or-set_same, get_or-set_other}
use Rattle.std.proofs.lemmas.Bool.{cases_eq, eqb-false}
use Rattle.pif_model.specs.declared.lines.Status.TheVariants.{Ready, Queued}
use Rattle.pif_model.specs.declared.lines.Woken.TheVariants.{Owns as WokenOwns}
use Rattle.pif_model.specs.Graph.{is_priority, has_waiter, without, reaches_within}
use Rattle.pif_model.specs.PiKernel.{Kernel, Seat, IsKernel, IsKernelShaped, no_seat, seat_at, has_seat, state_at, waits_for, effective_in, queued_on, is_ready, is_parked, levels_with, with_status, with_state, kernel_after_hand_over}
use Rattle.pif_model_lemmas.proofs.Numbers.{within}
use Rattle.pif_model_lemmas.proofs.Places.{kept_at}
use Rattle.pif_model_lemmas.proofs.Among.{is_among-without}
use Rattle.pif_model_lemmas.proofs.Waiting.{pairs, once_without, has_waiter-without_other, has_waiter-from_pair}
use Rattle.pif_model_lemmas.proofs.Greatest.{reaches_same}
use Rattle.pif_model_lemmas.proofs.Cycles.{acyclic_handed}
use Rattle.pif_model_lemmas.proofs.kernel.Parks.{parks_kept}
use Rattle.pif_model_lemmas.proofs.kernel.Settled.{IsUnsettled, IsListed, effective_range, settled_kept, listed-from_kernel}
use Rattle.pif_model_lemmas.proofs.kernel.Facts.{mutex_below, some_mutex, waits_below, waited-status, queued-from_number, queued-unready, added-from_queued}
use Rattle.pif_model_lemmas.proofs.kernel.Levels.{length-joined}
use Rattle.pif_model_lemmas.proofs.kernel.Queues.{pairs-without_other}
use Rattle.pif_model_lemmas.proofs.kernel.Listed.{listed-joined, stands-unready}

module _ (u m : ℕ) (k : Kernel) where
  -- the seat of u then
  abbrev seat : Seat
  seat = record (seat_at k u) { status = Ready WokenOwns }

  -- the owner that the owner state of m names then
  abbrev pub state_handed : ℕ
  state_handed = if has_waiter (without k.waiters u) m then u else 0

  -- the kernel before u has joined a level
  abbrev pub kernel_with_owner : Kernel
  kernel_with_owner =
      record (with_status u (Ready WokenOwns) (with_state m state_handed k)) { waiters = without k.waiters u }

  -- the kernel before it is settled
  abbrev pub kernel_with_hand_over : Kernel
  kernel_with_hand_over = record kernel_with_owner { levels = levels_with u (effective_in kernel_with_owner u) k.levels }

  -- as many threads
  pub length-handed : length kernel_with_hand_over.seats ≡ length k.seats
  length-handed = length-set k.seats u seat

  -- the same threads were added
  pub has-handed : (v : ℕ) → has_seat kernel_with_hand_over v ≡ has_seat k v
  has-handed v = ap (λ n. if v == 0 then false else nat_lt v n) length-handed

  -- the others are as they were
  pub seat-handed_other : (v : ℕ) → v ≢ u → seat_at kernel_with_hand_over v ≡ seat_at k v
  seat-handed_other v d = get_or-set_other k.seats u v seat no_seat d

  -- u is ready
  pub seat-handed_same : has_seat k u ≡ true
      → seat_at kernel_with_hand_over u ≡ record (seat_at k u) { status = Ready WokenOwns }
  seat-handed_same added = get_or-set_same k.seats u seat no_seat (within u (length k.seats) added).1

  -- each has the base priority that it had
  pub base-handed : (v : ℕ) → (seat_at kernel_with_hand_over v).base ≡ (seat_at k v).base
  base-handed v = kept_at (λ (x : Seat). x.base) k.seats u seat no_seat refl v

  -- the other owner states are as they were
  pub state-handed_other : (i : ℕ) → i ≢ m → state_at kernel_with_hand_over i ≡ state_at k i
  state-handed_other i d = get_or-set_other k.states m i state_handed 0 d

  module _ (h : IsKernel k) (some : state_at k m ≢ 0) (queued : (seat_at k u).status ≡ Queued m) where
    -- u was added
    added : has_seat k u ≡ true
    added = added-from_queued k h.shape u m (some_mutex k h m some) (ap queued_on queued)

    -- the owner state of m names u, if others are queued on it
    pub state-handed_same : state_at kernel_with_hand_over m ≡ (if has_waiter (without k.waiters u) m then u else 0)
    state-handed_same =
        get_or-set_same k.states m state_handed 0 (omega (arith, h.shape.states, mutex_below k h m some))

    -- the status of u
    status-same : (seat_at kernel_with_hand_over u).status ≡ Ready WokenOwns
    status-same = ap (λ (x : Seat). x.status) (seat-handed_same added)

    -- who stands in the queue is queued
    is_queued : (v i : ℕ) → (pairs v i k.waiters ≡ true) × (v ≢ u) → (seat_at kernel_with_hand_over v).status ≡ Queued i
    is_queued v i r = ap (λ (x : Seat). x.status) (seat-handed_other v r.1) ∙ h.queue v i r.0

    -- and back
    in_queue : (v i : ℕ) → (v ≡ u) ⊎ (v ≢ u) → (seat_at kernel_with_hand_over v).status ≡ Queued i
        → pairs v i (without k.waiters u) ≡ true
    in_queue v i (inl e) q =
        let both : Ready WokenOwns ≡ Queued i = sym status-same
        ∙ ap (λ x. (seat_at kernel_with_hand_over x).status) (sym e) ∙ q in absurd (cc)
    in_queue v i (inr d) q =
        pairs-without_other k.waiters u v i d
        ∙ h.queued v i (sym (ap (λ (x : Seat). x.status) (seat-handed_other v d)) ∙ q)

    -- there is an owner state exactly while threads are queued
    states : (i : ℕ) → (i ≡ m) ⊎ (i ≢ m)
        → (state_at kernel_with_hand_over i == 0) ≡ (if has_waiter (without k.waiters u) i then false else true)
    states i (inl e) =
        subst (λ j. (state_at kernel_with_hand_over j == 0)
        ≡ (if has_waiter (without k.waiters u) j then false else true)) (sym e)
        (ap (λ x. x == 0) state-handed_same ∙ by_rest (has_waiter (without k.waiters u) m))
      where
        by_rest : (b : Bool) → ((if b then u else 0) == 0) ≡ (if b then false else true)
        by_rest true = ne_eqb u 0 (within u (length k.seats) added).0
        by_rest false = refl
    states i (inr d) =
        ap (λ x. x == 0) (state-handed_other i d) ∙ h.states i
        ∙ ap (λ b. if b then false else true)
        (sym (has_waiter-without_other k.waiters u m i h.once (waited-status k h u ∙ ap queued_on queued) d))

    -- of a thread that was added
    owners : (i : ℕ) → (i ≡ m) ⊎ (i ≢ m) → state_at kernel_with_hand_over i ≢ 0
        → has_seat kernel_with_hand_over (state_at kernel_with_hand_over i) ≡ true
    owners i (inl e) x =
        has-handed (state_at kernel_with_hand_over i) ∙ ap (has_seat k) is
        ∙ by_rest (has_waiter (without k.waiters u) m) (λ z. x (is ∙ z))
      where
        is : state_at kernel_with_hand_over i ≡ (if has_waiter (without k.waiters u) m then u else 0)
        is = ap (state_at kernel_with_hand_over) e ∙ state-handed_same

        by_rest : (b : Bool) → (if b then u else 0) ≢ 0 → has_seat k (if b then u else 0) ≡ true
        by_rest true y = added
        by_rest false y = absurd (y refl)
    owners i (inr d) x =
        has-handed (state_at kernel_with_hand_over i) ∙ ap (has_seat k) (state-handed_other i d)
        ∙ h.owners i (λ z. x (state-handed_other i d ∙ z))

    -- whether a thread was queued on m
    abbrev on : ℕ → Bool
    on v = queued_on (seat_at k v).status == m

    -- who was not waits for whom it waited
    pub waits-handed_other : (v : ℕ) → on v ≡ false → waits_for kernel_with_hand_over v ≡ waits_for k v
    waits-handed_other v e =
        ap (λ (x : Seat). state_at kernel_with_hand_over (queued_on x.status)) (seat-handed_other v other)
        ∙ state-handed_other (queued_on (seat_at k v).status) (eqb-false _ _ e)
      where
        other : v ≢ u
        other x = true≢false (sym (eq-eqb (queued_on (seat_at k u).status) m (ap queued_on queued)) ∙ ap on (sym x) ∙ e)

    -- who was waits for u
    pub waits-handed_moved : (v : ℕ) → on v ≡ true → v ≢ u → waits_for kernel_with_hand_over v ≡ u
    waits-handed_moved v e d =
        ap (λ (x : Seat). state_at kernel_with_hand_over (queued_on x.status)) (seat-handed_other v d)
        ∙ ap (state_at kernel_with_hand_over) is ∙ state-handed_same ∙ rw there refl
      where
        is : queued_on (seat_at k v).status ≡ m
        is = eqb-true (queued_on (seat_at k v).status) m e

        there : has_waiter (without k.waiters u) m ≡ true
        there = has_waiter-from_pair (without k.waiters u) v m
            (pairs-without_other k.waiters u v m d
            ∙ h.queued v m (queued-from_number (seat_at k v).status m (some_mutex k h m some) is))

    -- but for u, which waits for nobody
    pub waits-handed_same : waits_for kernel_with_hand_over u ≡ 0
    waits-handed_same =
        ap (λ x. state_at kernel_with_hand_over (queued_on x)) status-same
        ∙ state-handed_other 0 (λ e. some_mutex k h m some (sym e)) ∙ h.shape.no_mutex

    -- no chain closes
    acyclic : (v : ℕ) → waits_for kernel_with_hand_over v ≢ 0
        → reaches_within (length kernel_with_hand_over.seats) (waits_for kernel_with_hand_over)
        (waits_for kernel_with_hand_over v) v ≡ false
    acyclic v x =
        reaches_same _ _ _ _ _ _ v length-handed (λ y. refl) refl
        ∙ acyclic_handed (waits_for k)
        (waits_for kernel_with_hand_over) u on waits-handed_other waits-handed_moved waits-handed_same
        (length k.seats) (waits_below k h) h.acyclic v x

    -- the lists of the kernel
    shape-handed : IsKernelShaped kernel_with_hand_over
    shape-handed = record {
      some = subst (λ n. 1 ≤ n) (sym length-handed) h.shape.some;
      few = subst (λ n. n ≤ k.limits.threads + 1) (sym length-handed) h.shape.few;
      nobody = seat-handed_other 0 (λ e. (within u (length k.seats) added).0 (sym e)) ∙ h.shape.nobody;
      priorities = λ v e. ap is_priority (base-handed v) ∙ h.shape.priorities v (sym (has-handed v) ∙ e);
      states = length-set k.states m state_handed ∙ h.shape.states;
      no_mutex = state-handed_other 0 (λ e. some_mutex k h m some (sym e)) ∙ h.shape.no_mutex;
      levels = length-joined u (effective_in kernel_with_owner u) k.levels ∙ h.shape.levels;
    }

    -- all but the levels is kept
    unsettled-handed : IsUnsettled kernel_with_hand_over
    unsettled-handed = record {
      shape = shape-handed;
      queue = λ v i e. is_queued v i (is_among-without k.waiters u v i e);
      queued = λ v i e. in_queue v i (cases_eq v u) e;
      once = once_without k.waiters u h.once;
      parking = parks_kept k kernel_with_hand_over u (λ v d. ap (λ (x : Seat). x.status) (seat-handed_other v d))
          h.parking refl (ap is_parked queued) (ap is_parked status-same);
      states = λ i. states i (cases_eq i m);
      owners = λ i x. owners i (cases_eq i m) x;
      acyclic = acyclic;
    }

    -- where each stands then: u at its effective priority, and the others where they stood
    abbrev at : ℕ → ℕ
    at v = if v == u then effective_in kernel_with_owner u else effective_in k v

    -- each ready thread stands on one level
    listed-handed : IsListed kernel_with_hand_over at
    listed-handed =
        listed-joined k kernel_with_hand_over u (effective_in k) at (λ v d. has-handed v)
        (λ v d. ap (λ (x : Seat). x.status) (seat-handed_other v d))
        (λ v d. rw (ne_eqb v u d) refl) (listed-from_kernel k h)
        (effective_in kernel_with_owner u) h.shape.levels refl range.0 range.1
        (λ q. stands-unready k (effective_in k) u q (queued-unready (seat_at k u).status m queued)) (has-handed u
        ∙ added) (ap is_ready status-same)
        (rw (eq-eqb u u refl) refl)
      where
        range : (1 ≤ effective_in kernel_with_owner u) × (effective_in kernel_with_owner u ≤ 99)
        range = effective_range kernel_with_hand_over shape-handed u (has-handed u ∙ added)

    -- u is ready, and all is settled
    pub kernel-handed : IsKernel (kernel_after_hand_over u m k)
    unfolding kernel_after_hand_over
    kernel-handed = settled_kept kernel_with_hand_over at unsettled-handed listed-handed
