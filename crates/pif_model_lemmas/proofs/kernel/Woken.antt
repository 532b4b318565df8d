-- A thread is taken from the variable on which it was parked: it is woken, or it is queued on its mutex. The kernel
-- keeps what it keeps, and what it has at each place then.
use Rattle.std.proofs.Common.{◌≡◌, ◌≢◌, ◌⊎◌, ℕ, zero, suc, ◌+◌, ◌<◌, ◌≤◌, true, false, cond, ◌==◌, nat_lt, List, [], ◌∷◌, ◌++◌, filter, get_or, set, length, refl, sym, ap, ◌∙◌, subst, arith, if◌then◌else◌, eq-eqb, inl, inr, length-set, get_or-set_same, get_or-set_other}
use Rattle.std.proofs.lemmas.Bool.{cases_eq}
use Rattle.std.proofs.lemmas.List.{set-set}
use Rattle.pif_model.specs.declared.lines.Status.TheVariants.{Ready, Queued, Parked}
use Rattle.pif_model.specs.declared.lines.Woken.{Woken}
use Rattle.pif_model.specs.declared.lines.Woken.TheVariants.{Again as WokenAgain}
use Rattle.pif_model.specs.Graph.{is_priority, reaches_within}
use Rattle.pif_model.specs.PiKernel.{Kernel, Seat, IsKernel, no_seat, seat_at, has_seat, state_at, waits_for, effective_in, queued_on, is_ready, is_parked, parkings_without, parked_pairs, has_parked, top_parked, levels_with, levels_without, with_effective_levels, without_parking, kernel_after_queueing, kernel_after_waking}
use Rattle.pif_model_lemmas.proofs.Numbers.{within}
use Rattle.pif_model_lemmas.proofs.Places.{kept_at}
use Rattle.pif_model_lemmas.proofs.kernel.Statuses.{not_parked}
use Rattle.pif_model_lemmas.proofs.Waiting.{by_test, next-is_waiter}
use Rattle.pif_model_lemmas.proofs.Greatest.{effective_same, reaches_same}
use Rattle.pif_model_lemmas.proofs.kernel.Numbers.{is_other}
use Rattle.pif_model_lemmas.proofs.kernel.Parks.{parks_left}
use Rattle.pif_model_lemmas.proofs.kernel.Settled.{IsUnsettled, effective_range, kernel-from_listed, listed-from_kernel}
use Rattle.pif_model_lemmas.proofs.kernel.Facts.{seat-unadded, not_queued}
use Rattle.pif_model_lemmas.proofs.kernel.Listed.{listed-joined, stands-unready}
use Rattle.pif_model_lemmas.proofs.kernel.Levels.{length-joined}
use Rattle.pif_model_lemmas.proofs.kernel.Queued.{kernel-queued}

-- WHO IS PARKED

module _ (k : Kernel) (h : IsKernel k) where
  -- who is parked was added
  pub added-from_parked : (u c : ℕ) → (seat_at k u).status ≡ Parked c → has_seat k u ≡ true
  added-from_parked u c e = by_test (λ b. has_seat k u ≡ b → b ≡ true) (has_seat k u) (λ _ _. refl)
      (λ x _. absurd (not_parked no_seat.status c refl
      (sym (ap (λ (y : Seat). y.status) (seat-unadded k h.shape u x)) ∙ e)))
      refl

  -- the thread that is taken next from a variable is parked on it
  pub top-parked : (c : ℕ) → has_parked k c ≡ true → (seat_at k (top_parked k c)).status ≡ Parked c
  top-parked c e =
      h.parking.status (top_parked k c) c (next-is_waiter (effective_in k) (parked_pairs k.parked) c e)

  -- and was added
  pub top-added : (c : ℕ) → has_parked k c ≡ true → has_seat k (top_parked k c) ≡ true
  top-added c e = added-from_parked (top_parked k c) c (top-parked c e)

-- WAKING

module _ (u : ℕ) (w : Woken) (k : Kernel) where
  -- the seat of u then
  abbrev seat : Seat
  seat = record (seat_at k u) { status = Ready w }

  -- the kernel after
  abbrev now : Kernel
  now = kernel_after_waking u w k

  -- the limits are what they were
  pub woken_limits : now.limits ≡ k.limits
  unfolding kernel_after_waking
  woken_limits = refl

  -- as many threads
  pub woken_length : length now.seats ≡ length k.seats
  unfolding kernel_after_waking
  woken_length = length-set k.seats u seat

  -- the same threads were added
  pub woken_has : (v : ℕ) → has_seat now v ≡ has_seat k v
  woken_has v = ap (λ n. if v == 0 then false else nat_lt v n) woken_length

  -- the other threads are as they were
  pub woken_seat_other : (v : ℕ) → v ≢ u → seat_at now v ≡ seat_at k v
  unfolding kernel_after_waking
  woken_seat_other v d = get_or-set_other k.seats u v seat no_seat d

  -- u may run
  pub woken_seat_same : has_seat k u ≡ true → seat_at now u ≡ record (seat_at k u) { status = Ready w }
  unfolding kernel_after_waking
  woken_seat_same added = get_or-set_same k.seats u seat no_seat (within u (length k.seats) added).1

  -- the others have the status that they had
  pub woken_status_other : (v : ℕ) → v ≢ u → (seat_at now v).status ≡ (seat_at k v).status
  woken_status_other v d = ap (λ (y : Seat). y.status) (woken_seat_other v d)

  -- each has the base priority that it had
  pub woken_base : (v : ℕ) → (seat_at now v).base ≡ (seat_at k v).base
  unfolding kernel_after_waking
  woken_base v = kept_at (λ (y : Seat). y.base) k.seats u seat no_seat refl v

  -- owner states are as they were
  pub woken_state : (i : ℕ) → state_at now i ≡ state_at k i
  unfolding kernel_after_waking
  woken_state i = refl

  -- and so is the queue
  pub woken_waiters : now.waiters ≡ k.waiters
  unfolding kernel_after_waking
  woken_waiters = refl

  -- u is not among the parked
  pub woken_parked : now.parked ≡ parkings_without k.parked u
  unfolding kernel_after_waking
  woken_parked = refl

  -- u has joined its level
  pub woken_levels : now.levels ≡ levels_with u (effective_in k u) k.levels
  unfolding kernel_after_waking
  woken_levels = refl

  module _ (unqueued : queued_on (seat_at k u).status ≡ 0) where
    -- each waits for whom it waited
    pub woken_waits : (v : ℕ) → waits_for now v ≡ waits_for k v
    unfolding kernel_after_waking
    woken_waits v =
        ap (state_at k) (kept_at (λ (y : Seat). queued_on y.status) k.seats u seat no_seat (sym unqueued) v)

    -- each has its effective priority
    pub woken_effective : (v : ℕ) → effective_in now v ≡ effective_in k v
    woken_effective v = effective_same _ _ _ _ _ _ v woken_length woken_waits woken_base

  -- u neither ran nor was queued
  module _ (h : IsKernel k) (added : has_seat k u ≡ true) (unready : is_ready (seat_at k u).status ≡ false)
      (unqueued : queued_on (seat_at k u).status ≡ 0) where
    -- who was queued is
    is_queued : (v m : ℕ) → (v ≡ u) ⊎ (v ≢ u) → (seat_at k v).status ≡ Queued m → (seat_at now v).status ≡ Queued m
    is_queued v m (inl e) q =
        absurd (not_queued k h u m unqueued (ap (λ y. (seat_at k y).status) (sym e) ∙ q))
    is_queued v m (inr n) q = woken_status_other v n ∙ q

    -- and back
    was_queued : (v m : ℕ) → (v ≡ u) ⊎ (v ≢ u) → (seat_at now v).status ≡ Queued m → (seat_at k v).status ≡ Queued m
    was_queued v m (inl e) q =
        let both : Ready w ≡ Queued m = sym (ap (λ (y : Seat). y.status) (woken_seat_same added))
        ∙ sym (ap (λ y. (seat_at now y).status) e) ∙ q in absurd (cc)
    was_queued v m (inr n) q = sym (woken_status_other v n) ∙ q

    -- all but the levels is kept
    unsettled-woken : IsUnsettled now
    unfolding kernel_after_waking
    unsettled-woken = record {
      shape = record {
        some = subst (λ n. 1 ≤ n) (sym woken_length) h.shape.some;
        few = subst (λ n. n ≤ k.limits.threads + 1) (sym woken_length) h.shape.few;
        nobody = woken_seat_other 0 (λ e. (within u (length k.seats) added).0 (sym e)) ∙ h.shape.nobody;
        priorities = λ v e. ap is_priority (woken_base v) ∙ h.shape.priorities v (sym (woken_has v) ∙ e);
        states = h.shape.states;
        no_mutex = h.shape.no_mutex;
        levels = length-joined u (effective_in k u) k.levels ∙ h.shape.levels;
      };
      queue = λ v m e. is_queued v m (cases_eq v u) (h.queue v m e);
      queued = λ v m e. h.queued v m (was_queued v m (cases_eq v u) e);
      once = h.once;
      parking = parks_left k now u woken_status_other h.parking woken_parked
          (ap (λ (y : Seat). is_parked y.status) (woken_seat_same added));
      states = h.states;
      owners = λ m n. woken_has (state_at k m) ∙ h.owners m n;
      acyclic = λ v n. reaches_same _ _ _ _ _ _ v woken_length (woken_waits unqueued) (woken_waits unqueued v)
          ∙ h.acyclic v (λ z. n (woken_waits unqueued v ∙ z));
    }

    -- u is ready, at the end of its level
    pub kernel-roused : IsKernel now
    kernel-roused = kernel-from_listed now unsettled-woken
        (listed-joined k now u (effective_in k) (effective_in now) (λ v d. woken_has v)
        woken_status_other (λ v d. woken_effective unqueued v) (listed-from_kernel k h)
        (effective_in k u) h.shape.levels woken_levels
        (effective_range k h.shape u added).0 (effective_range k h.shape u added).1
        (λ q. stands-unready k (effective_in k) u q unready)
        (woken_has u ∙ added) (ap (λ (y : Seat). is_ready y.status) (woken_seat_same added))
        (woken_effective unqueued u))

  -- the same of a thread that was parked
  pub kernel-woken : IsKernel k → (c : ℕ) → (seat_at k u).status ≡ Parked c → IsKernel now
  kernel-woken h c was = kernel-roused h (added-from_parked k h u c was) (ap is_ready was) (ap queued_on was)

-- QUEUEING

-- one that has joined the end of a list and has left it
left-push : (xs : List ℕ) (u : ℕ) → filter (is_other u) (xs ++ u ∷ []) ≡ filter (is_other u) xs
left-push [] u = rw (eq-eqb u u refl) refl
left-push (x ∷ xs) u =
    by_test (λ b. cond b (x ∷ filter (is_other u) (xs ++ u ∷ [])) (filter (is_other u) (xs ++ u ∷ []))
    ≡ cond b (x ∷ filter (is_other u) xs) (filter (is_other u) xs)) (is_other u x)
    (λ e. ap (λ ys. x ∷ ys) (left-push xs u)) (λ e. left-push xs u)

-- one that has joined a level and has left it
left-joined : (levels : List (List ℕ)) (u p : ℕ) → levels_without u (levels_with u p levels) ≡ levels_without u levels
left-joined [] u p = refl
left-joined (x ∷ xs) u zero = ap (λ y. y ∷ levels_without u xs) (left-push x u)
left-joined (x ∷ xs) u (suc p) = ap (λ ys. filter (is_other u) x ∷ ys) (left-joined xs u p)

module _ (u m n : ℕ) (k : Kernel) where
  -- the kernel with these threads and levels, before it is settled
  abbrev unsettled_with : List Seat → List (List ℕ) → Kernel
  unsettled_with ss ls = record {
    limits = k.limits;
    seats = ss;
    states = set k.states m n;
    waiters = k.waiters ++ (u, m) ∷ [];
    parked = parkings_without k.parked u;
    levels = ls;
  }

  -- the kernel after u has left its variable and is queued
  abbrev after_taking_queued : Kernel
  after_taking_queued = kernel_after_queueing u m n (without_parking u k)

  -- the owner state of m names n
  pub requeued_state_same : IsKernel k → m < 1025 → state_at after_taking_queued m ≡ n
  unfolding kernel_after_queueing
  requeued_state_same h few = get_or-set_same k.states m n 0 (omega (arith, h.shape.states))

  -- u is not among the parked
  pub requeued_parked : after_taking_queued.parked ≡ parkings_without k.parked u
  unfolding kernel_after_queueing
  requeued_parked = refl

  -- the seat of u, if it is woken before
  abbrev seat_woken : Woken → Seat
  seat_woken w = record (seat_at k u) { status = Ready w }

  -- it is the same if u was woken before
  pub requeued_as_woken : (w : Woken) → has_seat k u ≡ true
      → after_taking_queued ≡ kernel_after_queueing u m n (kernel_after_waking u w k)
  unfolding kernel_after_queueing kernel_after_waking
  requeued_as_woken w added =
      λ i. with_effective_levels (unsettled_with (seats i) (sym (left-joined k.levels u (effective_in k u)) i))
    where
      is_between : get_or (set k.seats u (seat_woken w)) u no_seat ≡ seat_woken w
      is_between = get_or-set_same k.seats u (seat_woken w) no_seat (within u (length k.seats) added).1

      seats : set k.seats u (record (seat_at k u) { status = Queued m })
          ≡ set (set k.seats u (seat_woken w)) u
          (record (get_or (set k.seats u (seat_woken w)) u no_seat) { status = Queued m })
      seats =
          sym (ap (λ (y : Seat). set (set k.seats u (seat_woken w)) u (record y { status = Queued m })) is_between
          ∙ set-set k.seats u (seat_woken w) (record (seat_at k u) { status = Queued m }))

  -- u is queued, and all is settled
  pub kernel-requeued : (h : IsKernel k) (c : ℕ) → (seat_at k u).status ≡ Parked c → m ≢ 0 → m < 1025
      → has_seat k n ≡ true → (state_at k m ≢ 0 → state_at k m ≡ n)
      → reaches_within (length k.seats) (waits_for k) n u ≡ false → IsKernel after_taking_queued
  kernel-requeued h c was some few owner agrees free =
      subst IsKernel (sym (requeued_as_woken WokenAgain added))
      (kernel-queued u m n (kernel_after_waking u WokenAgain k) (kernel-woken u _ k h c was) (woken_has u _ k u ∙ added)
      (ap (λ (y : Seat). is_ready y.status) (woken_seat_same u _ k added)) some few
      (woken_has u _ k n ∙ owner) (λ z. woken_state u _ k m ∙ agrees (λ y. z (woken_state u _ k m ∙ y)))
      (reaches_same _ _ _ _ _ _ u (woken_length u _ k) (woken_waits u _ k (ap queued_on was)) refl ∙ free))
    where
      added : has_seat k u ≡ true
      added = added-from_parked k h u c was
