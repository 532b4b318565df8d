-- A thread is added: the kernel keeps what it keeps.
use Rattle.std.proofs.Common.{◌≡◌, ◌≢◌, ◌⊎◌, ◌<◌, ℕ, suc, ◌≤◌, true, false, ◌==◌, nat_lt, [], ◌∷◌, ◌++◌, length, refl, sym, ap, ◌∙◌, subst, arith, if◌then◌else◌, inl, inr}
use Rattle.std.proofs.Math.ListN.{get_or-append}
use Rattle.std.proofs.lemmas.Bool.{cases_eq, cases_lt, false_from_ne_true}
use Rattle.std.proofs.lemmas.Bool.Decides.{nat_tests}
use Rattle.std.proofs.lemmas.List.{get_or_past, get_or_push, length_push}
use Rattle.pif_model.specs.declared.lines.Status.TheVariants.{Ready}
use Rattle.pif_model.specs.declared.lines.Woken.TheVariants.{Fresh as WokenFresh}
use Rattle.pif_model.specs.Graph.{is_priority, effective_among, reaches_within}
use Rattle.pif_model.specs.PiKernel.{Kernel, Seat, IsKernel, no_seat, seat_at, has_seat, state_at, waits_for, effective_in, queued_on, is_ready, kernel_after_add}
use Rattle.pif_model_lemmas.proofs.Numbers.{within, from_within}
use Rattle.pif_model_lemmas.proofs.Greatest.{effective_same, reaches_same}
use Rattle.pif_model_lemmas.proofs.Chains.{reaches_with_more, effective_with_more, effective_of_more}
use Rattle.pif_model_lemmas.proofs.kernel.Settled.{IsUnsettled, IsListed, priority-range, listed-from_kernel, kernel-from_listed}
use Rattle.pif_model_lemmas.proofs.kernel.Parks.{parks_same}
use Rattle.pif_model_lemmas.proofs.kernel.Facts.{waits_below}
use Rattle.pif_model_lemmas.proofs.kernel.Levels.{length-joined}
use Rattle.pif_model_lemmas.proofs.kernel.Listed.{listed-joined, stands-unadded}

-- the seat of a new thread
abbrev pub new_seat : ℕ → Seat
new_seat p = record { base = p; status = Ready WokenFresh }

module _ (p : ℕ) (k : Kernel) where
  -- the kernel after
  abbrev now : Kernel
  now = kernel_after_add p k

  -- the number of the new thread
  abbrev last : ℕ
  last = length k.seats

  -- one thread more
  pub length-added : length now.seats ≡ suc last
  length-added = omega (arith, length_push k.seats (new_seat p))

  -- the others are as they were
  pub seat-added_other : (u : ℕ) → u ≢ last → seat_at now u ≡ seat_at k u
  seat-added_other u d = go (cases_lt u last)
    where
      go : (u < last) ⊎ (last ≤ u) → seat_at now u ≡ seat_at k u
      go (inl l) = get_or-append k.seats (new_seat p ∷ []) no_seat u l
      go (inr g) =
          get_or_past (k.seats ++ new_seat p ∷ []) u no_seat (omega (arith, length-added))
          ∙ sym (get_or_past k.seats u no_seat g)

  -- the new thread
  pub seat-added_same : seat_at now last ≡ record { base = p; status = Ready WokenFresh }
  seat-added_same = get_or_push k.seats (new_seat p) no_seat last refl

  -- there was nobody
  seat_before : seat_at k last ≡ no_seat
  seat_before = get_or_past k.seats last no_seat (omega arith)

  -- each has the status that it had
  pub status-added : (u : ℕ) → (seat_at now u).status ≡ (seat_at k u).status
  status-added u = go (cases_eq u last)
    where
      go : (u ≡ last) ⊎ (u ≢ last) → (seat_at now u).status ≡ (seat_at k u).status
      go (inl e) = subst (λ v. (seat_at now v).status ≡ (seat_at k v).status) (sym e)
          (ap (λ (x : Seat). x.status) seat-added_same ∙ ap (λ (x : Seat). x.status) (sym seat_before))
      go (inr d) = ap (λ (x : Seat). x.status) (seat-added_other u d)

  -- each waits for whom it waited
  pub waits-added : (u : ℕ) → waits_for now u ≡ waits_for k u
  waits-added u = ap (λ x. state_at k (queued_on x)) (status-added u)

  -- the others were added if they were
  pub has-added_other : (u : ℕ) → u ≢ last → has_seat now u ≡ has_seat k u
  has-added_other u d = ap (λ b. if u == 0 then false else b) same
    where
      same : nat_lt u (length now.seats) ≡ nat_lt u last
      same = grind (arith, nat_tests, length-added)

  -- the new thread was not added
  pub has-added_before : has_seat k last ≡ false
  has-added_before = false_from_ne_true (has_seat k last) (λ e. omega (arith, within last last e))

  module _ (h : IsKernel k) where
    -- it is now
    pub has-added_same : has_seat now last ≡ true
    has-added_same = from_within last (length now.seats) (omega (arith, h.shape.some)) (omega (arith, length-added))

    -- the bases of the others are as they were
    base_other : (u : ℕ) → u < last → (seat_at now u).base ≡ (seat_at k u).base
    base_other u l = ap (λ (x : Seat). x.base) (seat-added_other u (omega arith))

    -- the new thread waits for nobody
    waits_new : waits_for k last ≡ 0
    waits_new = ap (λ (x : Seat). state_at k (queued_on x.status)) seat_before ∙ h.shape.no_mutex

    -- effective priorities, by those among one thread more
    effective_more : (u : ℕ)
        → effective_in now u ≡ effective_among (suc last) (waits_for k) (λ v. (seat_at now v).base) u
    effective_more u = effective_same _ _ _ _ _ _ u length-added waits-added (λ v. refl)

    -- the others have the effective priority that they had
    pub effective-added_other : (u : ℕ) → u ≢ last → effective_in now u ≡ effective_in k u
    effective-added_other u d =
        effective_more u
        ∙ effective_with_more last (waits_for k) (waits_below k h) (λ v. (seat_at k v).base)
        (λ v. (seat_at now v).base) base_other waits_new u d

    -- the new thread has its base priority
    pub effective-added_same : effective_in now last ≡ p
    effective-added_same =
        effective_more last
        ∙ effective_of_more last (waits_for k) (waits_below k h) (λ v. (seat_at k v).base)
        (λ v. (seat_at now v).base) base_other waits_new
        ∙ ap (λ (x : Seat). x.base) seat-added_same

    module _ (ranged : is_priority p ≡ true) (room : length k.seats ≤ k.limits.threads) where
      -- each has a priority
      priority : (u : ℕ) → (u ≡ last) ⊎ (u ≢ last) → has_seat now u ≡ true → is_priority (seat_at now u).base ≡ true
      priority u (inl e) x =
          ap (λ v. is_priority (seat_at now v).base) e ∙ ap (λ (x : Seat). is_priority x.base) seat-added_same ∙ ranged
      priority u (inr d) x =
          ap (λ (x : Seat). is_priority x.base) (seat-added_other u d)
          ∙ h.shape.priorities u (sym (has-added_other u d) ∙ x)

      -- owners were added
      owner : (m : ℕ) → state_at k m ≢ 0 → has_seat now (state_at k m) ≡ true
      owner m n =
          let r = within (state_at k m) last (h.owners m n) in
          from_within (state_at k m) (length now.seats) r.0 (omega (arith, length-added, r.1))

      -- no chain closes
      acyclic : (u : ℕ) → waits_for now u ≢ 0
          → reaches_within (length now.seats) (waits_for now) (waits_for now u) u ≡ false
      acyclic u n =
          reaches_same _ _ _ _ _ _ u length-added waits-added (waits-added u)
          ∙ reaches_with_more last (waits_for k) (waits_below k h) (waits_for k u) u (waits_below k h u)
          ∙ h.acyclic u (λ z. n (waits-added u ∙ z))

      -- all but the levels is kept
      unsettled-added : IsUnsettled now
      unsettled-added = record {
        shape = record {
          some = omega (arith, length-added);
          few = omega (arith, length-added);
          nobody = seat-added_other 0 (omega (arith, h.shape.some)) ∙ h.shape.nobody;
          priorities = λ u x. priority u (cases_eq u last) x;
          states = h.shape.states;
          no_mutex = h.shape.no_mutex;
          levels = length-joined last p k.levels ∙ h.shape.levels;
        };
        queue = λ u m e. status-added u ∙ h.queue u m e;
        queued = λ u m e. h.queued u m (sym (status-added u) ∙ e);
        once = h.once;
        parking = parks_same k now refl status-added h.parking;
        states = h.states;
        owners = owner;
        acyclic = acyclic;
      }

      -- each ready thread stands at its effective priority
      listed-added : IsListed now (effective_in now)
      listed-added =
          listed-joined k now last (effective_in k) (effective_in now) has-added_other
          (λ u d. status-added u) effective-added_other
          (listed-from_kernel k h) p h.shape.levels refl (priority-range p ranged).0 (priority-range p ranged).1
          (λ q. stands-unadded k (effective_in k) last q has-added_before) has-added_same
          (ap (λ (x : Seat). is_ready x.status) seat-added_same)
          effective-added_same

      -- the new thread is ready, at the end of its level
      pub kernel-added : IsKernel now
      kernel-added = kernel-from_listed now unsettled-added listed-added
