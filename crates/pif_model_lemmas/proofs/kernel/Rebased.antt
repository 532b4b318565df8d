-- A thread gets another base priority: the kernel keeps what it keeps.
use Rattle.std.proofs.Common.{◌≡◌, ◌≢◌, ◌⊎◌, ◌+◌, ℕ, ◌≤◌, true, false, ◌==◌, nat_lt, length, get_or, Ok, refl, sym, ap, ◌∙◌, subst, if◌then◌else◌, inl, inr, length-set, get_or-set_same, get_or-set_other}
use Rattle.std.proofs.lemmas.Bool.{cases_eq}
use Rattle.pif_model.specs.Graph.{is_priority}
use Rattle.pif_model.specs.PiKernel.{Kernel, Seat, IsKernel, no_seat, seat_at, has_seat, waits_for, effective_in, queued_on, with_seat, kernel_after_set_prio}
use Rattle.pif_model_lemmas.proofs.Numbers.{within}
use Rattle.pif_model_lemmas.proofs.Places.{kept_at}
use Rattle.pif_model_lemmas.proofs.Greatest.{reaches_same}
use Rattle.pif_model_lemmas.proofs.kernel.Parks.{parks_same}
use Rattle.pif_model_lemmas.proofs.kernel.Settled.{IsUnsettled, IsListed, settled_kept, listed-from_kernel}
use Rattle.pif_model_lemmas.proofs.kernel.Listed.{listed-seats}

module _ (t p : ℕ) (k : Kernel) where
  -- the seat of t then
  abbrev seat : Seat
  seat = record (seat_at k t) { base = p }

  -- the kernel before it is settled
  abbrev pub kernel_with_base : Kernel
  kernel_with_base = with_seat t seat k

  -- as many threads
  pub length-rebased : length kernel_with_base.seats ≡ length k.seats
  length-rebased = length-set k.seats t seat

  -- the same threads were added
  pub has-rebased : (u : ℕ) → has_seat kernel_with_base u ≡ has_seat k u
  has-rebased u = ap (λ n. if u == 0 then false else nat_lt u n) length-rebased

  -- each has the status that it had
  pub status-rebased : (u : ℕ) → (seat_at kernel_with_base u).status ≡ (seat_at k u).status
  status-rebased u = kept_at (λ (x : Seat). x.status) k.seats t seat no_seat refl u

  -- the others are as they were
  pub seat-rebased_other : (u : ℕ) → u ≢ t → seat_at kernel_with_base u ≡ seat_at k u
  seat-rebased_other u n = get_or-set_other k.seats t u seat no_seat n

  -- t has another base priority
  pub seat-rebased_same : has_seat k t ≡ true → seat_at kernel_with_base t ≡ record (seat_at k t) { base = p }
  seat-rebased_same added = get_or-set_same k.seats t seat no_seat (within t (length k.seats) added).1

  -- each waits for whom it waited
  pub waits-rebased : (u : ℕ) → waits_for kernel_with_base u ≡ waits_for k u
  waits-rebased u = ap (λ x. get_or k.states (queued_on x) 0) (status-rebased u)

  module _ (h : IsKernel k) (ranged : is_priority p ≡ true) (added : has_seat k t ≡ true) where
    -- each has a priority
    priority : (u : ℕ) → (u ≡ t) ⊎ (u ≢ t) → has_seat k u ≡ true → is_priority (seat_at kernel_with_base u).base ≡ true
    priority u (inl e) x =
        ap (λ v. is_priority (seat_at kernel_with_base v).base) e
        ∙ ap (λ (x : Seat). is_priority x.base) (seat-rebased_same added) ∙ ranged
    priority u (inr n) x = ap (λ (x : Seat). is_priority x.base) (seat-rebased_other u n) ∙ h.shape.priorities u x

    -- all but the levels is kept
    unsettled-rebased : IsUnsettled kernel_with_base
    unsettled-rebased = record {
      shape = record {
        some = subst (λ n. 1 ≤ n) (sym length-rebased) h.shape.some;
        few = subst (λ n. n ≤ k.limits.threads + 1) (sym length-rebased) h.shape.few;
        nobody = seat-rebased_other 0 (λ e. (within t (length k.seats) added).0 (sym e)) ∙ h.shape.nobody;
        priorities = λ u e. priority u (cases_eq u t) (sym (has-rebased u) ∙ e);
        states = h.shape.states;
        no_mutex = h.shape.no_mutex;
        levels = h.shape.levels;
      };
      queue = λ u m e. status-rebased u ∙ h.queue u m e;
      queued = λ u m e. h.queued u m (sym (status-rebased u) ∙ e);
      once = h.once;
      parking = parks_same k kernel_with_base refl status-rebased h.parking;
      states = h.states;
      owners = λ m n. has-rebased (get_or k.states m 0) ∙ h.owners m n;
      acyclic = λ u n. reaches_same _ _ _ _ _ _ u length-rebased waits-rebased (waits-rebased u)
          ∙ h.acyclic u (λ z. n (waits-rebased u ∙ z));
    }

    -- the ready threads stand where they stood
    listed-rebased : IsListed kernel_with_base (effective_in k)
    listed-rebased =
        listed-seats k kernel_with_base (effective_in k) refl has-rebased status-rebased (listed-from_kernel k h)

    -- the base priority is p, and all is settled
    pub kernel-rebased : IsKernel (kernel_after_set_prio t p (Ok (record {})) k)
    unfolding kernel_after_set_prio
    kernel-rebased = settled_kept kernel_with_base (effective_in k) unsettled-rebased listed-rebased
