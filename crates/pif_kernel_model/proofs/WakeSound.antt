-- What is kept stays sound if a thread that is parked or stopped is woken.
use Rattle.std.proofs.Common.{◌≡◌, ◌≢◌, ℕ, ◌<◌, ◌≤◌, Bool, true, false, if◌then◌else◌, length, set, refl, sym, ap, ◌∙◌, subst, arith}
use Rattle.std.proofs.lemmas.Bool.{true≢false}
use Rattle.pif_nodes_model.specs.Table.{NodeLists}
use Rattle.pif_nodes_model.specs.Levels.{Queue, Holds, IsLevel, IsQueued, level_of}
use Rattle.pif_nodes_model.specs.Levels.{level_after_add}
use Rattle.pif_model.specs.declared.lines.Status.{Status}
use Rattle.pif_model.specs.declared.lines.Status.TheVariants.{Ready, Queued, Parked, Stopped, Ended}
use Rattle.pif_model.specs.declared.lines.Woken.{Woken}
use Rattle.pif_model.specs.PiKernel.{IsKernel, queued_on, has_seat, is_ready, is_parked, level_at, effective_in, levels_with, kernel_after_waking, parkings_without}
use Rattle.pif_model.specs.PiKernel.{seat_at as kernel_seat_at}
use Rattle.pif_kernel_model.specs.Owners.{task_at}
use Rattle.pif_model_lemmas.proofs.kernel.Woken.{added-from_parked, kernel-roused}
use Rattle.pif_kernel_model.specs.Inside.{Inside, IsSoundInside, kernel_of, status_at}
use Rattle.pif_kernel_model.proofs.Seats.{status_seen, added_seen, kernel_by_parts, seats_of-set_status}
use Rattle.pif_kernel_model.proofs.Picked.{levels_joined, length-joined}
use Rattle.pif_kernel_model.proofs.Standing.{fits, effective_level, off_queue}
use Rattle.pif_kernel_model.proofs.MovedSound.{sound_moved}

-- who is parked is parked on a variable
pub parked_somewhere : (x : Status) → is_parked x ≡ true → (c : ℕ) × (x ≡ Parked c)
parked_somewhere (Parked c) e = (c, refl)
parked_somewhere (Ready w) e = absurd (true≢false (sym e))
parked_somewhere (Queued m) e = absurd (true≢false (sym e))
parked_somewhere Stopped e = absurd (true≢false (sym e))
parked_somewhere Ended e = absurd (true≢false (sym e))

-- and was added
pub parked_added : (p : Inside) (u : ℕ) → IsSoundInside p → is_parked (kernel_seat_at (kernel_of p) u).status ≡ true
    → has_seat (kernel_of p) u ≡ true
parked_added p u h e =
    let d = parked_somewhere (kernel_seat_at (kernel_of p) u).status e in
    added-from_parked (kernel_of p) h.kernel u d.0 d.1

module _ (p : Inside) (u : ℕ) (h : IsSoundInside p) (added : has_seat (kernel_of p) u ≡ true)
    (unready : is_ready (kernel_seat_at (kernel_of p) u).status ≡ false)
    (unqueued : queued_on (kernel_seat_at (kernel_of p) u).status ≡ 0) where
  -- it has a number, and stands within
  pub rests_within : (u ≢ 0) × (u < length p.statuses)
  rests_within = added_seen p (fits p h) u added

  -- its priority is a level
  pub rests_level : 1 ≤ (task_at p.owners u).local
  rests_level = omega (arith, h.local u, (effective_level p h u added).0)

  -- it is on no level
  pub rests_off : IsQueued p.queue p.table u → ⊥
  rests_off = off_queue p u (λ r. h.kernel.level u r ∙ rw unready (both_false (has_seat (kernel_of p) u)))
    where
      both_false : (b : Bool) → (if b then false else false) ≡ false
      both_false true = refl
      both_false false = refl

  module _ (w : Woken) (prio : ℕ) (rank_is : prio ≡ effective_in (kernel_of p) u) (q : Queue) (tb : NodeLists)
      (place : q ≡ record p.queue { mask = q.mask })
      (levels : (r : ℕ) → IsLevel r → level_of q tb r ≡ level_after_add u prio r (level_of p.queue p.table r))
      (holds : Holds q tb) where
    -- what is kept then
    abbrev pub after : Inside
    after = record p {
      statuses = set p.statuses u (Ready w);
      queue = q;
      table = tb;
      parked = parkings_without p.parked u;
    }

    -- the kernel by itself then
    pub kernel_woken : kernel_of after ≡ kernel_after_waking u w (kernel_of p)
    unfolding kernel_of kernel_after_waking
    kernel_woken =
        kernel_by_parts (kernel_of after) (kernel_after_waking u w (kernel_of p)) refl
        (seats_of-set_status p.statuses p.owners.seats u (Ready w) (fits p h).few) refl (λ m. refl) refl
        refl (length-joined p after u (effective_in (kernel_of p) u))
        (λ r. levels_joined p after u prio level levels r
        ∙ ap (λ (n : ℕ). level_at (levels_with u n (kernel_of p).levels) r) rank_is)
      where
        level : IsLevel prio
        level = subst IsLevel (sym rank_is) (effective_level p h u added)

    kept : IsKernel (kernel_of after)
    kept = subst IsKernel (sym kernel_woken) (kernel-roused u w (kernel_of p) h.kernel added unready unqueued)

    idle : queued_on (status_at p u) ≡ 0
    idle = ap queued_on (sym (status_seen p (fits p h) u)) ∙ unqueued

    -- and all is sound
    pub sound_woken : IsSoundInside after
    sound_woken =
        sound_moved p (Ready w) (parkings_without p.parked u) q tb u h idle refl place holds kept

-- the same, as it is written
pub woken_ends : (p x : Inside) (u : ℕ) → IsSoundInside p → has_seat (kernel_of p) u ≡ true
    → is_ready (kernel_seat_at (kernel_of p) u).status ≡ false
    → queued_on (kernel_seat_at (kernel_of p) u).status ≡ 0 → (w : Woken) (prio : ℕ) (q : Queue) (tb : NodeLists)
    → x ≡ record p { parked = parkings_without p.parked u }
    → prio ≡ (task_at x.owners u).local → q ≡ record x.queue { mask = q.mask }
    → ((r : ℕ) → IsLevel r → level_of q tb r ≡ level_after_add u prio r (level_of x.queue x.table r)) → Holds q tb
    → (kernel_of (record x { statuses = set x.statuses u (Ready w); queue = q; table = tb })
    ≡ kernel_after_waking u w (kernel_of p))
    × IsSoundInside (record x { statuses = set x.statuses u (Ready w); queue = q; table = tb })
woken_ends p x u h added unready unqueued w prio q tb e =
    subst (λ (y : Inside). prio ≡ (task_at y.owners u).local → q ≡ record y.queue { mask = q.mask }
    → ((r : ℕ) → IsLevel r → level_of q tb r ≡ level_after_add u prio r (level_of y.queue y.table r)) → Holds q tb
    → (kernel_of (record y { statuses = set y.statuses u (Ready w); queue = q; table = tb })
    ≡ kernel_after_waking u w (kernel_of p))
    × IsSoundInside (record y { statuses = set y.statuses u (Ready w); queue = q; table = tb })) (sym e)
    (λ rank place levels holds. (
      kernel_woken p u h added unready unqueued w prio (rank ∙ h.local u) q tb place levels holds,
      sound_woken p u h added unready unqueued w prio (rank ∙ h.local u) q tb place levels holds,
    ))
