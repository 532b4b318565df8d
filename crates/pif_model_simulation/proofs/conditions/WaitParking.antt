-- A wait is parked, or was unblocked since; and goes on once it may run: each step is an entry of the POSIX machine and
-- keeps the invariant.
use Rattle.std.proofs.Common.{◌≡◌, ◌≢◌, ◌⊎◌, inl, inr, ℕ, true, false, ◌==◌, length, set, Option, Some, Result, Ok, Err, refl, sym, ap, ◌∙◌, subst, arith, if◌then◌else◌, eqb-true, eq-eqb, ne_eqb}
use Rattle.std.proofs.lemmas.Bool.{cases_eq, eqb-false, true≢false}
use Rattle.pif_types.specs.declared.errors.Errno.{Errno}
use Rattle.pif_types.specs.declared.errors.Errno.TheVariants.{Again, Fault}
use Rattle.pif_types.specs.declared.requests.Request.TheVariants.{Wait}
use Rattle.pif_model.specs.declared.events.Seen.TheVariants.{Waits}
use Rattle.pif_model.specs.declared.lines.Line.TheVariants.{At}
use Rattle.pif_model.specs.declared.lines.Place.TheVariants.{Exchange, CallKernel, Take, Park, StayParked}
use Rattle.pif_model.specs.declared.lines.TakeStep.TheVariants.{LoadHealth}
use Rattle.pif_model.specs.declared.lines.Status.{Status}
use Rattle.pif_model.specs.declared.lines.Status.TheVariants.{Ready, Queued, Parked, Stopped, Ended}
use Rattle.pif_model.specs.declared.lines.Woken.TheVariants.{Fresh as WokenFresh, Owns as WokenOwns, Again as WokenAgain, Expired as WokenExpired}
use Rattle.pif_model.specs.Graph.{has_waiter}
use Rattle.pif_model.specs.Word.{word_at, health_word_at, has_word, has_cond_word}
use Rattle.pif_model.specs.Posix.{Health, Call, World, thread_at, with_call_by, after_waits, at_progress, on_taking, on_release, with_progress}
use Rattle.pif_model.specs.World.Progress.{Blocked, Reacquiring}
use Rattle.pif_model.specs.Posix.Effects.{none}
use Rattle.pif_model.specs.PiKernel.{Kernel, Seat, seat_at, state_at, has_ended, is_parked, is_ready, is_woken_again, is_living, wait_requeue_answer, kernel_after_wait_requeue, kernel_after_parking}
use Rattle.pif_model.specs.RobustList.{robust_at}
use Rattle.pif_model.specs.Table.{Table, Cell, cell_at, has_thread, has_mutex, has_cond, bound_to, uses_of, library_at, status_at, with_kernel, with_line}
use Rattle.pif_model.specs.Lines.{Outcome, goes_to, own_exchange, wait_by, wait_park, wait_parked}
use Rattle.pif_model.specs.Projection.{HistoryVariables, progress_parked, health_at, world_of}
use Rattle.pif_model.specs.Soundness.{use_at, is_handed, CellIsSound, MeetsAll, needs}
use Rattle.pif_model_lemmas.proofs.kernel.LineCases.{wait_parked_cases, lock_queued_cases}
use Rattle.pif_model_lemmas.proofs.Numbers.{above_0, below, from_within}
use Rattle.pif_model_lemmas.proofs.Waiting.{by_test}
use Rattle.pif_model_lemmas.proofs.kernel.Facts.{ready-not_ended}
use Rattle.pif_model_lemmas.proofs.kernel.Rested.{parked_limits, parked_length, parked_has, parked_seat_other, parked_seat_same, parked_state, parked_waiters, parked_parked, kernel-parked}
use Rattle.pif_model_simulation.proofs.Named.{first, second}
use Rattle.pif_model_simulation.proofs.WeakenedInvariant.{aims}
use Rattle.pif_model_simulation.proofs.Agreement.{quiet, frames_same}
use Rattle.pif_model_simulation.proofs.Written.{written, written_is, same_word, same_health, same_list, same_library}
use Rattle.pif_model_simulation.proofs.Steps.{KeepsGo, GoKeeps, Going, going_named, going_called, waits_with, waits_noted, going_bound, going_other, going_ready, going_behind, going_once, going_own_handed}
use Rattle.pif_model_simulation.proofs.Does.IsLocking.{by_wait}
use Rattle.pif_model_simulation.proofs.Does.Does.{nothing}
use Rattle.pif_model_simulation.proofs.Local.{going_cell, going_added}
use Rattle.pif_model_simulation.proofs.LocalLines.{goes, answers_local, lists_by, row_same, row_other}
use Rattle.pif_model_simulation.proofs.Owning.{stalled_in_order}
use Rattle.pif_model_simulation.proofs.mutexes.TakingLines.{own_exchange_kept}
use Rattle.pif_model_simulation.proofs.conditions.Aims.{aims-push}
use Rattle.pif_model_simulation.proofs.Called.HasTaken.{kept}
use Rattle.pif_model_simulation.proofs.Called.{IsOneCall, called_sound, called_known, called_frames, called_shown}

-- PARKING

-- two changes of a call that make the same of it
recalled_alike : (w : World) (t : ℕ) (f g : Option Call → Option Call) → f (thread_at w t).call ≡ g (thread_at w t).call
    → with_call_by t f w ≡ with_call_by t g w
recalled_alike w t f g e = λ i. record w { threads = set w.threads t (record (thread_at w t) { call = e i }) }

module _ (s : Table) (t c m v : ℕ) (g : Going s t (Wait c m) (Park v)) where
  named : has_mutex s m ≡ true
  named = second (has_cond s c) (has_mutex s m) (going_named g)

  added : has_thread s t ≡ true
  added = going_added g named

  -- the kernel then
  abbrev k : Kernel
  k = kernel_after_parking t c m s.kernel

  -- m then, as it was
  abbrev left : Cell
  left = record (cell_at s m) { state_owner = state_at k m }

  -- t is parked
  here : seat_at k t ≡ record (seat_at s.kernel t) { status = Parked c }
  here = parked_seat_same t c m s.kernel added

  -- each lives that lived
  living : (u : ℕ) → is_living k u ≡ is_living s.kernel u
  living u = λ i. if parked_has t c m s.kernel u i then (if ended (cases_eq u t) i then false else true) else false
    where
      ended : (u ≡ t) ⊎ (u ≢ t) → has_ended (seat_at k u).status ≡ has_ended (seat_at s.kernel u).status
      ended (inl e) = subst (λ j. has_ended (seat_at k j).status ≡ has_ended (seat_at s.kernel j).status) (sym e)
          (ap (λ (x : Seat). has_ended x.status) here ∙ sym (ready-not_ended (status_at s t) (going_ready g)))
      ended (inr d) = ap (λ (x : Seat). has_ended x.status) (parked_seat_other t c m s.kernel u d)

  -- who is parked is to get the mutex to which the variable is bound
  targets : (i n : ℕ) → aims k i n ≡ true → (aims s.kernel i n ≡ true) ⊎ (bound_to s i ≡ n)
  targets i n e = by_case (aims-push s.kernel.parked t c m i n
      (sym (ap (λ ps. aims (record k { parked = ps }) i n) (parked_parked t c m s.kernel)) ∙ e))
    where
      by_case : (aims s.kernel i n ≡ true) ⊎ ((c ≡ i) × (m ≡ n)) → (aims s.kernel i n ≡ true) ⊎ (bound_to s i ≡ n)
      by_case (inl x) = inl x
      by_case (inr x) = inr (ap (bound_to s) (sym x.0) ∙ eqb-true (bound_to s c) m (going_bound g) ∙ x.1)

  -- to park t is a call in which t goes to where it is parked
  park_one : IsOneCall s t (Wait c m) (Park v) StayParked (word_at s.words m) k
  park_one = record {
    kernel = kernel-parked t c m s.kernel g.sound.kernel added (going_ready g);
    call = record {
      limits = parked_limits t c m s.kernel;
      seats = parked_length t c m s.kernel;
      status = λ u d. ap (λ (x : Seat). x.status) (parked_seat_other t c m s.kernel u d);
      living = living;
      states = λ j d. parked_state t c m s.kernel j;
      waited = λ j d. ap (λ ws. has_waiter ws j) (parked_waiters t c m s.kernel);
      targets = targets;
    };
    others = λ u d. parked_seat_other t c m s.kernel u d;
    base = ap (λ (x : Seat). x.base) here;
    number = kept refl;
    died = refl;
    cell = sound;
    belongs = refl;
    needs = subst (λ x. MeetsAll (is_living s.kernel) t x left (use_at s (Wait c m)) (needs StayParked)) (sym status) (
      ((λ z. cc), λ z. cc),
      (
        ((λ z. absurd (true≢false (sym z))), λ z. going_other g),
        ((λ o. absurd (going_other g o)), ((λ o. absurd (going_other g o)), (going_bound g, tt))),
      ),
    );
    queue = λ j e. absurd (not_queued j (sym status ∙ e));
    parked = λ j e. record { mutex = m; line = ap (λ i. At (Wait i m) StayParked) (same j (sym status ∙ e)) };
    follows = quiet refl refl;
    blocked = λ j e. absurd (true≢false (sym (ap is_parked status) ∙ e));
    lists = lists_by g named refl refl sound (λ r. row_other g named r refl refl (going_other g) (going_other g));
  }
    where
      status : (seat_at k t).status ≡ Parked c
      status = ap (λ (x : Seat). x.status) (parked_seat_same t c m s.kernel (going_added g
          (second (has_cond s c) (has_mutex s m) (going_named g))))

      sound : CellIsSound (has_thread s) (has_waiter k.waiters m) left
      sound = subst (λ n. CellIsSound (has_thread s) (has_waiter k.waiters m) (record (cell_at s m) { state_owner = n }))
          (sym (parked_state t c m s.kernel m))
          (subst (λ ws. CellIsSound (has_thread s) (has_waiter ws m) (cell_at s m)) (sym (parked_waiters t c m s.kernel))
          (going_cell g (second (has_cond s c) (has_mutex s m) (going_named g))))

      not_queued : (j : ℕ) → Parked c ≡ Queued j → ⊥
      not_queued j e = cc

      same : (j : ℕ) → Parked c ≡ Parked j → c ≡ j
      same j e = cc

  -- t is parked
  parks : uses_of s c ≡ v → GoKeeps s t (record {
    seen = Waits;
    after = with_line t (At (Wait c m) StayParked) (with_kernel s.words k s);
  })
  parks unused =
      subst (KeepsGo s t Waits)
      (written_is t m (At (Wait c m) StayParked) (robust_at s.lists t) (word_at s.words m) (health_word_at s.words m)
      (library_at s m).count k s (same_word s m) (same_health s m) (same_list s t) (same_library s m))
      (waits_noted g (written t m (At (Wait c m) StayParked) (robust_at s.lists t) (word_at s.words m)
      (health_word_at s.words m) (library_at s m).count k s) (world_of s)
      (called_sound g named StayParked (word_at s.words m) k park_one) refl
      (called_known g named StayParked (word_at s.words m) k park_one)
      (ap (λ (x : Seat). is_ready x.status) here)
      (called_frames g named StayParked (word_at s.words m) k park_one)
      (λ y. none refl)
      (λ y. called_shown g named StayParked (word_at s.words m) k park_one y (Blocked true) refl
      (ap (λ (x : Seat). progress_parked x.status (health_at s m)) here)
      ∙ (λ i. record (with_progress t (Blocked true) (world_of s y)) { waiters = parked_waiters t c m s.kernel i })
      ∙ recalled_alike (world_of s y) t (at_progress (Blocked true)) after_waits (alike y)))
    where
      alike : (y : HistoryVariables)
          → at_progress (Blocked true) (thread_at (world_of s y) t).call ≡ after_waits (thread_at (world_of s y) t).call
      alike y = ap (at_progress (Blocked true)) (called y) ∙ sym (ap after_waits (called y))
        where
          called : (y : HistoryVariables) → (thread_at (world_of s y) t).call
              ≡ Some (record { request = Wait c m; progress = Blocked false })
          called y = going_called g y ∙ ap (λ b. Some (record { request = Wait c m; progress = on_release b }))
              (eq-eqb v (uses_of s c) (sym unused))

  -- t was unblocked since, and is to lock
  unblocked_since : uses_of s c ≢ v → GoKeeps s t (goes_to t (Wait c m) Exchange s)
  unblocked_since used = goes g named Exchange (quiet refl refl) (going_ready g) refl
      (sym (ap on_release (ne_eqb v (uses_of s c) (λ e. used (sym e))))) (going_ready g, (going_other g, tt))
      (λ r. row_other g named r refl refl (going_other g) (going_other g))

  -- the line, by its kernel call's answer
  abbrev by_call : Result (record {}) Errno → Outcome
  by_call r = wait_by r c m t (with_kernel s.words (kernel_after_wait_requeue t c m r s.kernel) s)

  -- the kernel call wait_requeue_pi
  pub wait_park_kept : GoKeeps s t (wait_park v c m t s)
  unfolding wait_park wait_by kernel_after_wait_requeue wait_requeue_answer
  wait_park_kept = subst (λ b. GoKeeps s t (by_call (if b then (if uses_of s c == v then Ok (record {}) else Err Again)
      else Err Fault))) (sym there)
      (by_test (λ b. GoKeeps s t (by_call (if b then Ok (record {}) else Err Again))) (uses_of s c == v)
      (λ e. parks (eqb-true (uses_of s c) v e)) (λ e. unblocked_since (eqb-false (uses_of s c) v e)))
    where
      there : (if has_cond_word s.words c then has_word s.words m else false) ≡ true
      there = rw (cond_there, word_there) refl
        where
          cond_there : has_cond_word s.words c ≡ true
          cond_there = let e = first (has_cond s c) (has_mutex s m) (going_named g) in
              from_within c (length s.words.conds) (above_0 c (length s.conds) e)
              (omega (arith, below c (length s.conds) e, g.sound.all.shape.cond_words, g.sound.all.shape.few_conds))

          word_there : has_word s.words m ≡ true
          word_there = let e = second (has_cond s c) (has_mutex s m) (going_named g) in
              from_within m (length s.words.mutexes) (above_0 m (length s.mutexes) e)
              (omega (arith, below m (length s.mutexes) e, g.sound.all.shape.words, g.sound.all.shape.few_mutexes))

-- ONCE PARKED

-- who was woken to lock its mutex may run, and must reacquire it
woken_ready : (x : Status) → is_woken_again x ≡ true → is_ready x ≡ true
woken_ready (Ready w) e = refl
woken_ready (Queued i) e = absurd (true≢false (sym e))
woken_ready (Parked i) e = absurd (true≢false (sym e))
woken_ready Stopped e = absurd (true≢false (sym e))
woken_ready Ended e = absurd (true≢false (sym e))

woken_reacquires : (x : Status) (y : Health) → is_woken_again x ≡ true → progress_parked x y ≡ Reacquiring
woken_reacquires (Ready WokenFresh) y e = absurd (true≢false (sym e))
woken_reacquires (Ready WokenOwns) y e = absurd (true≢false (sym e))
woken_reacquires (Ready WokenAgain) y e = refl
woken_reacquires (Ready WokenExpired) y e = absurd (true≢false (sym e))
woken_reacquires (Queued i) y e = absurd (true≢false (sym e))
woken_reacquires (Parked i) y e = absurd (true≢false (sym e))
woken_reacquires Stopped y e = absurd (true≢false (sym e))
woken_reacquires Ended y e = absurd (true≢false (sym e))

-- who may run, and was not, takes it
handed_takes : (x : Status) (y : Health) → is_woken_again x ≡ false → is_ready x ≡ true → progress_parked x y ≡ on_taking y
handed_takes (Ready WokenFresh) y e f = refl
handed_takes (Ready WokenOwns) y e f = refl
handed_takes (Ready WokenAgain) y e f = absurd (true≢false e)
handed_takes (Ready WokenExpired) y e f = refl
handed_takes (Queued i) y e f = absurd (true≢false (sym f))
handed_takes (Parked i) y e f = absurd (true≢false (sym f))
handed_takes Stopped y e f = absurd (true≢false (sym f))
handed_takes Ended y e f = absurd (true≢false (sym f))

module _ (s : Table) (t c m : ℕ) (g : Going s t (Wait c m) StayParked) where
  mutex : has_mutex s m ≡ true
  mutex = second (has_cond s c) (has_mutex s m) (going_named g)

  -- it was woken to lock the mutex, as it does here
  locks_again : is_woken_again (status_at s t) ≡ true → GoKeeps s t (own_exchange (Wait c m) t m s)
  locks_again again =
      own_exchange_kept g mutex ready (woken_reacquires (status_at s t) (health_at s m) again) (by_wait c refl) refl refl refl
      (goes g mutex CallKernel (quiet refl refl) ready refl (sym (woken_reacquires (status_at s t) (health_at s m) again))
      (ready, (other, tt)) (λ r. row_other g mutex r refl refl other other))
    where
      ready : is_ready (status_at s t) ≡ true
      ready = woken_ready (status_at s t) again

      other : (word_at s.words m).number ≢ t
      other = (going_own_handed g).1 (ap (λ b. if b then false else is_ready (status_at s t)) again)

  -- it is parked or queued, or was made the owner
  pub wait_parked_kept : GoKeeps s t (wait_parked c m t s)
  wait_parked_kept = wait_parked_cases (GoKeeps s t) c m t s locks_again
      (λ e. lock_queued_cases (GoKeeps s t) (Wait c m) t m s
      (λ f robust. goes g mutex (Take (LoadHealth (word_at s.words m).died)) (quiet refl refl) f refl
      (sym (handed_takes (status_at s t) (health_at s m) e f))
      (f, ((going_own_handed g).0 (handed e f), (going_once g, (robust, (going_behind g, ((λ o. refl), tt))))))
      (λ r. row_same g mutex r refl refl refl (λ o u. absurd (true≢false u))))
      (λ f stalled. answers_local g mutex 0 f
      (nothing (sym (handed_takes (status_at s t) (health_at s m) e f
      ∙ ap on_taking (stalled_in_order (going_cell g mutex) stalled))) refl)
      (λ r. absurd (true≢false (sym r ∙ stalled))))
      (λ f. waits_with g s g.sound refl g.known f (frames_same s) (λ y. none refl)))
    where
      handed : is_woken_again (status_at s t) ≡ false → is_ready (status_at s t) ≡ true
          → is_handed (status_at s t) ≡ true
      handed e f = ap (λ b. if b then false else is_ready (status_at s t)) e ∙ f
