-- The lines of pthread_mutex_lock that make no kernel call but for the one by which a mutex is left: each step is an
-- entry of the POSIX machine and keeps the invariant.
use Rattle.std.proofs.Common.{◌≡◌, ℕ, true, false, refl, sym, ap, ◌∙◌, subst, true≢false}
use Rattle.pif_types.specs.declared.requests.Request.{Request}
use Rattle.pif_types.specs.declared.requests.Request.TheVariants.{Lock}
use Rattle.pif_model.specs.declared.events.Seen.TheVariants.{Went, Waits}
use Rattle.pif_model.specs.declared.lines.Line.TheVariants.{At}
use Rattle.pif_model.specs.declared.lines.Place.{Place}
use Rattle.pif_model.specs.declared.lines.Place.TheVariants.{Load, NamePending, Exchange, CallKernel, StayQueued, Stop, StayStopped, Take, Give, Clear}
use Rattle.pif_model.specs.declared.lines.TakeStep.TheVariants.{LoadHealth}
use Rattle.pif_model.specs.declared.lines.GiveStep.{GiveStep}
use Rattle.pif_model.specs.declared.lines.GiveStep.TheVariants.{CallUnlock}
use Rattle.pif_model.specs.declared.lines.Purpose.TheVariants.{ToLeave}
use Rattle.pif_model.specs.declared.lines.Footing.TheVariants.{Unowned}
use Rattle.pif_model.specs.declared.lines.Status.{Status}
use Rattle.pif_model.specs.declared.lines.Status.TheVariants.{Ready, Queued, Parked, Stopped, Ended}
use Rattle.pif_model.specs.Word.{word_at, health_word_at}
use Rattle.pif_model.specs.Posix.{Health, Mutex, World, Effect, Locks, mutex_at, named_by, variable_of, on_taking}
use Rattle.pif_model.specs.World.Progress.{Has}
use Rattle.pif_model.specs.Posix.Effect.{leave}
use Rattle.pif_model.specs.Posix.Effects.{none}
use Rattle.pif_model.specs.PiKernel.{is_ready, is_living}
use Rattle.pif_model.specs.Table.{Table, cell_at, has_mutex, uses_of, status_at}
use Rattle.pif_model.specs.Lines.{goes_to, own_exchange, lock_load, lock_queued, with_pending_field, give_line}
use Rattle.pif_model.specs.Projection.{HistoryVariables, before_lock, progress_at, health_at, world_of}
use Rattle.pif_model.specs.Soundness.{use_at, MeetsAll, needs, belongs, is_last, is_locking}
use Rattle.pif_model.specs.Soundness.MayStopFor.{own_normal as stops_own}
use Rattle.pif_model_lemmas.proofs.kernel.LineCases.{lock_load_cases, lock_queued_cases}
use Rattle.pif_model_simulation.proofs.Shown.{mutex_seen}
use Rattle.pif_model_simulation.proofs.Steps.{GoKeeps, Going, progress_of, going_named, going_met, going_called, waits_with, going_behind, going_once, going_other, going_own_ready, going_ready, going_robust, going_stopped, going_own, going_health}
use Rattle.pif_model_simulation.proofs.Agreement.{quiet, frames_same}
use Rattle.pif_model_simulation.proofs.Does.{IsLocking, MayQueue, locks_by}
use Rattle.pif_model_simulation.proofs.Does.MayQueue.{in_lock, in_wait}
use Rattle.pif_model_simulation.proofs.Does.IsLocking.{by_lock, by_try_lock, by_wait}
use Rattle.pif_model_simulation.proofs.Does.Does.{nothing, leaves, locks_own_errorcheck}
use Rattle.pif_model_simulation.proofs.Healths.{health-unusable}
use Rattle.pif_model_simulation.proofs.Local.{going_cell}
use Rattle.pif_model_simulation.proofs.LocalLines.{goes, answers_local, pending_kept, row_same, row_other, settled_so_far}
use Rattle.pif_model_simulation.proofs.Owning.{stalled_in_order}
use Rattle.pif_model_simulation.proofs.mutexes.TakingLines.{own_exchange_kept, locked_again_kept}
use Rattle.pif_model_simulation.proofs.mutexes.TakingOver.{lock_locking, wait_locking, shared_belongs, two_not_one}
use Rattle.pif_model_simulation.proofs.mutexes.GivingUp.{GivesUpTo}
use Rattle.pif_model_simulation.proofs.mutexes.GivingSteps.{GivesLast, gives_to, frees_kept, hands_kept, leaves_kept}

-- a thread that was queued and may run was handed its mutex
pub progress_handed : (q : Request) (x : Status) (h : Health) (n : ℕ) → is_ready x ≡ true
    → progress_at q StayQueued x h n ≡ on_taking h
progress_handed q (Ready w) h n e = refl
progress_handed q (Queued m) h n e = absurd (true≢false (sym e))
progress_handed q (Parked c) h n e = absurd (true≢false (sym e))
progress_handed q Stopped h n e = absurd (true≢false (sym e))
progress_handed q Ended h n e = absurd (true≢false (sym e))

module _ {s : Table} {t m : ℕ} where
  -- LOCK ALONE

  -- lock: load the word
  pub lock_load_kept : Going s t (Lock m) Load → GoKeeps s t (lock_load (Lock m) t m s)
  lock_load_kept g = lock_load_cases (GoKeeps s t) (Lock m) t m s
      (λ own kind. goes g (going_named g) Stop (quiet refl refl) (going_ready g) refl refl (going_ready g, (stops_own own kind, tt))
      (λ r. row_same g (going_named g) r refl refl refl (λ o u. settled_so_far g (going_named g) refl o)))
      (λ own kind. answers_local g (going_named g) 35 (going_ready g) (locks_own_errorcheck refl refl own kind refl refl)
      (λ r. row_same g (going_named g) r refl refl refl (λ o u. settled_so_far g (going_named g) refl o)))
      (λ own kind. locked_again_kept g (going_named g) (going_ready g) refl own
      (λ r. row_same g (going_named g) r refl refl refl (λ o u. settled_so_far g (going_named g) refl o))
      (by_lock refl) kind)
      (λ other robust. goes g (going_named g) NamePending (quiet refl refl) (going_ready g) refl refl (going_ready g, (other, (robust, tt)))
      (λ r. row_other g (going_named g) r refl refl other other))
      (λ other stalled. goes g (going_named g) Exchange (quiet refl refl) (going_ready g) refl refl (going_ready g, (other, tt))
      (λ r. absurd (true≢false (sym r ∙ stalled))))
    where
      h : MeetsAll (is_living s.kernel) t (status_at s t) (cell_at s m) (use_at s (Lock m)) (needs Load)
      h = going_met g

  -- lock: name the mutex in the pending field
  pub lock_name_pending_kept : Going s t (Lock m) NamePending → GoKeeps s t (goes_to t (Lock m) Exchange (with_pending_field t m s))
  lock_name_pending_kept g =
      let h = going_met g in
      pending_kept g (going_named g) Exchange (quiet refl refl) (going_ready g) (going_robust g) refl refl (going_ready g, (going_other g, tt)) refl refl
      refl refl refl

-- a request that may queue comes to each place of locking
pub locking_belongs : {m : ℕ} {q : Request} → MayQueue m q → (p : Place) → is_locking p ≡ true → belongs q p ≡ true
locking_belongs {m} {q} (in_lock r) p e = subst (λ x. belongs x p ≡ true) (sym r) (lock_locking m p e)
locking_belongs {m} {q} (in_wait c r) p e = subst (λ x. belongs x p ≡ true) (sym r) (wait_locking c m p e)

-- a request that locks comes to its kernel call
kernel_belongs : {m : ℕ} {q : Request} → IsLocking m q → belongs q CallKernel ≡ true
kernel_belongs (by_lock r) = ap (λ x. belongs x CallKernel) r
kernel_belongs (by_try_lock r) = ap (λ x. belongs x CallKernel) r
kernel_belongs (by_wait c r) = ap (λ x. belongs x CallKernel) r

-- LOCK, AND THE LOCK THAT A WAIT OWES

module _ (s : Table) (t : ℕ) (q : Request) (named : has_mutex s (named_by q) ≡ true) (l : MayQueue (named_by q) q) where
  abbrev mutex : ℕ
  mutex = named_by q

  -- a call that is to lock has an effect by this rule
  pub locks : {p : Place} (g : Going s t q p) → progress_of s t q p ≡ before_lock q → (y : HistoryVariables) (v : World)
      → Locks t mutex (world_of s y) v → Effect t (world_of s y) v
  locks g fresh y v rule = locks_by (world_of s y) t (going_called g y) mutex l fresh rule

  -- the owner that the POSIX machine sees is the number in the word
  pub owner_seen : {p : Place} (g : Going s t q p) (y : HistoryVariables)
      → (mutex_at (world_of s y) mutex).owner ≡ (cell_at s mutex).word.number
  owner_seen g y = ap (λ (x : Mutex). x.owner) (mutex_seen g.sound.all.shape y mutex)

  -- queued, or made the owner
  pub lock_queued_kept : Going s t q StayQueued → GoKeeps s t (lock_queued q t mutex s)
  lock_queued_kept g = lock_queued_cases (GoKeeps s t) q t mutex s
      (λ e robust. goes g named (Take (LoadHealth (word_at s.words mutex).died)) (quiet refl refl) e
      (locking_belongs l (Take (LoadHealth (word_at s.words mutex).died)) refl) (sym (handed e))
      (e, (going_own_ready g e, (going_once g, (robust, (going_behind g, ((λ o. refl), tt))))))
      (λ r. row_same g named r refl refl refl (λ o u. absurd (true≢false u))))
      (λ e stalled. answers_local g named 0 e
      (nothing (sym (handed e ∙ ap on_taking (stalled_in_order (going_cell g named) stalled))) refl)
      (λ r. absurd (true≢false (sym r ∙ stalled))))
      (λ e. waits_with g s g.sound refl g.known e (frames_same s) (λ y. none refl))
    where
      h : MeetsAll (is_living s.kernel) t (status_at s t) (cell_at s mutex) (use_at s q) (needs StayQueued)
      h = going_met g

      handed : is_ready (status_at s t) ≡ true → progress_of s t q StayQueued ≡ on_taking (health_at s mutex)
      handed e = progress_handed q (status_at s t) (health_at s mutex) (uses_of s (variable_of q)) e

  -- stopped for good
  pub stay_stopped_kept : Going s t q StayStopped → GoKeeps s t (record { seen = Waits; after = s })
  stay_stopped_kept g =
      waits_with g s g.sound refl g.known (ap is_ready (going_stopped g)) (frames_same s) (λ y. none refl)

-- WHAT ALL CALLS THAT LOCK SHARE

module _ (s : Table) (t : ℕ) (q : Request) (named : has_mutex s (named_by q) ≡ true)
    (l : IsLocking (named_by q) q) where
  abbrev m : ℕ
  m = named_by q

  -- compare-exchange from 0 to t
  pub exchange_kept : Going s t q Exchange → GoKeeps s t (own_exchange q t m s)
  exchange_kept g =
      let h = going_met g in
      own_exchange_kept g named (going_ready g) refl l (shared_belongs l (Take (LoadHealth false)) refl) refl refl
      (goes g named CallKernel (quiet refl refl) (going_ready g) (kernel_belongs l) refl h
      (λ r. row_other g named r refl refl (going_other g) (going_other g)))

  -- leaving an unusable mutex
  abbrev last_leave : GivesLast s t q ToLeave
  last_leave = record {
    after = Has 131;
    named = λ e. named;
    calls = shared_belongs l (Give CallUnlock ToLeave) refl;
    rests = refl;
    blocked = λ e. absurd (true≢false (sym e));
    order = λ x e g. (
        let unusable : health_word_at s.words m ≡ 2 = going_health g (going_own g) in (
          two_not_one (health_word_at s.words m) unusable,
          health-unusable (health_word_at s.words m) false unusable
              ∙ sym (health-unusable (health_word_at s.words m) (word_at s.words m).died unusable),
        )
        );
    releases = λ waited w z o n i u e. leaves refl refl u refl e;
    passes = λ w v call o n i p. leave q call p;
  }

  module _ {x : GiveStep} (last : is_last x ≡ true) (g : Going s t q (Give x ToLeave)) where
    -- its name goes from the pending field
    to_clear : GivesUpTo s t q (Give x ToLeave) (At q (Clear Unowned 131))
    to_clear = gives_to last_leave last g (Clear Unowned 131) (shared_belongs l (Clear Unowned 131) refl) refl refl refl
        refl (λ c other e. (going_ready g, (other, (e ∙ going_robust g, tt))))

  -- each step of leaving
  pub leave_gives_kept : (x : GiveStep) → is_last x ≡ true → Going s t q (Give x ToLeave)
      → GoKeeps s t (give_line q x ToLeave t m s)
  leave_gives_kept = leaves_kept last_leave (record {
    freed = λ x last g.
        frees_kept last_leave last g Went (At q (Clear Unowned 131)) (to_clear last g) (Clear Unowned 131, refl, refl);
    handed = λ x last g. hands_kept last_leave last g (Clear Unowned 131) (to_clear last g) (λ h. refl);
  })
