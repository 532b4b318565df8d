-- What a move does to a ledger: it sets a base priority, uses a variable, or keeps it.
use Rattle.std.proofs.Common.{ℕ, ◌≡◌, ◌≢◌, ◌⊎◌, ◌∙◌, ◌+◌, ◌-◌, Bool, true, false, Option, refl, sym, ap, inl, inr, arith}
use Rattle.std.proofs.lemmas.Bool.{cases_eq, true≢false}
use Rattle.pif_types.specs.declared.requests.Request.{Request}
use Rattle.pif_types.specs.declared.requests.Request.TheVariants.{Lock, TryLock, Unlock, Consistent, Wait, Signal, Broadcast, SetPrio}
use Rattle.pif_model.specs.Deadlines.{ran_out}
use Rattle.pif_model.specs.NamedNumbers.{EPERM, ESRCH, EAGAIN, EBUSY, EINVAL, EDEADLK, EOVERFLOW, ETIMEDOUT, ENOTRECOVERABLE}
use Rattle.pif_model.specs.Posix.{World, Thread, Mutex, Progress, nobody, thread_at, mutex_at, is_living, with_progress, with_waiter, without_waiter, with_base, used, named_by, is_use, variable_of, after_timeout, on_release, HasCome, Comes, IsOwner, Lives, Locks, LocksAgain, TriesToLock, Unlocks, MakesConsistent, SetsPriority, ChecksWait, GivesUp, Uses, Chooses, Effect, Expires}
use Rattle.pif_model.specs.World.Progress.{Fresh, Waiting, Stuck, Leaving, Has, Checked, Enlisted, Blocked, Reacquiring, Used}
use Rattle.pif_model.specs.Posix.Locks.{own_normal, own_errorcheck, own_recursive as lock_own_recursive, free as lock_free, orphaned as lock_orphaned, cycle, joins}
use Rattle.pif_model.specs.Posix.LocksAgain.{rises, at_limit}
use Rattle.pif_model.specs.Posix.TriesToLock.{own_recursive as try_own_recursive, busy as try_busy, free as try_free}
use Rattle.pif_model.specs.Posix.Unlocks.{not_owner, falls, becomes_unusable, released}
use Rattle.pif_model.specs.Posix.MakesConsistent.{not_robust, not_owner as consistent_not_owner, not_inconsistent, made_fine}
use Rattle.pif_model.specs.Posix.SetsPriority.{no_priority, not_living, changed}
use Rattle.pif_model.specs.Posix.ChecksWait.{other_mutex, not_owner as wait_not_owner, held_more, checked}
use Rattle.pif_model.specs.Posix.GivesUp.{becomes_unusable as wait_unusable, released as wait_released}
use Rattle.pif_model.specs.Posix.Uses.{at_limit as use_at_limit, counts as use_counts}
use Rattle.pif_model.specs.Posix.Chooses.{one, no_one, all}
use Rattle.pif_model.specs.Posix.Effect.{lock, try_lock, unlock, consistent, set_prio, check_wait, enlist, give_up, lock_again, use_variable, choose, leave}
use Rattle.pif_model.specs.Posix.Expires.{lock as lock_expires, wait as wait_expires}
use Rattle.pif_model_lemmas.proofs.Places.{kept_at}
use Rattle.pif_model_simulation.proofs.runs.Worlds.{call_of, owner_of}
use Rattle.pif_model_simulation.proofs.runs.AllHolding.{IsHeld, times-other, caller_lives}
use Rattle.pif_posix_steps.specs.Once.{MovesOnce, Acts}
use Rattle.pif_posix_steps.specs.Once.Acts.{effect, expires, notes}
use Rattle.pif_parts_model.proofs.Ledgers.{Keeps, IsUnmarked, mark_of}
use Rattle.pif_parts_model.proofs.Sound.{IsSound, IsWhole, IsEven, even_then, even_thread, even_mutex, even_comes, even_unmarked, even_waiters, even_taken, even_passes, even_unblocked, even_all_unblocked, lockers, lockers_after, owned_place, sound_thread, sound_used}

-- RESULTS

-- a call that has no effect but its result, an error: no mark
failed_use : (q : Request) → mark_of q (Has EOVERFLOW) ≡ mark_of q Fresh
failed_use (SetPrio u p) = refl
failed_use (Signal c) = refl
failed_use (Broadcast c) = refl
failed_use _ = refl

mark_leaving : (q : Request) → mark_of q (Has ENOTRECOVERABLE) ≡ mark_of q Leaving
mark_leaving (SetPrio u p) = refl
mark_leaving (Signal c) = refl
mark_leaving (Broadcast c) = refl
mark_leaving _ = refl

-- WHAT A MOVE CHANGES

-- what t's open call does from w to v
pub data Changes (t : ℕ) (w v : World) : Type 0 where
  -- it keeps the ledger
  keeps : Keeps w v → Changes t w v
  -- it sets u's base priority to p
  sets : (u p : ℕ) → HasCome w t (SetPrio u p) Fresh → Lives w u → v ≡ with_progress t (Has 0) (with_base u p w) → Changes t w v
  -- it uses its variable
  uses : (q : Request) → HasCome w t q Fresh → is_use q ≡ true → v ≡ with_progress t Used (used (variable_of q) w)
      → Changes t w v

-- and mutexes are in order behind it
pub record Moved (t : ℕ) (w v : World) : Type 0 where
  pub changes : Changes t w v
  pub sound : IsSound v

evenly : {t : ℕ} {w v : World} → IsEven w v → Moved t w v
evenly e = record { changes = keeps e.keeps; sound = e.sound }

module _ {f : ℕ → Option Request} {counts : ℕ → ℕ → ℕ} {w : World} (held : IsHeld f counts w) (s : IsSound w) (t : ℕ) where
  -- LOCKING

  -- t's open call, which never has a mark, comes further
  comes : (q : Request) (p o : Progress) → HasCome w t q p → IsUnmarked q → {v : World} → Comes t o w v → IsEven w v
  comes q p o c un e = rw e (even_unmarked w t q p o c un s)

  -- t owns m, which isn't at place 0
  lives : (q : Request) (p : Progress) → HasCome w t q p → is_living w t ≡ true
  lives q p c = caller_lives held t (record { request = q; progress = p }) c

  own_place : (m : ℕ) (q : Request) (p : Progress) → HasCome w t q p → IsOwner w t m → m ≢ 0
  own_place m q p c own = owned_place held t m (lives q p c) own

  even_LocksAgain : (m : ℕ) (q : Request) (p : Progress) → HasCome w t q p → IsUnmarked q → IsOwner w t m → {v : World}
      → LocksAgain t m w v → IsEven w v
  even_LocksAgain m q p c un own (rises may e) =
      rw e (even_then (even_mutex w m z refl whole (s.owners m) s)
      (λ i. even_unmarked _ t q p (Has 0) c un i))
    where
      z : Mutex
      z = record (mutex_at w m) { count = (mutex_at w m).count + 1 }

      owned : owner_of w m ≢ 0
      owned none =
          true≢false (sym (lives q p c) ∙ ap (is_living w) (sym own ∙ none) ∙ held.orderly.nobody)

      whole : IsWhole z
      whole = record { fine = (s.whole m).fine; held = omega arith; once = λ none. absurd (owned none) }
  even_LocksAgain m q p c un own (at_limit most e) = comes q p (Has EAGAIN) c un e

  even_Locks : (m : ℕ) (q : Request) (p : Progress) → HasCome w t q p → IsUnmarked q → {v : World} → Locks t m w v → IsEven w v
  even_Locks m q p c un (own_normal o k e) = comes q p Stuck c un e
  even_Locks m q p c un (own_errorcheck o k e) = comes q p (Has EDEADLK) c un e
  even_Locks m q p c un (lock_own_recursive o k e) = even_LocksAgain m q p c un o e
  even_Locks m q p c un (lock_free o k e) = rw e (even_taken w t m q p c un (lives q p c) s)
  even_Locks m q p c un (lock_orphaned o e) = comes q p Stuck c un e
  even_Locks m q p c un (cycle o k e) = comes q p (Has EDEADLK) c un e
  even_Locks m q p c un (joins o k e) =
      rw e (even_then (even_waiters w (with_waiter t m w).waiters s)
      (λ i. even_unmarked (with_waiter t m w) t q p Waiting c un i))

  even_TriesToLock : (m : ℕ) → HasCome w t (TryLock m) Fresh → {v : World} → TriesToLock t m w v → IsEven w v
  even_TriesToLock m c (try_own_recursive o k e) = even_LocksAgain m (TryLock m) Fresh c (λ p. refl) o e
  even_TriesToLock m c (try_busy o k e) = comes (TryLock m) Fresh (Has EBUSY) c (λ p. refl) e
  even_TriesToLock m c (try_free o e) =
      rw e (even_taken w t m (TryLock m) Fresh c (λ p. refl) (lives (TryLock m) Fresh c) s)

  -- GIVING UP

  even_Unlocks : (m : ℕ) → HasCome w t (Unlock m) Fresh → {v : World} → Unlocks t m w v → IsEven w v
  even_Unlocks m c (not_owner o e) = comes (Unlock m) Fresh (Has EPERM) c (λ p. refl) e
  even_Unlocks m c (falls o more e) =
      rw e (even_then (even_mutex w m z refl whole (s.owners m) s)
      (λ i. even_unmarked _ t (Unlock m) Fresh (Has 0) c (λ p. refl) i))
    where
      z : Mutex
      z = record (mutex_at w m) { count = (mutex_at w m).count - 1 }

      owned : owner_of w m ≢ 0
      owned none =
          true≢false (sym (lives (Unlock m) Fresh c) ∙ ap (is_living w) (sym o ∙ none) ∙ held.orderly.nobody)

      whole : IsWhole z
      whole = record { fine = (s.whole m).fine; held = omega arith; once = λ none. absurd (owned none) }
  even_Unlocks m c (becomes_unusable o k i e) = (let fine = (s.whole m).fine in absurd (cc))
  even_Unlocks m c (released o k i e) =
      even_then (even_unmarked w t (Unlock m) Fresh (Has 0) c (λ p. refl) s)
      (λ j. even_passes (lockers_after w t (Unlock m) Fresh (Has 0) c (λ x. cc) (lockers held))
      (own_place m (Unlock m) Fresh c o) j e)

  even_GivesUp : (v m : ℕ) (still : Bool) → HasCome w t (Wait v m) (Enlisted still) → {u : World} → GivesUp t m still w u → IsEven w u
  even_GivesUp v m still c (wait_unusable o i e) = (let fine = (s.whole m).fine in absurd (cc))
  even_GivesUp v m still c (wait_released o i e) =
      even_then (even_unmarked w t (Wait v m) (Enlisted still) (on_release still) c (λ p. refl) s)
      (λ j. even_passes (lockers_after w t (Wait v m) (Enlisted still) (on_release still) c (λ x. cc) (lockers held))
      (own_place m (Wait v m) (Enlisted still) c o) j e)

  -- OTHER CALLS

  even_MakesConsistent : (m : ℕ) → HasCome w t (Consistent m) Fresh → {v : World} → MakesConsistent t m w v → IsEven w v
  even_MakesConsistent m c (not_robust o e) = comes (Consistent m) Fresh (Has EINVAL) c (λ p. refl) e
  even_MakesConsistent m c (consistent_not_owner o e) = comes (Consistent m) Fresh (Has EPERM) c (λ p. refl) e
  even_MakesConsistent m c (not_inconsistent o k e) = comes (Consistent m) Fresh (Has EINVAL) c (λ p. refl) e
  even_MakesConsistent m c (made_fine o k e) = (let fine = (s.whole m).fine in absurd (cc))

  even_ChecksWait : (v m : ℕ) → HasCome w t (Wait v m) Fresh → {u : World} → ChecksWait t v m w u → IsEven w u
  even_ChecksWait v m c (other_mutex o e) = comes (Wait v m) Fresh (Has EINVAL) c (λ p. refl) e
  even_ChecksWait v m c (wait_not_owner o k e) = comes (Wait v m) Fresh (Has EPERM) c (λ p. refl) e
  even_ChecksWait v m c (held_more o k i e) = comes (Wait v m) Fresh (Has EINVAL) c (λ p. refl) e
  even_ChecksWait v m c (checked o k i e) = comes (Wait v m) Fresh Checked c (λ p. refl) e

  moved_SetsPriority : (u p : ℕ) → HasCome w t (SetPrio u p) Fresh → {v : World} → SetsPriority t u p w v → Moved t w v
  moved_SetsPriority u p c (no_priority bad e) = evenly (rw e (even_comes w t (SetPrio u p) Fresh (Has EINVAL) c refl s))
  moved_SetsPriority u p c (not_living good gone e) =
      evenly (rw e (even_comes w t (SetPrio u p) Fresh (Has ESRCH) c refl s))
  moved_SetsPriority u p c (changed good alive e) = record {
    changes = sets u p c alive e;
    sound = rw e (sound_thread _ t _ refl (sound_thread w u (record (thread_at w u) { base = p }) refl s));
  }

  moved_Uses : (q : Request) → HasCome w t q Fresh → is_use q ≡ true → {v : World} → Uses t (variable_of q) w v → Moved t w v
  moved_Uses q c is (use_at_limit full e) = evenly (rw e (even_comes w t q Fresh (Has EOVERFLOW) c (failed_use q) s))
  moved_Uses q c is (use_counts some e) = record {
    changes = uses q c is e;
    sound = rw e (sound_thread _ t _ refl (sound_used (variable_of q) w s));
  }

  even_Chooses : (q : Request) → HasCome w t q Used → {v : World} → Chooses t q w v → IsEven w v
  even_Chooses q c (one d u is blocked above e) =
      rw e (even_then (even_comes w t q Used (Has 0) c (ap (λ k. mark_of k (Has 0)) is ∙ sym (ap (λ k. mark_of k Used) is)) s)
      (λ i. even_unblocked u (with_progress t (Has 0) w) i))
  even_Chooses q c (no_one d is none e) =
      rw e (even_comes w t q Used (Has 0) c (ap (λ k. mark_of k (Has 0)) is ∙ sym (ap (λ k. mark_of k Used) is)) s)
  even_Chooses q c (all d us is blocked among e) =
      rw e (even_then (even_comes w t q Used (Has 0) c (ap (λ k. mark_of k (Has 0)) is ∙ sym (ap (λ k. mark_of k Used) is)) s)
      (λ i. even_all_unblocked us (with_progress t (Has 0) w) i))

  -- who has to leave a mutex owns it
  leaves_own : (q : Request) → HasCome w t q Leaving → IsOwner w t (named_by q)
  leaves_own q c = go (cases_eq (owner_of w (named_by q)) t)
    where
      go : (owner_of w (named_by q) ≡ t) ⊎ (owner_of w (named_by q) ≢ t) → owner_of w (named_by q) ≡ t
      go (inl e) = e
      go (inr d) =
          let some = ((held.each t).own (record { request = q; progress = Leaving }) c).1 in
          let none = times-other (is_living w t) t (mutex_at w (named_by q)) d in
          absurd (cc)

  -- EFFECTS

  moved_Effect : {v : World} → Effect t w v → Moved t w v
  moved_Effect (lock m c e) = evenly (even_Locks m (Lock m) Fresh c (λ p. refl) e)
  moved_Effect (try_lock m c e) = evenly (even_TriesToLock m c e)
  moved_Effect (unlock m c e) = evenly (even_Unlocks m c e)
  moved_Effect (consistent m c e) = evenly (even_MakesConsistent m c e)
  moved_Effect (set_prio u p c e) = moved_SetsPriority u p c e
  moved_Effect (check_wait v m c e) = evenly (even_ChecksWait v m c e)
  moved_Effect (enlist v m c e) = evenly (comes (Wait v m) Checked (Enlisted true) c (λ p. refl) e)
  moved_Effect (give_up v m still c e) = evenly (even_GivesUp v m still c e)
  moved_Effect (lock_again v m c e) = evenly (even_Locks m (Wait v m) Reacquiring c (λ p. refl) e)
  moved_Effect (use_variable q c is e) = moved_Uses q c is e
  moved_Effect (choose q c e) = evenly (even_Chooses q c e)
  moved_Effect (leave q c e) =
      evenly (even_then (even_comes w t q Leaving (Has ENOTRECOVERABLE) c (mark_leaving q) s)
      (λ j. even_passes (lockers_after w t q Leaving (Has ENOTRECOVERABLE) c (λ x. cc) (lockers held))
      (own_place (named_by q) q Leaving c (leaves_own q c)) j e))

  even_Expires : {v : World} → Expires t w v → IsEven w v
  even_Expires (lock_expires m p c e) =
      rw e (even_then (even_waiters w (without_waiter t w).waiters s)
      (λ i. even_unmarked (without_waiter t w) t (Lock m) p (Has ETIMEDOUT) c (λ o. refl) i))
  even_Expires (wait_expires v m p c e) =
      rw e (even_then (even_thread w t late refl refl s)
      (λ i. even_unmarked (after_timeout t w) t (Wait v m) p Reacquiring (same ∙ c) (λ o. refl) i))
    where
      late : Thread
      late = record (thread_at w t) { timer = ran_out (thread_at w t).timer }

      same : call_of (after_timeout t w) t ≡ call_of w t
      same = kept_at (λ (y : Thread). y.call) w.threads t late nobody refl t

  -- a move
  pub moved : {v : World} → MovesOnce t w v → Moved t w v
  moved m = by_act m.acts
    where
      by_act : {v : World} → Acts t w v → Moved t w v
      by_act (effect e) = moved_Effect e
      by_act (expires due e) = evenly (even_Expires e)
      by_act (notes v m c e) = evenly (comes (Wait v m) (Blocked false) (Blocked true) c (λ p. refl) e)
