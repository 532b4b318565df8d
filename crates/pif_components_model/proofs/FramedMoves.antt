-- A move of a thread leaves all of the other side as it was, and the sides don't meet behind it.
use Rattle.std.proofs.Common.{ℕ, ◌≡◌, ◌≢◌, ◌∙◌, ◌+◌, ◌-◌, Bool, true, Some, refl, sym, ap, subst}
use Rattle.pif_types.specs.declared.requests.Request.{Request}
use Rattle.pif_types.specs.declared.requests.Request.TheVariants.{Lock, TryLock, Unlock, Consistent, Wait, Signal, Broadcast, SetPrio}
use Rattle.pif_types.specs.Shapes.{names_of}
use Rattle.pif_model.specs.NamedNumbers.{EPERM, ESRCH, EAGAIN, EBUSY, EINVAL, EDEADLK, EOVERFLOW, ETIMEDOUT, ENOTRECOVERABLE}
use Rattle.pif_model.specs.Posix.{World, Mutex, Progress, thread_at, mutex_at, with_mutex, with_progress, with_waiter, without_waiter, with_base, used, taken, after_timeout, variable_of, named_by, is_use, on_release, HasCome, Comes, Locks, LocksAgain, TriesToLock, Passes, Unlocks, MakesConsistent, SetsPriority, ChecksWait, GivesUp, Uses, Chooses, Effect, Expires}
use Rattle.pif_model.specs.World.Health.{Fine, Unusable}
use Rattle.pif_model.specs.World.Progress.{Waiting, Stuck, Has, Checked, Enlisted, Blocked, Reacquiring, Used}
use Rattle.pif_model.specs.Posix.Locks.{own_normal, own_errorcheck, own_recursive as lock_own_recursive, free as lock_free, orphaned as lock_orphaned, cycle, joins}
use Rattle.pif_model.specs.Posix.LocksAgain.{rises, at_limit}
use Rattle.pif_model.specs.Posix.TriesToLock.{own_recursive as try_own_recursive, busy as try_busy, free as try_free}
use Rattle.pif_model.specs.Posix.Unlocks.{not_owner, falls, becomes_unusable, released}
use Rattle.pif_model.specs.Posix.MakesConsistent.{not_robust, not_owner as consistent_not_owner, not_inconsistent, made_fine}
use Rattle.pif_model.specs.Posix.SetsPriority.{no_priority, not_living, changed}
use Rattle.pif_model.specs.Posix.ChecksWait.{other_mutex, not_owner as wait_not_owner, held_more, checked}
use Rattle.pif_model.specs.Posix.GivesUp.{becomes_unusable as wait_unusable, released as wait_released}
use Rattle.pif_model.specs.Posix.Uses.{at_limit as use_at_limit, counts as use_counts}
use Rattle.pif_model.specs.Posix.Chooses.{one, no_one, all}
use Rattle.pif_model.specs.Posix.Effect.{lock, try_lock, unlock, consistent, set_prio, check_wait, enlist, give_up, lock_again, use_variable, choose, leave}
use Rattle.pif_model.specs.Posix.Expires.{lock as lock_expires, wait as wait_expires}
use Rattle.pif_posix_steps.specs.Once.{MovesOnce, Acts}
use Rattle.pif_posix_steps.specs.Once.Acts.{effect, expires, notes}
use Rattle.pif_components_model.specs.Components.{Side}
use Rattle.pif_components_model.specs.Components.IsNamed.{thread as names_thread, mutex as names_mutex, variable as names_variable}
use Rattle.pif_components_model.specs.Components.Name.{OfThread, OfMutex, OfVariable}
use Rattle.pif_components_model.specs.Sides.{IsSplit, request_of}
use Rattle.pif_components_model.proofs.Lists.{is_there}
use Rattle.pif_components_model.proofs.Frames.{Passed, passed_then, passed_thread, passed_mutex, passed_waiter, passed_without, passed_used, passed_progress, passed_unblocked, passed_all, passed_taken, passed_on, blocked_side}

-- a mutex of t's side, that has a number
abbrev pub IsMine : Side → (t m : ℕ) → Type 0
IsMine x t m = (x (OfMutex m) ≡ x (OfThread t)) × (m ≢ 0)

-- a variable of t's side, that has a number
abbrev pub IsUsable : Side → (t c : ℕ) → Type 0
IsUsable x t c = (x (OfVariable c) ≡ x (OfThread t)) × (c ≢ 0)

module _ (x : Side) (t : ℕ) (w : World) (s : IsSplit x w) where
  -- what t's open call names is on its side
  pub its_mutex : (q : Request) {p : Progress} (m : ℕ) → HasCome w t q p → (names_of q).mutex ≡ Some m → IsMine x t m
  its_mutex q m c e =
      let b = s.calls t q (ap request_of c) in
      (b.sides (OfMutex m) (names_mutex m e), b.mutex m e)

  pub its_variable : (q : Request) {p : Progress} (c : ℕ) → HasCome w t q p → (names_of q).cond ≡ Some c → IsUsable x t c
  its_variable q c h e =
      let b = s.calls t q (ap request_of h) in
      (b.sides (OfVariable c) (names_variable c e), b.variable c e)

  pub its_thread : (q : Request) {p : Progress} (u : ℕ) → HasCome w t q p → (names_of q).thread ≡ Some u → x (OfThread u) ≡ x (OfThread t)
  its_thread q u h e = (s.calls t q (ap request_of h)).sides (OfThread u) (names_thread u e)

  -- the mutex that t's open call names is on its side, if it names one
  pub its_named : (q : Request) {p : Progress} → HasCome w t q p → named_by q ≢ 0 → x (OfMutex (named_by q)) ≡ x (OfThread t)
  its_named q c some = (its_mutex q (named_by q) c (is_there (names_of q).mutex some)).0

  -- t's call comes to a point
  comes : (p : Progress) {v : World} → Comes t p w v → Passed x t w v
  comes p e = subst (Passed x t w) (sym e) (passed_progress x t t p w s refl)

  -- t's call comes to a point, after a change
  comes_then : (y : World) (p : Progress) → Passed x t w y → {v : World} → Comes t p y v → Passed x t w v
  comes_then y p f e = subst (Passed x t w) (sym e) (passed_then x t f (passed_progress x t t p y f.split refl))

  -- a mutex of t's side changes, and keeps its owner
  keeps_owner : (m : ℕ) (y : Mutex) → IsMine x t m → y.owner ≡ (mutex_at w m).owner → Passed x t w (with_mutex m y w)
  keeps_owner m y i e =
      passed_mutex x t m y w s (λ z. i.0)
      (λ z. subst (λ (o : ℕ). (x (OfThread o) ≡ x (OfMutex m)) × (m ≢ 0)) (sym e) (s.owners m (λ k. z (e ∙ k))))

  -- LOCKING

  passes_LocksAgain : (m : ℕ) → IsMine x t m → {v : World} → LocksAgain t m w v → Passed x t w v
  passes_LocksAgain m i (rises may e) =
      comes_then _ (Has 0) (keeps_owner m (record (mutex_at w m) { count = (mutex_at w m).count + 1 }) i refl) e
  passes_LocksAgain m i (at_limit most e) = comes (Has EAGAIN) e

  takes : (m : ℕ) → IsMine x t m → {v : World} → v ≡ taken t m w → Passed x t w v
  takes m i e = subst (Passed x t w) (sym e) (passed_taken x t t m w s refl i.0 i.1)

  passes_Locks : (m : ℕ) → IsMine x t m → {v : World} → Locks t m w v → Passed x t w v
  passes_Locks m i (own_normal o r e) = comes Stuck e
  passes_Locks m i (own_errorcheck o r e) = comes (Has EDEADLK) e
  passes_Locks m i (lock_own_recursive o r y) = passes_LocksAgain m i y
  passes_Locks m i (lock_free o f e) = takes m i e
  passes_Locks m i (lock_orphaned o e) = comes Stuck e
  passes_Locks m i (cycle o k e) = comes (Has EDEADLK) e
  passes_Locks m i (joins o k e) = comes_then (with_waiter t m w) Waiting (passed_waiter x t m w s i.0 i.1) e

  passes_TriesToLock : (m : ℕ) → IsMine x t m → {v : World} → TriesToLock t m w v → Passed x t w v
  passes_TriesToLock m i (try_own_recursive o r y) = passes_LocksAgain m i y
  passes_TriesToLock m i (try_busy o r e) = comes (Has EBUSY) e
  passes_TriesToLock m i (try_free o e) = takes m i e

  -- GIVING UP

  -- a mutex passes on once t's call has come to a point
  passes_after : (m : ℕ) (p : Progress) → (m ≢ 0 → x (OfMutex m) ≡ x (OfThread t)) → {v : World} → Passes m (with_progress t p w) v → Passed x t w v
  passes_after m p i y =
      let f = passed_progress x t t p w s refl in
      passed_then x t f (passed_on x t m (with_progress t p w) f.split i y)

  passes_Unlocks : (m : ℕ) → IsMine x t m → {v : World} → Unlocks t m w v → Passed x t w v
  passes_Unlocks m i (not_owner o e) = comes (Has EPERM) e
  passes_Unlocks m i (falls o k e) =
      comes_then _ (Has 0) (keeps_owner m (record (mutex_at w m) { count = (mutex_at w m).count - 1 }) i refl) e
  passes_Unlocks m i (becomes_unusable o k h e) =
      subst (Passed x t w) (sym e) (keeps_owner m (record (mutex_at w m) { health = Unusable }) i refl)
  passes_Unlocks m i (released o k h y) = passes_after m (Has 0) (λ z. i.0) y

  passes_GivesUp : (m : ℕ) (still : Bool) → IsMine x t m → {v : World} → GivesUp t m still w v → Passed x t w v
  passes_GivesUp m still i (wait_unusable o h e) =
      subst (Passed x t w) (sym e) (keeps_owner m (record (mutex_at w m) { health = Unusable }) i refl)
  passes_GivesUp m still i (wait_released o h y) = passes_after m (on_release still) (λ z. i.0) y

  -- OTHER CALLS

  passes_MakesConsistent : (m : ℕ) → IsMine x t m → {v : World} → MakesConsistent t m w v → Passed x t w v
  passes_MakesConsistent m i (not_robust h e) = comes (Has EINVAL) e
  passes_MakesConsistent m i (consistent_not_owner h e) = comes (Has EPERM) e
  passes_MakesConsistent m i (not_inconsistent h k e) = comes (Has EINVAL) e
  passes_MakesConsistent m i (made_fine h k e) =
      comes_then _ (Has 0) (keeps_owner m (record (mutex_at w m) { health = Fine }) i refl) e

  passes_SetsPriority : (u p : ℕ) → x (OfThread u) ≡ x (OfThread t) → {v : World} → SetsPriority t u p w v → Passed x t w v
  passes_SetsPriority u p i (no_priority n e) = comes (Has EINVAL) e
  passes_SetsPriority u p i (not_living n l e) = comes (Has ESRCH) e
  passes_SetsPriority u p i (changed n l e) =
      comes_then (with_base u p w) (Has 0) (passed_thread x t u (record (thread_at w u) { base = p }) w s i refl) e

  passes_ChecksWait : (c m : ℕ) {v : World} → ChecksWait t c m w v → Passed x t w v
  passes_ChecksWait c m (other_mutex h e) = comes (Has EINVAL) e
  passes_ChecksWait c m (wait_not_owner h o e) = comes (Has EPERM) e
  passes_ChecksWait c m (held_more h o k e) = comes (Has EINVAL) e
  passes_ChecksWait c m (checked h o k e) = comes Checked e

  passes_Uses : (c : ℕ) → IsUsable x t c → {v : World} → Uses t c w v → Passed x t w v
  passes_Uses c i (use_at_limit h e) = comes (Has EOVERFLOW) e
  passes_Uses c i (use_counts h e) = comes_then (used c w) Used (passed_used x t c w s i.0 i.1) e

  passes_Chooses : (q : Request) → ((c : ℕ) → (names_of q).cond ≡ Some c → IsUsable x t c) → {v : World} → Chooses t q w v → Passed x t w v
  passes_Chooses q i (one c u is b none e) =
      let named = i c (ap (λ (r : Request). (names_of r).cond) is) in
      let f = passed_progress x t t (Has 0) w s refl in
      subst (Passed x t w) (sym e)
      (passed_then x t f (passed_unblocked x t u (with_progress t (Has 0) w) f.split (blocked_side x w s c u named.1 b ∙ named.0)))
  passes_Chooses q i (no_one c is none e) = comes (Has 0) e
  passes_Chooses q i (all c us is b among e) =
      let named = i c (ap (λ (r : Request). (names_of r).cond) is) in
      let f = passed_progress x t t (Has 0) w s refl in
      subst (Passed x t w) (sym e)
      (passed_then x t f (passed_all x t us (with_progress t (Has 0) w) f.split (λ u k. blocked_side x w s c u named.1 (b u k) ∙ named.0)))

  -- MOVES

  -- a request that uses a variable names it
  pub use_names : (q : Request) → is_use q ≡ true → (names_of q).cond ≡ Some (variable_of q)
  use_names (Signal c) h = refl
  use_names (Broadcast c) h = refl
  use_names q h = absurd (cc)

  passes_Effect : {v : World} → Effect t w v → Passed x t w v
  passes_Effect (lock m h y) = passes_Locks m (its_mutex (Lock m) m h refl) y
  passes_Effect (try_lock m h y) = passes_TriesToLock m (its_mutex (TryLock m) m h refl) y
  passes_Effect (unlock m h y) = passes_Unlocks m (its_mutex (Unlock m) m h refl) y
  passes_Effect (consistent m h y) = passes_MakesConsistent m (its_mutex (Consistent m) m h refl) y
  passes_Effect (set_prio u p h y) = passes_SetsPriority u p (its_thread (SetPrio u p) u h refl) y
  passes_Effect (check_wait c m h y) = passes_ChecksWait c m y
  passes_Effect (enlist c m h e) = comes (Enlisted true) e
  passes_Effect (give_up c m still h y) = passes_GivesUp m still (its_mutex (Wait c m) m h refl) y
  passes_Effect (lock_again c m h y) = passes_Locks m (its_mutex (Wait c m) m h refl) y
  passes_Effect (use_variable q h k y) = passes_Uses (variable_of q) (its_variable q (variable_of q) h (use_names q k)) y
  passes_Effect (choose q h y) = passes_Chooses q (λ c e. its_variable q c h e) y
  passes_Effect (leave q h y) = passes_after (named_by q) (Has ENOTRECOVERABLE) (its_named q h) y

  passes_Expires : {v : World} → Expires t w v → Passed x t w v
  passes_Expires (lock_expires m p h e) = comes_then (without_waiter t w) (Has ETIMEDOUT) (passed_without x t t w s refl) e
  passes_Expires (wait_expires c m p h e) =
      comes_then (after_timeout t w) Reacquiring (passed_thread x t t _ w s refl refl) e

  passes_Acts : {v : World} → Acts t w v → Passed x t w v
  passes_Acts (effect y) = passes_Effect y
  passes_Acts (expires due y) = passes_Expires y
  passes_Acts (notes c m h e) = comes (Blocked true) e

  -- a move of t
  pub passes_move : {v : World} → MovesOnce t w v → Passed x t w v
  passes_move y = passes_Acts y.acts
