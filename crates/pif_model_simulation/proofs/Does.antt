-- Effects on one call and its mutex, with no list and no world in them; that they are effects of the POSIX machine.
use Rattle.std.proofs.Common.{◌≡◌, ◌≢◌, ℕ, ◌<◌, ◌+◌, ◌-◌, Bool, false, Some, refl, sym, ap, ap₂, ◌∙◌, subst, true}
use Rattle.std.proofs.lemmas.List.{set-get_or}
use Rattle.pif_model.specs.declared.lines.Relock.TheVariants.{Answers, Counts}
use Rattle.pif_model.specs.Kinds.{relock_of}
use Rattle.pif_types.specs.declared.requests.Request.{Request}
use Rattle.pif_types.specs.declared.requests.Request.TheVariants.{Lock, TryLock, Unlock, Consistent, Wait}
use Rattle.pif_model.specs.Graph.{has_waiter}
use Rattle.pif_model.specs.Posix.{Locks, Passes, on_release, named_by, with_health, Progress, Mutex, World, Effect, Effects, LocksAgain, no_mutex, nobody, thread_at, mutex_at, with_thread, with_mutex, with_progress, at_progress, on_taking, taken, effective_of}
use Rattle.pif_model.specs.World.Health.{Fine, Inconsistent, Unusable}
use Rattle.pif_model.specs.World.Progress.{Fresh, Leaving, Has, Enlisted}
use Rattle.pif_model.specs.Posix.Effect.{lock, try_lock, unlock, consistent, lock_again, give_up, leave}
use Rattle.pif_model.specs.Posix.Locks.{own_errorcheck, own_recursive as lock_own_recursive, free as lock_free}
use Rattle.pif_model.specs.Posix.LocksAgain.{rises, at_limit}
use Rattle.pif_model.specs.Posix.TriesToLock.{own_recursive as try_own_recursive, busy, free as try_free}
use Rattle.pif_model.specs.Posix.Unlocks.{not_owner, falls, becomes_unusable, released}
use Rattle.pif_model.specs.Posix.GivesUp.{becomes_unusable as wait_unusable, released as wait_released}
use Rattle.pif_model.specs.Projection.{before_lock}
use Rattle.pif_model.specs.Posix.MakesConsistent.{not_robust, not_owner as consistent_not_owner, not_inconsistent, made_fine}
use Rattle.pif_model.specs.Posix.Passes.{to_nobody}
use Rattle.pif_model.specs.Posix.Effects.{none, then as first}
use Rattle.pif_model_simulation.proofs.Owning.{next_none}

-- q locks m if nobody owns it, and again if its thread does and the kind is RECURSIVE
pub data IsLocking (m : ℕ) (q : Request) : Type 0 where
  by_lock : q ≡ Lock m → IsLocking m q
  by_try_lock : q ≡ TryLock m → IsLocking m q
  by_wait : (c : ℕ) → q ≡ Wait c m → IsLocking m q

-- q waits for m if another owns it: a lock, or a wait that must reacquire its mutex
pub data MayQueue (m : ℕ) (q : Request) : Type 0 where
  in_lock : q ≡ Lock m → MayQueue m q
  in_wait : (c : ℕ) → q ≡ Wait c m → MayQueue m q

-- such a request locks
pub locking : {m : ℕ} {q : Request} → MayQueue m q → IsLocking m q
locking (in_lock e) = by_lock e
locking (in_wait c e) = by_wait c e

-- what t's call q on m, which has come as far as a, does to itself and to its mutex y: it has come as far as b, and the
-- mutex is z. Waited: whether a thread waits for m
pub data Does (t m : ℕ) (waited : Bool) (q : Request) (a : Progress) (y : Mutex) (b : Progress)
    (z : Mutex) : Type 0 where
  nothing : b ≡ a → z ≡ y → Does t m waited q a y b z
  locks_own_errorcheck : q ≡ Lock m → a ≡ Fresh → y.owner ≡ t → relock_of y.kind ≡ Answers → b ≡ Has 35 → z ≡ y
      → Does t m waited q a y b z
  locks_again : IsLocking m q → a ≡ before_lock q → y.owner ≡ t → relock_of y.kind ≡ Counts → y.count < 255 → b ≡ Has 0
      → z ≡ record y { count = y.count + 1 } → Does t m waited q a y b z
  locks_at_limit : IsLocking m q → a ≡ before_lock q → y.owner ≡ t → relock_of y.kind ≡ Counts → y.count ≡ 255 → b ≡ Has 11 → z ≡ y
      → Does t m waited q a y b z
  locks_free : IsLocking m q → a ≡ before_lock q → y.owner ≢ t → y.owner ≡ 0 → b ≡ on_taking y.health
      → z ≡ record y { owner = t; count = 1 } → Does t m waited q a y b z
  tries_owned : q ≡ TryLock m → a ≡ Fresh → y.owner ≢ 0 → (y.owner ≡ t → relock_of y.kind ≢ Counts) → b ≡ Has 16 → z ≡ y
      → Does t m waited q a y b z
  unlocks_not_own : q ≡ Unlock m → a ≡ Fresh → y.owner ≢ t → b ≡ Has 1 → z ≡ y → Does t m waited q a y b z
  unlocks_one : q ≡ Unlock m → a ≡ Fresh → y.owner ≡ t → 1 < y.count → b ≡ Has 0
      → z ≡ record y { count = y.count - 1 } → Does t m waited q a y b z
  gives_up_inconsistent : q ≡ Unlock m → a ≡ Fresh → y.owner ≡ t → y.count ≡ 1 → y.health ≡ Inconsistent → b ≡ Fresh
      → z ≡ record y { health = Unusable } → Does t m waited q a y b z
  leaves : named_by q ≡ m → a ≡ Leaving → waited ≡ false → b ≡ Has 131 → z ≡ record y { owner = 0; count = 1 }
      → Does t m waited q a y b z
  consistent_stalled : q ≡ Consistent m → a ≡ Fresh → y.robust ≡ false → b ≡ Has 22 → z ≡ y → Does t m waited q a y b z
  consistent_other : q ≡ Consistent m → a ≡ Fresh → y.robust ≡ true → y.owner ≢ t → b ≡ Has 1 → z ≡ y
      → Does t m waited q a y b z
  consistent_in_order : q ≡ Consistent m → a ≡ Fresh → y.robust ≡ true → y.owner ≡ t → y.health ≢ Inconsistent
      → b ≡ Has 22 → z ≡ y → Does t m waited q a y b z
  consistent_made : q ≡ Consistent m → a ≡ Fresh → y.robust ≡ true → y.owner ≡ t → y.health ≡ Inconsistent → b ≡ Has 0
      → z ≡ record y { health = Fine } → Does t m waited q a y b z
  waits_inconsistent : (c : ℕ) (still : Bool) → q ≡ Wait c m → a ≡ Enlisted still → y.owner ≡ t
      → y.health ≡ Inconsistent → b ≡ a → z ≡ record y { health = Unusable } → Does t m waited q a y b z
  waits_own : (c : ℕ) (still : Bool) → q ≡ Wait c m → a ≡ Enlisted still → y.owner ≡ t → y.health ≢ Inconsistent
      → waited ≡ false → b ≡ on_release still → z ≡ record y { owner = 0; count = 1 } → Does t m waited q a y b z
  unlocks_own : q ≡ Unlock m → a ≡ Fresh → y.owner ≡ t → y.count ≡ 1 → y.health ≢ Inconsistent → waited ≡ false
      → b ≡ Has 0 → z ≡ record y { owner = 0; count = 1 } → Does t m waited q a y b z

module _ (w : World) (t : ℕ) {q : Request} {a : Progress}
    (call : (thread_at w t).call ≡ Some (record { request = q; progress = a })) where
  -- the call, as a rule of the POSIX machine wants it
  called : (r : Request) → q ≡ r → a ≡ Fresh → (thread_at w t).call ≡ Some (record { request = r; progress = Fresh })
  called r e f = call ∙ (λ i. Some (record { request = e i; progress = f i }))

  -- the call that is to lock
  asked : (r : Request) → q ≡ r → a ≡ before_lock q
      → (thread_at w t).call ≡ Some (record { request = r; progress = before_lock r })
  asked r e f = call ∙ (λ i. Some (record { request = e i; progress = (f ∙ ap before_lock e) i }))

  -- such a call locks by a rule of locking
  pub locks_by : (m : ℕ) {v : World} → MayQueue m q → a ≡ before_lock q → Locks t m w v → Effect t w v
  locks_by m (in_lock e) n rule = lock m (asked (Lock m) e n) rule
  locks_by m (in_wait c e) n rule = lock_again c m (asked (Wait c m) e n) rule

  -- the call is what it was
  unmoved : with_progress t a w ≡ w
  unmoved =
      ap (λ c. with_thread t (record (thread_at w t) { call = c }) w) (ap (at_progress a) call ∙ sym call)
      ∙ (λ i. record w { threads = set-get_or w.threads t nobody i })

  -- a lock or a trylock by the owner, which counts
  again : (m : ℕ) {v : World} → IsLocking m q → a ≡ before_lock q → (mutex_at w m).owner ≡ t → relock_of (mutex_at w m).kind ≡ Counts
      → LocksAgain t m w v → Effect t w v
  again m (by_lock r) n o k e = lock m (asked (Lock m) r n) (lock_own_recursive o k e)
  again m (by_try_lock r) n o k e = try_lock m (asked (TryLock m) r n) (try_own_recursive o k e)
  again m (by_wait c r) n o k e = lock_again c m (asked (Wait c m) r n) (lock_own_recursive o k e)

  -- a lock or a trylock of a free mutex
  takes_free : (m : ℕ) {v : World} → IsLocking m q → a ≡ before_lock q → (mutex_at w m).owner ≢ t → (mutex_at w m).owner ≡ 0
      → v ≡ taken t m w → Effect t w v
  takes_free m (by_lock r) n o k e = lock m (asked (Lock m) r n) (lock_free o k e)
  takes_free m (by_try_lock r) n o k e = try_lock m (asked (TryLock m) r n) (try_free k e)
  takes_free m (by_wait c r) n o k e = lock_again c m (asked (Wait c m) r n) (lock_free o k e)

module _ (w : World) (t m : ℕ) {q : Request} {a b : Progress} {z : Mutex}
    (call : (thread_at w t).call ≡ Some (record { request = q; progress = a })) where
  -- the call has come as far as c, and the mutex is x
  both : (c : Progress) (x : Mutex) → b ≡ c → z ≡ x → with_progress t b (with_mutex m z w) ≡ with_progress t c
      (with_mutex m x w)
  both c x e f = ap₂ (λ d (y : Mutex). with_progress t d (with_mutex m y w)) e f

  -- the call has come as far as c, and the mutex is what it was
  alone : (c : Progress) → b ≡ c → z ≡ mutex_at w m → with_progress t b (with_mutex m z w) ≡ with_progress t c w
  alone c e f = both c (mutex_at w m) e f ∙ (λ i. with_progress t c
      (record w { mutexes = set-get_or w.mutexes m no_mutex i }))

  -- the call has had no effect on itself, and the mutex is Unusable
  fresh_again : a ≡ Fresh → b ≡ Fresh → z ≡ record (mutex_at w m) { health = Unusable }
      → with_progress t b (with_mutex m z w) ≡ with_health m Unusable w
  fresh_again n e f = both a (record (mutex_at w m) { health = Unusable }) (e ∙ sym n) f
      ∙ unmoved (with_health m Unusable w) t call

  -- effects on one call and its mutex are effects of the POSIX machine
  does_here : (w0 : World) → Does t m (has_waiter w.waiters m) q a (mutex_at w m) b z
      → Effects t w0 w (with_progress t b (with_mutex m z w))
  does_here w0 (nothing e f) = none (alone a e f ∙ unmoved w t call)
  does_here w0 (locks_own_errorcheck r n o k e f) = first (lock m (called w t call (Lock m) r n)
      (own_errorcheck o k (alone (Has 35) e f))) (none refl)
  does_here w0 (locks_again r n o k l e f) = first (again w t call m r n o k
      (rises l (both (Has 0) (record (mutex_at w m) { count = (mutex_at w m).count + 1 }) e f))) (none refl)
  does_here w0 (locks_at_limit r n o k l e f) = first (again w t call m r n o k (at_limit l (alone (Has 11) e f)))
      (none refl)
  does_here w0 (locks_free r n o k e f) = first (takes_free w t call m r n o k
      (both (on_taking (mutex_at w m).health) (record (mutex_at w m) { owner = t; count = 1 }) e f)) (none refl)
  does_here w0 (tries_owned r n o k e f) = first (try_lock m (called w t call (TryLock m) r n)
      (busy o k (alone (Has 16) e f))) (none refl)
  does_here w0 (unlocks_not_own r n o e f) = first (unlock m (called w t call (Unlock m) r n)
      (not_owner o (alone (Has 1) e f))) (none refl)
  does_here w0 (unlocks_one r n o l e f) = first (unlock m (called w t call (Unlock m) r n)
      (falls o l (both (Has 0) (record (mutex_at w m) { count = (mutex_at w m).count - 1 }) e f))) (none refl)
  does_here w0 (gives_up_inconsistent r n o c k e f) = first
      (unlock m (called w t call (Unlock m) r n) (becomes_unusable o c k (fresh_again n e f))) (none refl)
  does_here w0 (leaves r n u e f) = first (leave q (call ∙ (λ i. Some (record { request = q; progress = n i })))
      (subst (λ j. Passes j (with_progress t (Has 131) w) (with_progress t b (with_mutex m z w))) (sym r)
      (to_nobody (next_none (effective_of (with_progress t (Has 131) w)) w.waiters m u)
      (both (Has 131) (record (mutex_at w m) { owner = 0; count = 1 }) e f)))) (none refl)
  does_here w0 (consistent_stalled r n o e f) = first (consistent m (called w t call (Consistent m) r n)
      (not_robust o (alone (Has 22) e f))) (none refl)
  does_here w0 (consistent_other r n o k e f) = first (consistent m (called w t call (Consistent m) r n)
      (consistent_not_owner (o, k) (alone (Has 1) e f))) (none refl)
  does_here w0 (consistent_in_order r n o k l e f) = first
      (consistent m (called w t call (Consistent m) r n) (not_inconsistent (o, k) l (alone (Has 22) e f))) (none refl)
  does_here w0 (consistent_made r n o k l e f) = first (consistent m (called w t call (Consistent m) r n)
      (made_fine (o, k) l (both (Has 0) (record (mutex_at w m) { health = Fine }) e f))) (none refl)
  does_here w0 (unlocks_own r n o c k u e f) = first (unlock m (called w t call (Unlock m) r n) (released o c k
      (to_nobody (next_none (effective_of (with_progress t (Has 0) w)) w.waiters m u)
      (both (Has 0) (record (mutex_at w m) { owner = 0; count = 1 }) e f)))) (none refl)
  does_here w0 (waits_inconsistent c still r n o k e f) = first (give_up c m still
      (call ∙ (λ i. Some (record { request = r i; progress = n i })))
      (wait_unusable o k (both a (record (mutex_at w m) { health = Unusable }) e f
      ∙ unmoved (with_health m Unusable w) t call))) (none refl)
  does_here w0 (waits_own c still r n o k u e f) = first (give_up c m still
      (call ∙ (λ i. Some (record { request = r i; progress = n i })))
      (wait_released o k (to_nobody (next_none (effective_of (with_progress t (on_release still) w)) w.waiters m u)
      (both (on_release still) (record (mutex_at w m) { owner = 0; count = 1 }) e f)))) (none refl)

  -- and so they are, seen of the mutex that stands there
  pub does_seen : (w0 : World) {y : Mutex} → mutex_at w m ≡ y → Does t m (has_waiter w.waiters m) q a y b z
      → Effects t w0 w (with_progress t b (with_mutex m z w))
  does_seen w0 here d = does_here w0 (subst (λ x. Does t m (has_waiter w.waiters m) q a x b z) (sym here) d)
