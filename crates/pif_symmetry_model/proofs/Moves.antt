-- A move of a thread is, with other names, a move of the thread that is called so, and the states behind them are the same but
-- for names.
use Rattle.std.proofs.Common.{ℕ, ◌≡◌, ◌≢◌, ◌≤◌, ◌<◌, ◌∙◌, ◌+◌, ◌-◌, ◌==◌, Bool, true, false, List, map, refl, sym, ap, subst}
use Rattle.std.specs.List.{list_any}
use Rattle.pif_types.specs.declared.requests.Request.{Request}
use Rattle.pif_model.specs.Kinds.{relock_of}
use Rattle.pif_model.specs.declared.lines.Relock.{Relock}
use Rattle.pif_model.specs.NamedNumbers.{EPERM, ESRCH, EAGAIN, EBUSY, EINVAL, EDEADLK, EOVERFLOW, ETIMEDOUT, ENOTRECOVERABLE, most_holds}
use Rattle.pif_model.specs.Posix.{World, Mutex, Progress, mutex_at, with_mutex, with_progress, with_waiter, without_waiter, with_base, with_call_by, with_no_owner, used, taken, after_unblocking, after_timeout, all_unblocked, variable_of, named_by, is_still_blocked, is_blocked_on, effective_of, leads_to, next_of, on_release, thread_at, IsOwner, IsNotOwner, IsFree, IsOwned, IsOrphanedByAnother, IsHeldByAnother, Relocks, AreBlocked, AllFoundAreAmong, NoneFoundIsAbove, HasCome, Comes, Locks, LocksAgain, TriesToLock, Passes, Unlocks, MakesConsistent, SetsPriority, ChecksWait, GivesUp, Uses, Chooses, Effect, Expires}
use Rattle.pif_model.specs.World.Health.{Fine, Inconsistent, Unusable}
use Rattle.pif_model.specs.World.Progress.{Waiting, Stuck, Has, Checked, Enlisted, Blocked, Reacquiring, Used}
use Rattle.pif_model.specs.Posix.Locks.{own_normal, own_errorcheck, own_recursive as lock_own_recursive, free as lock_free, orphaned as lock_orphaned, cycle, joins}
use Rattle.pif_model.specs.Posix.LocksAgain.{rises, at_limit}
use Rattle.pif_model.specs.Posix.TriesToLock.{own_recursive as try_own_recursive, busy as try_busy, free as try_free}
use Rattle.pif_model.specs.Posix.Passes.{to_nobody, to_next}
use Rattle.pif_model.specs.Posix.Unlocks.{not_owner, falls, becomes_unusable, released}
use Rattle.pif_model.specs.Posix.MakesConsistent.{not_robust, not_owner as consistent_not_owner, not_inconsistent, made_fine}
use Rattle.pif_model.specs.Posix.SetsPriority.{no_priority, not_living, changed}
use Rattle.pif_model.specs.Posix.ChecksWait.{other_mutex, not_owner as wait_not_owner, held_more, checked}
use Rattle.pif_model.specs.Posix.GivesUp.{becomes_unusable as wait_unusable, released as wait_released}
use Rattle.pif_model.specs.Posix.Uses.{at_limit as use_at_limit, counts as use_counts}
use Rattle.pif_model.specs.Posix.Chooses.{one, no_one, all}
use Rattle.pif_model.specs.Posix.Effect.{lock, try_lock, unlock, consistent, set_prio, check_wait, enlist, give_up, lock_again, use_variable, choose, leave}
use Rattle.pif_model.specs.Posix.Expires.{lock as lock_expires, wait as wait_expires}
use Rattle.pif_posix_steps.specs.Once.{MovesOnce, Acts}
use Rattle.pif_posix_steps.specs.Once.Acts.{effect, expires, notes}
use Rattle.pif_symmetry_model.specs.Renaming.{Mirrors, renamed_request, renamed_call, renamed_mutex}
use Rattle.pif_symmetry_model.proofs.Names.{one_name, none_to_none, some_to_some, among_names}
use Rattle.pif_symmetry_model.proofs.Reading.{variable_same, named_same, use_same, mutex_there, owner_there, bound_there, used_there, call_there, living_there, leads_there, effective_there, next_there, orphaned_there, blocked_there, still_there, due_there, go_there}
use Rattle.pif_symmetry_model.proofs.Changes.{renamed_by_base, renamed_by_timeout, same_thread, same_mutex, same_waiter, same_leaving, same_use, same_progress, same_unblocked, same_all, same_taken}

-- the step of the renamed thread leads to a state that mirrors u
pub record Mirrored (f : ℕ → ℕ) (P : World → Type 0) (u : World) : Type 0 where
  pub after : World
  pub step : P after
  pub mirrors : Mirrors f u after

-- the step is also another's
pub as_step : (f : ℕ → ℕ) {P Q : World → Type 0} → ((z : World) → P z → Q z) → {u : World} → Mirrored f P u → Mirrored f Q u
as_step f g y = record { after = y.after; step = g y.after y.step; mirrors = y.mirrors }

-- it leads to this state
pub steps_to : (f : ℕ → ℕ) (P : World → Type 0) (y z : World) → Mirrors f y z → {u : World} → u ≡ y → P z → Mirrored f P u
steps_to f P y z b e h = record { after = z; step = h; mirrors = subst (λ (k : World). Mirrors f k z) (sym e) b }

-- a mutex passes on
pub passes_too : (f : ℕ → ℕ) (w v : World) → Mirrors f w v → (m : ℕ) → {u : World} → Passes m w u → Mirrored f (Passes m v) u
passes_too f w v a m (to_nobody none e) =
    steps_to f (Passes m v) (with_no_owner m w) (with_no_owner m v)
    (same_mutex f w v a m _ _ ((λ i. record (mutex_there f w v a m i) { owner = 0; count = 1 }) ∙ (λ i. record (mutex_at w m) { owner = sym a.renaming.nobody i; count = 1 }))) e
    (to_nobody (next_there f w v a m ∙ none_to_none f _ a.renaming (next_of w m) none) refl)
passes_too f w v a m (to_next n e some is) =
    steps_to f (Passes m v) (taken n m (without_waiter n w)) (taken (f n) m (without_waiter (f n) v))
    (same_taken f (without_waiter n w) (without_waiter (f n) v) (same_leaving f w v a n) n m) is
    (to_next (f n) (next_there f w v a m ∙ ap f e) (some_to_some f _ a.renaming n some) refl)

module _ (f : ℕ → ℕ) (w v : World) (a : Mirrors f w v) (t : ℕ) where
  -- t's open call has come as far
  come : {q : Request} {p : Progress} → HasCome w t q p → HasCome v (f t) (renamed_request f q) p
  come h = call_there f w v a t ∙ ap (renamed_call f) h

  -- t's call comes to a point, after a change
  comes : (P : World → Type 0) (y z : World) (p : Progress) → Mirrors f y z → {u : World} → Comes t p y u → P (with_progress (f t) p z) → Mirrored f P u
  comes P y z p b e h = steps_to f P (with_progress t p y) (with_progress (f t) p z) (same_progress f y z b t p) e h

  -- a mutex passes on once t's call has come to a point
  passes_after : (m : ℕ) (p : Progress) → {u : World} → Passes m (with_progress t p w) u → Mirrored f (Passes m (with_progress (f t) p v)) u
  passes_after m p y = passes_too f (with_progress t p w) (with_progress (f t) p v) (same_progress f w v a t p) m y

  module _ (m : ℕ) where
    abbrev is : mutex_at v m ≡ renamed_mutex f (mutex_at w m)
    is = mutex_there f w v a m

    -- what is so of m in the one state is in the other, if it doesn't speak of its owner
    also : (P : Mutex → Type 0) → P (renamed_mutex f (mutex_at w m)) → P (mutex_at v m)
    also P h = subst P (sym is) h

    own : IsOwner w t m → IsOwner v (f t) m
    own o = owner_there f w v a m ∙ ap f o

    own_back : IsOwner v (f t) m → IsOwner w t m
    own_back o = one_name f _ a.renaming _ t (sym (owner_there f w v a m) ∙ o)

    own_not : IsNotOwner w t m → IsNotOwner v (f t) m
    own_not o e = o (own_back e)

    free : IsFree w m → IsFree v m
    free o = owner_there f w v a m ∙ none_to_none f _ a.renaming _ o

    owned : IsOwned w m → IsOwned v m
    owned o e = some_to_some f _ a.renaming _ o (sym (owner_there f w v a m) ∙ e)

    orphaned : IsOrphanedByAnother w t m → IsOrphanedByAnother v (f t) m
    orphaned o = (own_not o.0, owned o.1, orphaned_there f w v a m ∙ o.2)

    pub held : IsHeldByAnother w t m → IsHeldByAnother v (f t) m
    held o = (own_not o.0, owned o.1, orphaned_there f w v a m ∙ o.2)

    -- whether m's owner waits for t
    pub leads : leads_to v (mutex_at v m).owner (f t) ≡ leads_to w (mutex_at w m).owner t
    leads = ap (λ z. leads_to v z (f t)) (owner_there f w v a m) ∙ leads_there f w v a (mutex_at w m).owner t

    relocks : {k : Relock} → Relocks w m k → Relocks v m k
    relocks k = ap (λ (z : Mutex). relock_of z.kind) is ∙ k

    too_LocksAgain : {u : World} → LocksAgain t m w u → Mirrored f (LocksAgain (f t) m v) u
    too_LocksAgain (rises may e) =
        comes (LocksAgain (f t) m v) _ _ (Has 0) (same_mutex f w v a m _ _ (λ i. record (is i) { count = (is i).count + 1 })) e
        (rises (also (λ (z : Mutex). z.count < most_holds) may) refl)
    too_LocksAgain (at_limit most e) =
        comes (LocksAgain (f t) m v) w v (Has EAGAIN) a e (at_limit (also (λ (z : Mutex). z.count ≡ most_holds) most) refl)

    too_takes : (P : World → Type 0) {u : World} → u ≡ taken t m w → P (taken (f t) m v) → Mirrored f P u
    too_takes P e h = steps_to f P (taken t m w) (taken (f t) m v) (same_taken f w v a t m) e h

    too_Locks : {u : World} → Locks t m w u → Mirrored f (Locks (f t) m v) u
    too_Locks (own_normal o k e) = comes (Locks (f t) m v) w v Stuck a e (own_normal (own o) (relocks k) refl)
    too_Locks (own_errorcheck o k e) = comes (Locks (f t) m v) w v (Has EDEADLK) a e (own_errorcheck (own o) (relocks k) refl)
    too_Locks (lock_own_recursive o k y) = as_step f (λ z l. lock_own_recursive (own o) (relocks k) l) (too_LocksAgain y)
    too_Locks (lock_free o k e) = too_takes (Locks (f t) m v) e (lock_free (own_not o) (free k) refl)
    too_Locks (lock_orphaned o e) = comes (Locks (f t) m v) w v Stuck a e (lock_orphaned (orphaned o) refl)
    too_Locks (cycle o k e) = comes (Locks (f t) m v) w v (Has EDEADLK) a e (cycle (held o) (leads ∙ k) refl)
    too_Locks (joins o k e) =
        comes (Locks (f t) m v) (with_waiter t m w) (with_waiter (f t) m v) Waiting (same_waiter f w v a t m) e
        (joins (held o) (leads ∙ k) refl)

    too_TriesToLock : {u : World} → TriesToLock t m w u → Mirrored f (TriesToLock (f t) m v) u
    too_TriesToLock (try_own_recursive o k y) = as_step f (λ z l. try_own_recursive (own o) (relocks k) l) (too_LocksAgain y)
    too_TriesToLock (try_busy o k e) =
        comes (TriesToLock (f t) m v) w v (Has EBUSY) a e
        (try_busy (owned o) (λ h l. k (own_back h) (sym (ap (λ (z : Mutex). relock_of z.kind) is) ∙ l)) refl)
    too_TriesToLock (try_free o e) = too_takes (TriesToLock (f t) m v) e (try_free (free o) refl)

    -- a mutex changes in the same way
    changes : (P : World → Type 0) (g : Mutex → Mutex) → (g (renamed_mutex f (mutex_at w m)) ≡ renamed_mutex f (g (mutex_at w m)))
        → {u : World} → u ≡ with_mutex m (g (mutex_at w m)) w → P (with_mutex m (g (mutex_at v m)) v) → Mirrored f P u
    changes P g h e k =
        steps_to f P (with_mutex m (g (mutex_at w m)) w) (with_mutex m (g (mutex_at v m)) v)
        (same_mutex f w v a m _ _ (ap g is ∙ h)) e k

    too_Unlocks : {u : World} → Unlocks t m w u → Mirrored f (Unlocks (f t) m v) u
    too_Unlocks (not_owner o e) = comes (Unlocks (f t) m v) w v (Has EPERM) a e (not_owner (own_not o) refl)
    too_Unlocks (falls o k e) =
        comes (Unlocks (f t) m v) _ _ (Has 0) (same_mutex f w v a m _ _ (λ i. record (is i) { count = (is i).count - 1 })) e
        (falls (own o) (also (λ (z : Mutex). 1 < z.count) k) refl)
    too_Unlocks (becomes_unusable o k h e) =
        changes (Unlocks (f t) m v) (λ z. record z { health = Unusable }) refl e
        (becomes_unusable (own o) (also (λ (z : Mutex). z.count ≡ 1) k) (also (λ (z : Mutex). z.health ≡ Inconsistent) h) refl)
    too_Unlocks (released o k h y) =
        as_step f (λ z l. released (own o) (also (λ (x : Mutex). x.count ≡ 1) k) (also (λ (x : Mutex). x.health ≢ Inconsistent) h) l)
        (passes_after m (Has 0) y)

    too_GivesUp : (still : Bool) {u : World} → GivesUp t m still w u → Mirrored f (GivesUp (f t) m still v) u
    too_GivesUp still (wait_unusable o h e) =
        changes (GivesUp (f t) m still v) (λ z. record z { health = Unusable }) refl e
        (wait_unusable (own o) (also (λ (z : Mutex). z.health ≡ Inconsistent) h) refl)
    too_GivesUp still (wait_released o h y) =
        as_step f (λ z l. wait_released (own o) (also (λ (x : Mutex). x.health ≢ Inconsistent) h) l) (passes_after m (on_release still) y)

    too_MakesConsistent : {u : World} → MakesConsistent t m w u → Mirrored f (MakesConsistent (f t) m v) u
    too_MakesConsistent (not_robust h e) =
        comes (MakesConsistent (f t) m v) w v (Has EINVAL) a e (not_robust (also (λ (z : Mutex). z.robust ≡ false) h) refl)
    too_MakesConsistent (consistent_not_owner h e) =
        comes (MakesConsistent (f t) m v) w v (Has EPERM) a e
        (consistent_not_owner (also (λ (z : Mutex). z.robust ≡ true) h.0, own_not h.1) refl)
    too_MakesConsistent (not_inconsistent h k e) =
        comes (MakesConsistent (f t) m v) w v (Has EINVAL) a e
        (not_inconsistent (also (λ (z : Mutex). z.robust ≡ true) h.0, own h.1) (also (λ (z : Mutex). z.health ≢ Inconsistent) k) refl)
    too_MakesConsistent (made_fine h k e) =
        comes (MakesConsistent (f t) m v) _ _ (Has 0) (same_mutex f w v a m _ _ (λ i. record (is i) { health = Fine })) e
        (made_fine (also (λ (z : Mutex). z.robust ≡ true) h.0, own h.1) (also (λ (z : Mutex). z.health ≡ Inconsistent) k) refl)

    -- a variable is bound to the same mutex
    too_ChecksWait : (c : ℕ) → {u : World} → ChecksWait t c m w u → Mirrored f (ChecksWait (f t) c m v) u
    too_ChecksWait c (other_mutex h e) =
        comes (ChecksWait (f t) c m v) w v (Has EINVAL) a e (other_mutex (λ l. h (sym (bound_there f w v a c) ∙ l)) refl)
    too_ChecksWait c (wait_not_owner h o e) =
        comes (ChecksWait (f t) c m v) w v (Has EPERM) a e (wait_not_owner (bound_there f w v a c ∙ h) (own_not o) refl)
    too_ChecksWait c (held_more h o k e) =
        comes (ChecksWait (f t) c m v) w v (Has EINVAL) a e
        (held_more (bound_there f w v a c ∙ h) (own o) (also (λ (z : Mutex). 1 < z.count) k) refl)
    too_ChecksWait c (checked h o k e) =
        comes (ChecksWait (f t) c m v) w v Checked a e
        (checked (bound_there f w v a c ∙ h) (own o) (also (λ (z : Mutex). z.count ≡ 1) k) refl)

  too_SetsPriority : (n p : ℕ) → {u : World} → SetsPriority t n p w u → Mirrored f (SetsPriority (f t) (f n) p v) u
  too_SetsPriority n p (no_priority h e) = comes (SetsPriority (f t) (f n) p v) w v (Has EINVAL) a e (no_priority h refl)
  too_SetsPriority n p (not_living h l e) =
      comes (SetsPriority (f t) (f n) p v) w v (Has ESRCH) a e (not_living h (living_there f w v a n ∙ l) refl)
  too_SetsPriority n p (changed h l e) =
      comes (SetsPriority (f t) (f n) p v) (with_base n p w) (with_base (f n) p v) (Has 0)
      (same_thread f w v a n _ _ (renamed_by_base f p (thread_at w n) (thread_at v (f n)) (a.thread n))) e
      (changed h (living_there f w v a n ∙ l) refl)

  too_Uses : (c : ℕ) → {u : World} → Uses t c w u → Mirrored f (Uses (f t) c v) u
  too_Uses c (use_at_limit h e) =
      comes (Uses (f t) c v) w v (Has EOVERFLOW) a e (use_at_limit (used_there f w v a c ∙ h ∙ sym a.signals) refl)
  too_Uses c (use_counts h e) =
      comes (Uses (f t) c v) (used c w) (used c v) Used (same_use f w v a c) e
      (use_counts (λ k. h (sym (used_there f w v a c) ∙ k ∙ a.signals)) refl)

  -- each b in the other state is called so by a thread of the one
  module _ (c : ℕ) where
    still_back : (b : ℕ) → is_still_blocked v (f t) c b ≡ is_still_blocked w t c (a.renaming.back b)
    still_back b = ap (is_still_blocked v (f t) c) (sym (a.renaming.again b)) ∙ still_there f w v a t c (a.renaming.back b)

    blocked_all : (us : List ℕ) → AreBlocked w c us → AreBlocked v c (map f us)
    blocked_all us h b k =
        ap (is_blocked_on v c) (sym (a.renaming.again b)) ∙ blocked_there f w v a c (a.renaming.back b)
        ∙ h (a.renaming.back b) (sym (among_names f _ a.renaming us (a.renaming.back b)) ∙ ap (λ z. list_any (λ x. x == z) (map f us)) (a.renaming.again b) ∙ k)

    found_all : (us : List ℕ) → AllFoundAreAmong w t c us → AllFoundAreAmong v (f t) c (map f us)
    found_all us h b k =
        ap (λ z. list_any (λ x. x == z) (map f us)) (sym (a.renaming.again b))
        ∙ among_names f _ a.renaming us (a.renaming.back b) ∙ h (a.renaming.back b) (sym (still_back b) ∙ k)

    none_above : (n : ℕ) → NoneFoundIsAbove w t c n → NoneFoundIsAbove v (f t) c (f n)
    none_above n h b k =
        subst (λ (p : ℕ). effective_of v b ≤ p) (sym (effective_there f w v a n))
        (subst (λ (z : ℕ). effective_of v z ≤ effective_of w n) (a.renaming.again b)
        (subst (λ (p : ℕ). p ≤ effective_of w n) (sym (effective_there f w v a (a.renaming.back b)))
        (h (a.renaming.back b) (sym (still_back b) ∙ k))))

  too_Chooses : (q : Request) {u : World} → Chooses t q w u → Mirrored f (Chooses (f t) (renamed_request f q) v) u
  too_Chooses q (one c n is b none e) =
      steps_to f (Chooses (f t) (renamed_request f q) v) (with_call_by n after_unblocking (with_progress t (Has 0) w)) (with_call_by (f n) after_unblocking (with_progress (f t) (Has 0) v))
      (same_unblocked f _ _ (same_progress f w v a t (Has 0)) n) e
      (one c (f n) (ap (renamed_request f) is) (blocked_there f w v a c n ∙ b) (none_above c n none) refl)
  too_Chooses q (no_one c is none e) =
      comes (Chooses (f t) (renamed_request f q) v) w v (Has 0) a e
      (no_one c (ap (renamed_request f) is) (λ b. still_back c b ∙ none (a.renaming.back b)) refl)
  too_Chooses q (all c us is b among e) =
      steps_to f (Chooses (f t) (renamed_request f q) v) (all_unblocked us (with_progress t (Has 0) w)) (all_unblocked (map f us) (with_progress (f t) (Has 0) v))
      (same_all f us _ _ (same_progress f w v a t (Has 0))) e
      (all c (map f us) (ap (renamed_request f) is) (blocked_all c us b) (found_all c us among) refl)

  -- MOVES

  too_Effect : {u : World} → Effect t w u → Mirrored f (Effect (f t) v) u
  too_Effect (lock m h y) = as_step f (λ z k. lock m (come h) k) (too_Locks m y)
  too_Effect (try_lock m h y) = as_step f (λ z k. try_lock m (come h) k) (too_TriesToLock m y)
  too_Effect (unlock m h y) = as_step f (λ z k. unlock m (come h) k) (too_Unlocks m y)
  too_Effect (consistent m h y) = as_step f (λ z k. consistent m (come h) k) (too_MakesConsistent m y)
  too_Effect (set_prio n p h y) = as_step f (λ z k. set_prio (f n) p (come h) k) (too_SetsPriority n p y)
  too_Effect (check_wait c m h y) = as_step f (λ z k. check_wait c m (come h) k) (too_ChecksWait m c y)
  too_Effect (enlist c m h e) = comes (Effect (f t) v) w v (Enlisted true) a e (enlist c m (come h) refl)
  too_Effect (give_up c m still h y) = as_step f (λ z k. give_up c m still (come h) k) (too_GivesUp m still y)
  too_Effect (lock_again c m h y) = as_step f (λ z k. lock_again c m (come h) k) (too_Locks m y)
  too_Effect (use_variable q h k y) =
      as_step f (λ z l. use_variable (renamed_request f q) (come h) (use_same f q ∙ k)
      (subst (λ (c : ℕ). Uses (f t) c v z) (sym (variable_same f q)) l)) (too_Uses (variable_of q) y)
  too_Effect (choose q h y) = as_step f (λ z k. choose (renamed_request f q) (come h) k) (too_Chooses q y)
  too_Effect (leave q h y) =
      as_step f (λ z k. leave (renamed_request f q) (come h)
      (subst (λ (m : ℕ). Passes m (with_progress (f t) (Has ENOTRECOVERABLE) v) z) (sym (named_same f q)) k)) (passes_after (named_by q) (Has ENOTRECOVERABLE) y)

  too_Expires : {u : World} → Expires t w u → Mirrored f (Expires (f t) v) u
  too_Expires (lock_expires m p h e) =
      comes (Expires (f t) v) (without_waiter t w) (without_waiter (f t) v) (Has ETIMEDOUT) (same_leaving f w v a t) e (lock_expires m p (come h) refl)
  too_Expires (wait_expires c m p h e) =
      comes (Expires (f t) v) (after_timeout t w) (after_timeout (f t) v) Reacquiring
      (same_thread f w v a t _ _ (renamed_by_timeout f (thread_at w t) (thread_at v (f t)) (a.thread t))) e (wait_expires c m p (come h) refl)

  too_Acts : {u : World} → Acts t w u → Mirrored f (Acts (f t) v) u
  too_Acts (effect y) = as_step f (λ z k. effect k) (too_Effect y)
  too_Acts (expires due y) = as_step f (λ z k. expires (due_there f w v a t ∙ due) k) (too_Expires y)
  too_Acts (notes c m h e) = comes (Acts (f t) v) w v (Blocked true) a e (notes c m (come h) refl)

  -- a move of t is, renamed, a move of f t
  pub too_move : {u : World} → MovesOnce t w u → Mirrored f (MovesOnce (f t) v) u
  too_move y = as_step f (λ z k. record { allowed = go_there f w v a t ∙ y.allowed; acts = k }) (too_Acts y.acts)
