-- A move of a thread of a side is possible in each state that agrees on the side, and the states behind it agree.
use Rattle.std.proofs.Common.{ℕ, ◌≡◌, ◌≢◌, ◌≤◌, ◌<◌, ◌∙◌, ◌+◌, ◌-◌, Bool, true, false, Some, refl, sym, ap, subst, inl, inr}
use Rattle.std.proofs.lemmas.Bool.{cases_eq, true≢false, false_from_ne_true}
use Rattle.pif_types.specs.declared.requests.Request.{Request}
use Rattle.pif_types.specs.declared.requests.Request.TheVariants.{Lock, TryLock, Unlock, Consistent, Wait, SetPrio}
use Rattle.pif_types.specs.Shapes.{names_of}
use Rattle.pif_model.specs.Kinds.{relock_of}
use Rattle.pif_model.specs.Deadlines.{ran_out}
use Rattle.pif_model.specs.declared.lines.Relock.TheVariants.{Counts}
use Rattle.pif_model.specs.NamedNumbers.{EPERM, ESRCH, EAGAIN, EBUSY, EINVAL, EDEADLK, EOVERFLOW, ETIMEDOUT, ENOTRECOVERABLE, most_holds}
use Rattle.pif_model.specs.Posix.{World, Mutex, Thread, Variable, Progress, mutex_at, variable_at, with_mutex, with_progress, with_waiter, without_waiter, with_base, with_call_by, with_no_owner, used, taken, after_unblocking, after_timeout, all_unblocked, variable_of, named_by, is_orphaned, is_still_blocked, is_blocked_on, effective_of, leads_to, next_of, on_release, HasCome, Comes, Locks, LocksAgain, TriesToLock, Passes, Unlocks, MakesConsistent, SetsPriority, ChecksWait, GivesUp, Uses, Chooses, Effect, Expires}
use Rattle.pif_model.specs.World.Health.{Fine, Inconsistent, Unusable}
use Rattle.pif_model.specs.World.Progress.{Waiting, Stuck, Has, Checked, Enlisted, Blocked, Reacquiring, Used}
use Rattle.pif_model.specs.Posix.Locks.{own_normal, own_errorcheck, own_recursive as lock_own_recursive, free as lock_free, orphaned as lock_orphaned, cycle, joins}
use Rattle.pif_model.specs.Posix.LocksAgain.{rises, at_limit}
use Rattle.pif_model.specs.Posix.TriesToLock.{own_recursive as try_own_recursive, busy as try_busy, free as try_free}
use Rattle.pif_model.specs.Posix.Passes.{to_nobody, to_next}
use Rattle.pif_model.specs.Posix.Unlocks.{not_owner, falls, becomes_unusable, released}
use Rattle.pif_model.specs.Posix.MakesConsistent.{not_robust, not_owner as consistent_not_owner, not_inconsistent, made_fine}
use Rattle.pif_model.specs.Posix.SetsPriority.{no_priority, not_living, changed}
use Rattle.pif_model.specs.Posix.ChecksWait.{other_mutex, not_owner as wait_not_owner, held_more, checked}
use Rattle.pif_model.specs.Posix.GivesUp.{becomes_unusable as wait_unusable, released as wait_released}
use Rattle.pif_model.specs.Posix.Uses.{at_limit as use_at_limit, counts as use_counts}
use Rattle.pif_model.specs.Posix.Chooses.{one, no_one, all}
use Rattle.pif_model.specs.Posix.Effect.{lock, try_lock, unlock, consistent, set_prio, check_wait, enlist, give_up, lock_again, use_variable, choose, leave}
use Rattle.pif_model.specs.Posix.Expires.{lock as lock_expires, wait as wait_expires}
use Rattle.pif_posix_steps.specs.Once.{MovesOnce, Acts}
use Rattle.pif_posix_steps.specs.Once.Acts.{effect, expires, notes}
use Rattle.pif_components_model.specs.Components.{Side}
use Rattle.pif_components_model.specs.Components.Name.{OfThread, OfMutex, OfVariable}
use Rattle.pif_components_model.specs.Sides.{Agrees, IsSplit}
use Rattle.pif_components_model.proofs.Lists.{both_true}
use Rattle.pif_components_model.proofs.Frames.{passed_progress, next_side, blocked_side}
use Rattle.pif_components_model.proofs.FramedMoves.{IsUsable, its_mutex, its_variable, its_thread, its_named, use_names}
use Rattle.pif_components_model.proofs.Reading.{effective_same, leads_same, next_same, living_same, blocked_same, still_same, due_same, go_same, orphaned_same}
use Rattle.pif_components_model.proofs.Changes.{same_thread, same_mutex, same_waiter, same_without, same_used, same_progress, same_unblocked, same_all, same_taken}

-- the step leads from this state too, to one that agrees with u on the side
pub record Echo (x : Side) (P : World → Type 0) (u : World) : Type 0 where
  pub after : World
  pub step : P after
  pub agrees : Agrees x u after

-- a mutex passes on
pub passes_too : (x : Side) (w v : World) → IsSplit x w → IsSplit x v → Agrees x w v → (m : ℕ) → (m ≢ 0 → x (OfMutex m) ≡ true) → {u : World}
    → Passes m w u → Echo x (Passes m v) u
passes_too x w v s r a m on {u} (to_nobody none e) = record {
  after = with_no_owner m v;
  step = to_nobody (elim (cases_eq (next_of v m) 0) [
    | inl is ↦ is
    | inr ne ↦ next_same x w v s r a m (on (next_side x v r m (next_of v m) refl ne).1) ∙ none
  ]) refl;
  agrees = subst (λ (z : World). Agrees x z (with_no_owner m v)) (sym e)
      (same_mutex x w v a m _ _ (λ z i. record (a.mutex m z (on z) i) { owner = 0; count = 1 }));
}
passes_too x w v s r a m on {u} (to_next n e some is) =
    let k = next_side x w s m n e some in
    let its : x (OfMutex m) ≡ true = on k.1 in
    record {
      after = taken n m (without_waiter n v);
      step = to_next n (next_same x w v s r a m its ∙ e) some refl;
      agrees = subst (λ (z : World). Agrees x z (taken n m (without_waiter n v))) (sym is)
          (same_taken x (without_waiter n w) (without_waiter n v) (same_without x w v a n) n m (k.0 ∙ its) k.1 its);
    }

module _ (x : Side) (w v : World) (s : IsSplit x w) (r : IsSplit x v) (a : Agrees x w v) (t : ℕ) (on : x (OfThread t) ≡ true) where
  -- t's open call has come as far
  come : {q : Request} {p : Progress} → HasCome w t q p → HasCome v t q p
  come h = ap (λ (z : Thread). z.call) (a.thread t on) ∙ h

  -- t's call comes to a point, after a change
  comes : (P : World → Type 0) (y z : World) (p : Progress) → Agrees x y z → {u : World} → Comes t p y u → P (with_progress t p z) → Echo x P u
  comes P y z p b {u} e h = record {
    after = with_progress t p z;
    step = h;
    agrees = subst (λ (k : World). Agrees x k (with_progress t p z)) (sym e) (same_progress x y z b t on p);
  }

  -- a mutex passes on once t's call has come to a point
  passes_after : (m : ℕ) (p : Progress) → (m ≢ 0 → x (OfMutex m) ≡ true) → {u : World} → Passes m (with_progress t p w) u
      → Echo x (Passes m (with_progress t p v)) u
  passes_after m p its y =
      passes_too x (with_progress t p w) (with_progress t p v) (passed_progress x t t p w s refl).split (passed_progress x t t p v r refl).split
      (same_progress x w v a t on p) m its y

  module _ (m : ℕ) (some : m ≢ 0) (its : x (OfMutex m) ≡ true) where
    -- m is the same
    abbrev is : mutex_at v m ≡ mutex_at w m
    is = a.mutex m some its

    -- what is so of m in the one state is in the other
    also : (P : Mutex → Type 0) → P (mutex_at w m) → P (mutex_at v m)
    also P h = subst P (sym is) h

    echo_LocksAgain : {u : World} → LocksAgain t m w u → Echo x (LocksAgain t m v) u
    echo_LocksAgain (rises may e) =
        comes (LocksAgain t m v) _ _ (Has 0) (same_mutex x w v a m _ _ (λ z i. record (is i) { count = (is i).count + 1 })) e
        (rises (also (λ (z : Mutex). z.count < most_holds) may) refl)
    echo_LocksAgain (at_limit most e) =
        comes (LocksAgain t m v) w v (Has EAGAIN) a e (at_limit (also (λ (z : Mutex). z.count ≡ most_holds) most) refl)

    abbrev OwnedBy : Mutex → Type 0
    OwnedBy z = z.owner ≡ t

    abbrev NotOwnedBy : Mutex → Type 0
    NotOwnedBy z = z.owner ≢ t

    orphaned : (mutex_at w m).owner ≢ 0 → is_orphaned v m ≡ is_orphaned w m
    orphaned owned = orphaned_same x w v s r a m some its owned

    -- whether m's owner waits for t
    leads : (mutex_at w m).owner ≢ 0 → leads_to v (mutex_at v m).owner t ≡ leads_to w (mutex_at w m).owner t
    leads owned =
        ap (λ (z : Mutex). leads_to v z.owner t) is ∙ leads_same x w v s r a (mutex_at w m).owner t ((s.owners m owned).0 ∙ its)

    echo_takes : (P : World → Type 0) {u : World} → u ≡ taken t m w → P (taken t m v) → Echo x P u
    echo_takes P e h = record {
      after = taken t m v;
      step = h;
      agrees = subst (λ (k : World). Agrees x k (taken t m v)) (sym e) (same_taken x w v a t m on some its);
    }

    abbrev Free : Mutex → Type 0
    Free z = z.owner ≡ 0

    abbrev Owned : Mutex → Type 0
    Owned z = z.owner ≢ 0

    echo_Locks : {u : World} → Locks t m w u → Echo x (Locks t m v) u
    echo_Locks (own_normal o k e) =
        comes (Locks t m v) w v Stuck a e (own_normal (also OwnedBy o) (ap (λ (z : Mutex). relock_of z.kind) is ∙ k) refl)
    echo_Locks (own_errorcheck o k e) =
        comes (Locks t m v) w v (Has EDEADLK) a e (own_errorcheck (also OwnedBy o) (ap (λ (z : Mutex). relock_of z.kind) is ∙ k) refl)
    echo_Locks (lock_own_recursive o k y) =
        let f = echo_LocksAgain y in
        record { after = f.after; step = lock_own_recursive (also OwnedBy o) (ap (λ (z : Mutex). relock_of z.kind) is ∙ k) f.step; agrees = f.agrees }
    echo_Locks (lock_free o f e) = echo_takes (Locks t m v) e (lock_free (also NotOwnedBy o) (also Free f) refl)
    echo_Locks (lock_orphaned o e) =
        comes (Locks t m v) w v Stuck a e (lock_orphaned (also NotOwnedBy o.0, also Owned o.1, orphaned o.1 ∙ o.2) refl)
    echo_Locks (cycle o k e) =
        comes (Locks t m v) w v (Has EDEADLK) a e
        (cycle (also NotOwnedBy o.0, also Owned o.1, orphaned o.1 ∙ o.2) (leads o.1 ∙ k) refl)
    echo_Locks (joins o k e) =
        comes (Locks t m v) (with_waiter t m w) (with_waiter t m v) Waiting (same_waiter x w v a t m) e
        (joins (also NotOwnedBy o.0, also Owned o.1, orphaned o.1 ∙ o.2) (leads o.1 ∙ k) refl)

    echo_TriesToLock : {u : World} → TriesToLock t m w u → Echo x (TriesToLock t m v) u
    echo_TriesToLock (try_own_recursive o k y) =
        let f = echo_LocksAgain y in
        record { after = f.after; step = try_own_recursive (also OwnedBy o) (ap (λ (z : Mutex). relock_of z.kind) is ∙ k) f.step; agrees = f.agrees }
    echo_TriesToLock (try_busy o k e) =
        comes (TriesToLock t m v) w v (Has EBUSY) a e
        (try_busy (also Owned o) (also (λ (z : Mutex). z.owner ≡ t → relock_of z.kind ≢ Counts) k) refl)
    echo_TriesToLock (try_free o e) = echo_takes (TriesToLock t m v) e (try_free (also Free o) refl)

    -- a mutex of the side changes in the same way
    changes : (P : World → Type 0) (f : Mutex → Mutex) {u : World} → u ≡ with_mutex m (f (mutex_at w m)) w
        → P (with_mutex m (f (mutex_at v m)) v) → Echo x P u
    changes P f e h = record {
      after = with_mutex m (f (mutex_at v m)) v;
      step = h;
      agrees = subst (λ (k : World). Agrees x k (with_mutex m (f (mutex_at v m)) v)) (sym e) (same_mutex x w v a m _ _ (λ z i. f (is i)));
    }

    echo_Unlocks : {u : World} → Unlocks t m w u → Echo x (Unlocks t m v) u
    echo_Unlocks (not_owner o e) = comes (Unlocks t m v) w v (Has EPERM) a e (not_owner (also NotOwnedBy o) refl)
    echo_Unlocks (falls o k e) =
        comes (Unlocks t m v) _ _ (Has 0) (same_mutex x w v a m _ _ (λ z i. record (is i) { count = (is i).count - 1 })) e
        (falls (also OwnedBy o) (also (λ (z : Mutex). 1 < z.count) k) refl)
    echo_Unlocks (becomes_unusable o k h e) =
        changes (Unlocks t m v) (λ z. record z { health = Unusable }) e
        (becomes_unusable (also OwnedBy o) (also (λ (z : Mutex). z.count ≡ 1) k) (also (λ (z : Mutex). z.health ≡ Inconsistent) h) refl)
    echo_Unlocks (released o k h y) =
        let f = passes_after m (Has 0) (λ z. its) y in
        record {
          after = f.after;
          step = released (also OwnedBy o) (also (λ (z : Mutex). z.count ≡ 1) k) (also (λ (z : Mutex). z.health ≢ Inconsistent) h) f.step;
          agrees = f.agrees;
        }

    echo_GivesUp : (still : Bool) {u : World} → GivesUp t m still w u → Echo x (GivesUp t m still v) u
    echo_GivesUp still (wait_unusable o h e) =
        changes (GivesUp t m still v) (λ z. record z { health = Unusable }) e
        (wait_unusable (also OwnedBy o) (also (λ (z : Mutex). z.health ≡ Inconsistent) h) refl)
    echo_GivesUp still (wait_released o h y) =
        let f = passes_after m (on_release still) (λ z. its) y in
        record {
          after = f.after;
          step = wait_released (also OwnedBy o) (also (λ (z : Mutex). z.health ≢ Inconsistent) h) f.step;
          agrees = f.agrees;
        }

    echo_MakesConsistent : {u : World} → MakesConsistent t m w u → Echo x (MakesConsistent t m v) u
    echo_MakesConsistent (not_robust h e) =
        comes (MakesConsistent t m v) w v (Has EINVAL) a e (not_robust (also (λ (z : Mutex). z.robust ≡ false) h) refl)
    echo_MakesConsistent (consistent_not_owner h e) =
        comes (MakesConsistent t m v) w v (Has EPERM) a e
        (consistent_not_owner (also (λ (z : Mutex). z.robust ≡ true) h.0, also NotOwnedBy h.1) refl)
    echo_MakesConsistent (not_inconsistent h k e) =
        comes (MakesConsistent t m v) w v (Has EINVAL) a e
        (not_inconsistent (also (λ (z : Mutex). z.robust ≡ true) h.0, also OwnedBy h.1) (also (λ (z : Mutex). z.health ≢ Inconsistent) k) refl)
    echo_MakesConsistent (made_fine h k e) =
        comes (MakesConsistent t m v) _ _ (Has 0) (same_mutex x w v a m _ _ (λ z i. record (is i) { health = Fine })) e
        (made_fine (also (λ (z : Mutex). z.robust ≡ true) h.0, also OwnedBy h.1) (also (λ (z : Mutex). z.health ≡ Inconsistent) k) refl)

    echo_ChecksWait : (c : ℕ) → variable_at v c ≡ variable_at w c → {u : World} → ChecksWait t c m w u → Echo x (ChecksWait t c m v) u
    echo_ChecksWait c same (other_mutex h e) =
        comes (ChecksWait t c m v) w v (Has EINVAL) a e (other_mutex (subst (λ (z : Variable). z.mutex ≢ m) (sym same) h) refl)
    echo_ChecksWait c same (wait_not_owner h o e) =
        comes (ChecksWait t c m v) w v (Has EPERM) a e
        (wait_not_owner (ap (λ (z : Variable). z.mutex) same ∙ h) (also NotOwnedBy o) refl)
    echo_ChecksWait c same (held_more h o k e) =
        comes (ChecksWait t c m v) w v (Has EINVAL) a e
        (held_more (ap (λ (z : Variable). z.mutex) same ∙ h) (also OwnedBy o) (also (λ (z : Mutex). 1 < z.count) k) refl)
    echo_ChecksWait c same (checked h o k e) =
        comes (ChecksWait t c m v) w v Checked a e
        (checked (ap (λ (z : Variable). z.mutex) same ∙ h) (also OwnedBy o) (also (λ (z : Mutex). z.count ≡ 1) k) refl)

  echo_SetsPriority : (n p : ℕ) → x (OfThread n) ≡ true → {u : World} → SetsPriority t n p w u → Echo x (SetsPriority t n p v) u
  echo_SetsPriority n p i (no_priority h e) = comes (SetsPriority t n p v) w v (Has EINVAL) a e (no_priority h refl)
  echo_SetsPriority n p i (not_living h l e) =
      comes (SetsPriority t n p v) w v (Has ESRCH) a e (not_living h (living_same x w v s r a n i ∙ l) refl)
  echo_SetsPriority n p i (changed h l e) =
      comes (SetsPriority t n p v) (with_base n p w) (with_base n p v) (Has 0)
      (same_thread x w v a n _ _ (λ j. record (a.thread n i j) { base = p })) e (changed h (living_same x w v s r a n i ∙ l) refl)

  echo_Uses : (c : ℕ) → c ≢ 0 → x (OfVariable c) ≡ true → {u : World} → Uses t c w u → Echo x (Uses t c v) u
  echo_Uses c some its (use_at_limit h e) =
      comes (Uses t c v) w v (Has EOVERFLOW) a e (use_at_limit (ap (λ (z : Variable). z.uses) (a.variable c some its) ∙ h ∙ sym a.signals) refl)
  echo_Uses c some its (use_counts h e) =
      comes (Uses t c v) (used c w) (used c v) Used (same_used x w v a c some its) e
      (use_counts (λ k. h (sym (ap (λ (z : Variable). z.uses) (a.variable c some its)) ∙ k ∙ a.signals)) refl)

  -- who is blocked on a variable of the side is on it, in either state
  module _ (c : ℕ) (some : c ≢ 0) (its : x (OfVariable c) ≡ true) where
    blocked_here : (u : ℕ) → is_blocked_on w c u ≡ true → x (OfThread u) ≡ true
    blocked_here u h = blocked_side x w s c u some h ∙ its

    blocked_there : (u : ℕ) → is_blocked_on v c u ≡ true → x (OfThread u) ≡ true
    blocked_there u h = blocked_side x v r c u some h ∙ its

    -- who is blocked still in the other state is so in the one
    still_back : (b : ℕ) → is_still_blocked v t c b ≡ true → (is_still_blocked w t c b ≡ true) × (x (OfThread b) ≡ true)
    still_back b h =
        let k = blocked_there b (both_true (is_blocked_on v c b) _ h).0 in
        (sym (still_same x w v s r a t c b on k) ∙ h, k)

    none_still : ((b : ℕ) → is_still_blocked w t c b ≡ false) → (b : ℕ) → is_still_blocked v t c b ≡ false
    none_still none b = false_from_ne_true _ (λ h. true≢false (sym (still_back b h).0 ∙ none b))

  echo_Chooses : (q : Request) → ((c : ℕ) → (names_of q).cond ≡ Some c → IsUsable x t c) → {u : World} → Chooses t q w u → Echo x (Chooses t q v) u
  echo_Chooses q i (one c n is b none e) =
      let named = i c (ap (λ (z : Request). (names_of z).cond) is) in
      let its = named.0 ∙ on in
      let here = blocked_here c named.1 its n b in
      record {
        after = with_call_by n after_unblocking (with_progress t (Has 0) v);
        step = one c n is (blocked_same x w v s r a c n here ∙ b)
            (λ y h. let k = still_back c named.1 its y h in
            subst (λ (p : ℕ). p ≤ effective_of v n) (sym (effective_same x w v s r a y k.1))
            (subst (λ (p : ℕ). effective_of w y ≤ p) (sym (effective_same x w v s r a n here)) (none y k.0))) refl;
        agrees = subst (λ (z : World). Agrees x z (with_call_by n after_unblocking (with_progress t (Has 0) v))) (sym e)
            (same_unblocked x _ _ (same_progress x w v a t on (Has 0)) n here);
      }
  echo_Chooses q i (no_one c is none e) =
      let named = i c (ap (λ (z : Request). (names_of z).cond) is) in
      comes (Chooses t q v) w v (Has 0) a e (no_one c is (none_still c named.1 (named.0 ∙ on) none) refl)
  echo_Chooses q i (all c us is b among e) =
      let named = i c (ap (λ (z : Request). (names_of z).cond) is) in
      let its = named.0 ∙ on in
      record {
        after = all_unblocked us (with_progress t (Has 0) v);
        step = all c us is (λ n k. blocked_same x w v s r a c n (blocked_here c named.1 its n (b n k)) ∙ b n k)
            (λ n h. among n (still_back c named.1 its n h).0) refl;
        agrees = subst (λ (z : World). Agrees x z (all_unblocked us (with_progress t (Has 0) v))) (sym e)
            (same_all x us _ _ (same_progress x w v a t on (Has 0)) (λ n k. blocked_here c named.1 its n (b n k)));
      }

  -- MOVES

  -- the step is that of a call
  as_step : {P Q : World → Type 0} → ((z : World) → P z → Q z) → {u : World} → Echo x P u → Echo x Q u
  as_step f y = record { after = y.after; step = f y.after y.step; agrees = y.agrees }

  echo_Effect : {u : World} → Effect t w u → Echo x (Effect t v) u
  echo_Effect (lock m h y) =
      let i = its_mutex x t w s (Lock m) m h refl in
      as_step (λ z k. lock m (come h) k) (echo_Locks m i.1 (i.0 ∙ on) y)
  echo_Effect (try_lock m h y) =
      let i = its_mutex x t w s (TryLock m) m h refl in
      as_step (λ z k. try_lock m (come h) k) (echo_TriesToLock m i.1 (i.0 ∙ on) y)
  echo_Effect (unlock m h y) =
      let i = its_mutex x t w s (Unlock m) m h refl in
      as_step (λ z k. unlock m (come h) k) (echo_Unlocks m i.1 (i.0 ∙ on) y)
  echo_Effect (consistent m h y) =
      let i = its_mutex x t w s (Consistent m) m h refl in
      as_step (λ z k. consistent m (come h) k) (echo_MakesConsistent m i.1 (i.0 ∙ on) y)
  echo_Effect (set_prio n p h y) =
      as_step (λ z k. set_prio n p (come h) k) (echo_SetsPriority n p (its_thread x t w s (SetPrio n p) n h refl ∙ on) y)
  echo_Effect (check_wait c m h y) =
      let i = its_mutex x t w s (Wait c m) m h refl in
      let j = its_variable x t w s (Wait c m) c h refl in
      as_step (λ z k. check_wait c m (come h) k) (echo_ChecksWait m i.1 (i.0 ∙ on) c (a.variable c j.1 (j.0 ∙ on)) y)
  echo_Effect (enlist c m h e) = comes (Effect t v) w v (Enlisted true) a e (enlist c m (come h) refl)
  echo_Effect (give_up c m still h y) =
      let i = its_mutex x t w s (Wait c m) m h refl in
      as_step (λ z k. give_up c m still (come h) k) (echo_GivesUp m i.1 (i.0 ∙ on) still y)
  echo_Effect (lock_again c m h y) =
      let i = its_mutex x t w s (Wait c m) m h refl in
      as_step (λ z k. lock_again c m (come h) k) (echo_Locks m i.1 (i.0 ∙ on) y)
  echo_Effect (use_variable q h k y) =
      let j = its_variable x t w s q (variable_of q) h (use_names x t w s q k) in
      as_step (λ z l. use_variable q (come h) k l) (echo_Uses (variable_of q) j.1 (j.0 ∙ on) y)
  echo_Effect (choose q h y) = as_step (λ z k. choose q (come h) k) (echo_Chooses q (λ c e. its_variable x t w s q c h e) y)
  echo_Effect (leave q h y) =
      as_step (λ z k. leave q (come h) k) (passes_after (named_by q) (Has ENOTRECOVERABLE) (λ z. its_named x t w s q h z ∙ on) y)

  echo_Expires : {u : World} → Expires t w u → Echo x (Expires t v) u
  echo_Expires (lock_expires m p h e) =
      comes (Expires t v) (without_waiter t w) (without_waiter t v) (Has ETIMEDOUT) (same_without x w v a t) e (lock_expires m p (come h) refl)
  echo_Expires (wait_expires c m p h e) =
      comes (Expires t v) (after_timeout t w) (after_timeout t v) Reacquiring
      (same_thread x w v a t _ _ (λ i. record (a.thread t on i) { timer = ran_out (a.thread t on i).timer })) e (wait_expires c m p (come h) refl)

  echo_Acts : {u : World} → Acts t w u → Echo x (Acts t v) u
  echo_Acts (effect y) = as_step (λ z k. effect k) (echo_Effect y)
  echo_Acts (expires due y) = as_step (λ z k. expires (due_same x w v s r a t on ∙ due) k) (echo_Expires y)
  echo_Acts (notes c m h e) = comes (Acts t v) w v (Blocked true) a e (notes c m (come h) refl)

  -- a move of t
  pub echo_move : {u : World} → MovesOnce t w u → Echo x (MovesOnce t v) u
  echo_move y = as_step (λ z k. record { allowed = go_same x w v s r a t on ∙ y.allowed; acts = k }) (echo_Acts y.acts)
