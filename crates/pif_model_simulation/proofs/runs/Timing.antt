-- What the effects of calls leave of the time, of timers, and of how far calls have come.
use Rattle.std.proofs.Common.{◌≡◌, ◌≢◌, ◌⊎◌, inl, inr, ℕ, ◌+◌, ◌-◌, Bool, true, false, List, [], ◌∷◌, get_or, Option, Some, None, refl, sym, ap, ◌∙◌, subst, if◌then◌else◌, true≢false, arith}
use Rattle.std.proofs.lemmas.Bool.{cases_eq}
use Rattle.std.proofs.lemmas.List.{get_or_past}
use Rattle.pif_types.specs.declared.requests.Request.{Request}
use Rattle.pif_types.specs.declared.requests.Request.TheVariants.{Lock, Wait}
use Rattle.pif_model.specs.Posix.{Health, Progress, Call, Thread, World, nobody, thread_at, mutex_at, with_mutex, with_base, with_call_by, with_progress, at_progress, on_taking, taken, on_release, after_unblocking, after_waits, is_newly_blocked, after_use, used, all_unblocked, Locks, LocksAgain, TriesToLock, Passes, Unlocks, MakesConsistent, SetsPriority, ChecksWait, GivesUp, Uses, Chooses, Effect, Effects, Releases, without_call, after_end, Ends}
use Rattle.pif_model.specs.World.Progress.{Fresh, Waiting, Stuck, Has, Checked, Enlisted, Blocked, Reacquiring, Used}
use Rattle.pif_model.specs.Posix.Locks.{own_normal, own_errorcheck, own_recursive as lock_own_recursive, free as lock_free, orphaned as lock_orphaned, cycle, joins}
use Rattle.pif_model.specs.Posix.LocksAgain.{rises, at_limit}
use Rattle.pif_model.specs.Posix.TriesToLock.{own_recursive as try_own_recursive, busy as try_busy, free as try_free}
use Rattle.pif_model.specs.Posix.Passes.{to_nobody, to_next}
use Rattle.pif_model.specs.Posix.Unlocks.{not_owner, falls, becomes_unusable, released}
use Rattle.pif_model.specs.Posix.MakesConsistent.{not_robust, not_owner as consistent_not_owner, not_inconsistent, made_fine}
use Rattle.pif_model.specs.Posix.SetsPriority.{no_priority, not_living, changed}
use Rattle.pif_model.specs.Posix.ChecksWait.{other_mutex, not_owner as wait_not_owner, held_more, checked}
use Rattle.pif_model.specs.Posix.GivesUp.{becomes_unusable as wait_unusable, released as wait_released}
use Rattle.pif_model.specs.Posix.Uses.{at_limit as use_at_limit, counts as use_counts}
use Rattle.pif_model.specs.Posix.Chooses.{one, no_one, all}
use Rattle.pif_model.specs.Posix.Effect.{lock, try_lock, unlock, consistent, set_prio, check_wait, enlist, give_up, lock_again, use_variable, choose, leave}
use Rattle.pif_model.specs.Posix.Effects.{none as no_effect, then as effect_then, owed as effect_owed}
use Rattle.pif_model.specs.Posix.Releases.{none_left, one_more}
use Rattle.std.proofs.Math.ListN.{get_or-map}
use Rattle.pif_model_lemmas.proofs.Places.{kept_at}
use Rattle.pif_model_lemmas.proofs.Waiting.{by_test}
use Rattle.pif_model_simulation.specs.Fates.{is_past}
use Rattle.pif_model_simulation.proofs.runs.Worlds.{call_of, written_at, call-with_thread_other}
use Rattle.pif_model_simulation.proofs.runs.Holding.{same_request, same_progress}

-- ONE CALL

-- a call goes on: it stays as it is, is closed, or comes further, still past waiting if it was, and not to ETIMEDOUT
pub data GoesOn (o o' : Option Call) : Type 0 where
  stays : o' ≡ o → GoesOn o o'
  closes : o' ≡ None → GoesOn o o'
  comes : (q : Request) (p b : Progress) → o ≡ Some (record { request = q; progress = p })
      → o' ≡ Some (record { request = q; progress = b }) → (is_past q p ≡ true → is_past q b ≡ true) → b ≢ Has 110
      → GoesOn o o'

-- one way after another
pub goes_on_then : {a b c : Option Call} → GoesOn a b → GoesOn b c → GoesOn a c
goes_on_then {a} {b} {c} (stays e) y = subst (λ x. GoesOn x c) e y
goes_on_then {a} {b} {c} x (stays f) = subst (GoesOn a) (sym f) x
goes_on_then x (closes f) = closes f
goes_on_then (closes e) (comes q p b f g past n) = absurd (let z = sym e ∙ f in cc)
goes_on_then {a} {b} {c} (comes q p x e f k n) (comes r y z g h l o) =
    comes q p z e (h ∙ (λ i. Some (record { request = alike i; progress = z })))
    (λ w. subst (λ s. is_past s z ≡ true) alike (l (subst (λ s. is_past s y ≡ true) (sym alike)
    (subst (λ s. is_past q s ≡ true) (same_progress f g) (k w))))) o
  where
    alike : r ≡ q
    alike = sym (same_request f g)

-- WORLDS

-- the time and the timers stay, and each call goes on
pub record Quiet (w v : World) : Type 0 where
  pub time : v.time ≡ w.time
  pub timer : (u : ℕ) → (thread_at v u).timer ≡ (thread_at w u).timer
  pub call : (u : ℕ) → GoesOn (call_of w u) (call_of v u)

-- if no thread changes
pub quiet_threads : {w v : World} → v.time ≡ w.time → v.threads ≡ w.threads → Quiet w v
quiet_threads t e = record {
  time = t;
  timer = λ u. ap (λ l. (get_or l u nobody).timer) e;
  call = λ u. stays (ap (λ l. (get_or l u nobody).call) e);
}

-- one world after another
pub quiet_then : {w u v : World} → Quiet w u → Quiet u v → Quiet w v
quiet_then a b = record {
  time = b.time ∙ a.time;
  timer = λ u. b.timer u ∙ a.timer u;
  call = λ u. goes_on_then (a.call u) (b.call u);
}

-- t's call once it is changed so
pub call-recalled : (w : World) (t : ℕ) (f : Option Call → Option Call) → f None ≡ None
    → call_of (with_call_by t f w) t ≡ f (call_of w t)
call-recalled w t f none = written_at (λ (y : Thread). y.call) w.threads t
    (record (thread_at w t) { call = f (call_of w t) }) nobody
    (λ l. ap (λ (y : Thread). f y.call) (get_or_past w.threads t nobody l) ∙ none)

-- if t's call is changed so
pub quiet_recalled : (w : World) (t : ℕ) (f : Option Call → Option Call) → f None ≡ None
    → GoesOn (call_of w t) (f (call_of w t)) → Quiet w (with_call_by t f w)
quiet_recalled w t f none g = record {
  time = refl;
  timer = λ u. kept_at (λ (y : Thread). y.timer) w.threads t x nobody refl u;
  call = λ u. go u (cases_eq u t);
}
  where
    x : Thread
    x = record (thread_at w t) { call = f (call_of w t) }

    go : (u : ℕ) → (u ≡ t) ⊎ (u ≢ t) → GoesOn (call_of w u) (call_of (with_call_by t f w) u)
    go u (inl e) = subst (λ i. GoesOn (call_of w i) (call_of (with_call_by t f w) i)) (sym e)
        (subst (GoesOn (call_of w t)) (sym (call-recalled w t f none)) g)
    go u (inr d) = stays (call-with_thread_other w t x u d)

-- if t's call comes as far as b, from wherever it may have been
pub quiet_progress : (w : World) (t : ℕ) (b : Progress)
    → ((q : Request) (p : Progress) → call_of w t ≡ Some (record { request = q; progress = p })
    → is_past q p ≡ true → is_past q b ≡ true)
    → b ≢ Has 110 → Quiet w (with_progress t b w)
quiet_progress w t b past n = quiet_recalled w t (at_progress b) refl (go (call_of w t) refl)
  where
    go : (o : Option Call) → call_of w t ≡ o → GoesOn (call_of w t) (at_progress b (call_of w t))
    go None e = stays (ap (at_progress b) e ∙ sym e)
    go (Some c) e = comes c.request c.progress b e (ap (at_progress b) e) (past c.request c.progress e) n

-- the result of a call that has one
abbrev pub result_of : Progress → ℕ
result_of (Has a) = a
result_of _ = 0

-- as far as a result, which is another
quiet_result : (w : World) (t a : ℕ) → a ≢ 110 → Quiet w (with_progress t (Has a) w)
quiet_result w t a n = quiet_progress w t (Has a) (λ q p e k. refl) (λ e. n (ap result_of e))

-- from this request and this progress
quiet_from : (w : World) (t : ℕ) (q : Request) (p b : Progress)
    → call_of w t ≡ Some (record { request = q; progress = p }) → (is_past q p ≡ true → is_past q b ≡ true)
    → b ≢ Has 110 → Quiet w (with_progress t b w)
quiet_from w t q p b before past n = quiet_progress w t b
    (λ r s e k. subst (λ x. is_past x b ≡ true) (same_request before e)
    (past (subst (λ x. is_past x p ≡ true) (sym (same_request before e))
    (subst (λ x. is_past r x ≡ true) (sym (same_progress before e)) k)))) n

-- what taking leads to is past waiting, and not ETIMEDOUT
taking_past : (q : Request) (h : Health) → is_past q (on_taking h) ≡ true
taking_past q Health.Fine = refl
taking_past q Health.Inconsistent = refl
taking_past q Health.Unusable = refl

taking_not_late : (h : Health) → on_taking h ≢ Has 110
taking_not_late Health.Fine e = let z = ap result_of e in absurd (omega arith)
taking_not_late Health.Inconsistent e = let z = ap result_of e in absurd (omega arith)
taking_not_late Health.Unusable e = let z = ap result_of e in absurd (omega arith)

-- to take a mutex
quiet_taken : (w : World) (t m : ℕ) → Quiet w (taken t m w)
quiet_taken w t m = quiet_then (quiet_threads refl refl)
    (quiet_progress (with_mutex m (record (mutex_at w m) { owner = t; count = 1 }) w) t
    (on_taking (mutex_at w m).health) (λ q p e k. taking_past q (mutex_at w m).health)
    (taking_not_late (mutex_at w m).health))

-- what a lock may come to from here
record MayCome (q : Request) (a : Progress) : Type 0 where
  sticks : is_past q a ≡ true → is_past q Stuck ≡ true
  waits : is_past q a ≡ true → is_past q Waiting ≡ true

-- LOCKS

module _ {w : World} {t : ℕ} where
  quiet_LocksAgain : {m : ℕ} {v : World} → LocksAgain t m w v → Quiet w v
  quiet_LocksAgain {m} (rises few e) = rw e (quiet_then (quiet_threads refl refl)
      (quiet_result (with_mutex m (record (mutex_at w m) { count = (mutex_at w m).count + 1 }) w) t 0 (λ z. omega arith)))
  quiet_LocksAgain (at_limit full e) = rw e (quiet_result w t 11 (λ z. omega arith))

  quiet_Locks : {m : ℕ} {v : World} (q : Request) (a : Progress)
      → call_of w t ≡ Some (record { request = q; progress = a }) → MayCome q a → Locks t m w v → Quiet w v
  quiet_Locks q a before may (own_normal own kind e) = rw e (quiet_from w t q a Stuck before may.sticks (λ z. cc))
  quiet_Locks q a before may (own_errorcheck own kind e) = rw e (quiet_result w t 35 (λ z. omega arith))
  quiet_Locks q a before may (lock_own_recursive own kind e) = quiet_LocksAgain e
  quiet_Locks {m} q a before may (lock_free other free e) = rw e (quiet_taken w t m)
  quiet_Locks q a before may (lock_orphaned orphaned e) = rw e (quiet_from w t q a Stuck before may.sticks (λ z. cc))
  quiet_Locks q a before may (cycle owned leads e) = rw e (quiet_result w t 35 (λ z. omega arith))
  quiet_Locks q a before may (joins owned leads e) =
      rw e (quiet_then (quiet_from w t q a Waiting before may.waits (λ z. cc)) (quiet_threads refl refl))

  quiet_TriesToLock : {m : ℕ} {v : World} → TriesToLock t m w v → Quiet w v
  quiet_TriesToLock (try_own_recursive own kind e) = quiet_LocksAgain e
  quiet_TriesToLock (try_busy owned kind e) = rw e (quiet_result w t 16 (λ z. omega arith))
  quiet_TriesToLock {m} (try_free free e) = rw e (quiet_taken w t m)

-- a mutex passes on
pub quiet_Passes : {m : ℕ} {w v : World} → Passes m w v → Quiet w v
quiet_Passes (to_nobody none e) = rw e (quiet_threads refl refl)
quiet_Passes {m} {w} (to_next u next some e) =
    rw e (quiet_then (quiet_threads refl refl) (quiet_taken (record w { waiters = _ }) u m))

-- OTHER CALLS

module _ {w : World} {t : ℕ} where
  quiet_Unlocks : {m : ℕ} {v : World} → Unlocks t m w v → Quiet w v
  quiet_Unlocks (not_owner other e) = rw e (quiet_result w t 1 (λ z. omega arith))
  quiet_Unlocks {m} (falls own more e) = rw e (quiet_then (quiet_threads refl refl)
      (quiet_result (with_mutex m (record (mutex_at w m) { count = (mutex_at w m).count - 1 }) w) t 0 (λ z. omega arith)))
  quiet_Unlocks (becomes_unusable own once health e) = rw e (quiet_threads refl refl)
  quiet_Unlocks (released own once health passes) =
      quiet_then (quiet_result w t 0 (λ z. omega arith)) (quiet_Passes passes)

  quiet_MakesConsistent : {m : ℕ} {v : World} → MakesConsistent t m w v → Quiet w v
  quiet_MakesConsistent (not_robust kind e) = rw e (quiet_result w t 22 (λ z. omega arith))
  quiet_MakesConsistent (consistent_not_owner other e) = rw e (quiet_result w t 1 (λ z. omega arith))
  quiet_MakesConsistent (not_inconsistent own health e) = rw e (quiet_result w t 22 (λ z. omega arith))
  quiet_MakesConsistent {m} (made_fine own health e) = rw e (quiet_then (quiet_threads refl refl)
      (quiet_result (with_mutex m (record (mutex_at w m) { health = Health.Fine }) w) t 0 (λ z. omega arith)))

  quiet_SetsPriority : {u p : ℕ} {v : World} → SetsPriority t u p w v → Quiet w v
  quiet_SetsPriority (no_priority bad e) = rw e (quiet_result w t 22 (λ z. omega arith))
  quiet_SetsPriority (not_living good gone e) = rw e (quiet_result w t 3 (λ z. omega arith))
  quiet_SetsPriority {u} {p} (changed good lives e) =
      rw e (quiet_then rebased (quiet_result (with_base u p w) t 0 (λ z. omega arith)))
    where
      x : Thread
      x = record (thread_at w u) { base = p }

      rebased : Quiet w (with_base u p w)
      rebased = record {
        time = refl;
        timer = λ i. kept_at (λ (y : Thread). y.timer) w.threads u x nobody refl i;
        call = λ i. stays (kept_at (λ (y : Thread). y.call) w.threads u x nobody refl i);
      }

  quiet_ChecksWait : {c m : ℕ} {v : World} → call_of w t ≡ Some (record { request = Wait c m; progress = Fresh })
      → ChecksWait t c m w v → Quiet w v
  quiet_ChecksWait before (other_mutex bound e) = rw e (quiet_result w t 22 (λ z. omega arith))
  quiet_ChecksWait before (wait_not_owner bound other e) = rw e (quiet_result w t 1 (λ z. omega arith))
  quiet_ChecksWait before (held_more bound own more e) = rw e (quiet_result w t 22 (λ z. omega arith))
  quiet_ChecksWait {c} {m} before (checked bound own once e) =
      rw e (quiet_from w t (Wait c m) Fresh Checked before (λ z. z) (λ z. cc))

  quiet_GivesUp : {c m : ℕ} {v : World} (still : Bool)
      → call_of w t ≡ Some (record { request = Wait c m; progress = Enlisted still }) → GivesUp t m still w v → Quiet w v
  quiet_GivesUp still before (wait_unusable own health e) = rw e (quiet_threads refl refl)
  quiet_GivesUp {c} {m} still before (wait_released own health passes) =
      quiet_then (quiet_from w t (Wait c m) (Enlisted still) (on_release still) before (past still) (late still))
      (quiet_Passes passes)
    where
      past : (b : Bool) → is_past (Wait c m) (Enlisted b) ≡ true → is_past (Wait c m) (on_release b) ≡ true
      past true e = absurd (true≢false (sym e))
      past false e = refl

      late : (b : Bool) → on_release b ≢ Has 110
      late true e = absurd (cc)
      late false e = absurd (cc)

-- CALLS OF OTHERS

-- a call that is unblocked
goes_unblocked : (o : Option Call) → GoesOn o (after_unblocking o)
goes_unblocked None = stays refl
goes_unblocked (Some x) = by_progress x.request x.progress
  where
    by_progress : (q : Request) (p : Progress)
        → GoesOn (Some (record { request = q; progress = p })) (after_unblocking (Some (record { request = q; progress = p })))
    by_progress q (Enlisted b) = comes q (Enlisted b) (Enlisted false) refl refl (λ e. refl) (λ z. cc)
    by_progress q (Blocked b) = comes q (Blocked b) Reacquiring refl refl (λ e. refl) (λ z. cc)
    by_progress q _ = stays refl

-- a call that is noted
goes_noted : (o : Option Call) → GoesOn o (after_waits o)
goes_noted None = stays refl
goes_noted (Some x) = by_progress x.request x.progress
  where
    by_progress : (q : Request) (p : Progress)
        → GoesOn (Some (record { request = q; progress = p })) (after_waits (Some (record { request = q; progress = p })))
    by_progress q (Blocked b) = comes q (Blocked b) (Blocked true) refl refl (λ e. e) (λ z. cc)
    by_progress q _ = stays refl

-- one thread is unblocked, or noted
quiet_unblocked : (w : World) (u : ℕ) → Quiet w (with_call_by u after_unblocking w)
quiet_unblocked w u = quiet_recalled w u after_unblocking refl (goes_unblocked (call_of w u))

pub quiet_noted : (w : World) (u : ℕ) → Quiet w (with_call_by u after_waits w)
quiet_noted w u = quiet_recalled w u after_waits refl (goes_noted (call_of w u))

-- and these are unblocked
quiet_all_unblocked : (us : List ℕ) (w : World) → Quiet w (all_unblocked us w)
unfolding all_unblocked
quiet_all_unblocked [] w = quiet_threads refl refl
quiet_all_unblocked (u ∷ us) w = quiet_then (quiet_unblocked w u) (quiet_all_unblocked us (with_call_by u after_unblocking w))

-- a variable is used
quiet_used : (c : ℕ) (w : World) → Quiet w (used c w)
quiet_used c w = record {
  time = refl;
  timer = λ u. ap (λ (y : Thread). y.timer) (at u) ∙ timers (thread_at w u);
  call = λ u. subst (GoesOn (call_of w u)) (sym (ap (λ (y : Thread). y.call) (at u))) (calls (thread_at w u));
}
  where
    at : (u : ℕ) → thread_at (used c w) u ≡ after_use c (thread_at w u)
    at u = get_or-map (after_use c) w.threads u nobody

    timers : (x : Thread) → (after_use c x).timer ≡ x.timer
    timers x = by_test (λ b. (if b then record x { call = after_unblocking x.call } else x).timer ≡ x.timer)
        (is_newly_blocked c x.call) (λ _. refl) (λ _. refl)

    calls : (x : Thread) → GoesOn x.call (after_use c x).call
    calls x = by_test (λ b. GoesOn x.call (if b then record x { call = after_unblocking x.call } else x).call)
        (is_newly_blocked c x.call) (λ _. goes_unblocked x.call) (λ _. stays refl)

module _ {w : World} {t : ℕ} where
  quiet_Uses : {c : ℕ} {v : World} (q : Request) → call_of w t ≡ Some (record { request = q; progress = Fresh })
      → Uses t c w v → Quiet w v
  quiet_Uses q before (use_at_limit full e) = rw e (quiet_result w t 75 (λ z. omega arith))
  quiet_Uses {c} q before (use_counts some e) = rw e (quiet_then (quiet_used c w)
      (quiet_from (used c w) t q Fresh Used kept (λ z. z) (λ z. cc)))
    where
      kept : call_of (used c w) t ≡ Some (record { request = q; progress = Fresh })
      kept = ap (λ (y : Thread). y.call) (get_or-map (after_use c) w.threads t nobody)
          ∙ ap (λ b. (if b then record (thread_at w t) { call = after_unblocking (call_of w t) } else thread_at w t).call)
          (ap (is_newly_blocked c) before) ∙ before

  quiet_Chooses : {q : Request} {v : World} → Chooses t q w v → Quiet w v
  quiet_Chooses (one c u s blocked greatest e) =
      rw e (quiet_then (quiet_result w t 0 (λ z. omega arith)) (quiet_unblocked (with_progress t (Has 0) w) u))
  quiet_Chooses (no_one c s none e) = rw e (quiet_result w t 0 (λ z. omega arith))
  quiet_Chooses (all c us s blocked among e) =
      rw e (quiet_then (quiet_result w t 0 (λ z. omega arith)) (quiet_all_unblocked us (with_progress t (Has 0) w)))

-- from where a lock or a wait locks
lock_may : (m : ℕ) → MayCome (Lock m) Fresh
lock_may m = record { sticks = λ z. z; waits = λ z. z }

wait_may : (c m : ℕ) → MayCome (Wait c m) Reacquiring
wait_may c m = record { sticks = λ z. refl; waits = λ z. refl }

-- EFFECTS

-- an effect
quiet_Effect : {t : ℕ} {w v : World} → Effect t w v → Quiet w v
quiet_Effect (lock m before e) = quiet_Locks (Lock m) Fresh before (lock_may m) e
quiet_Effect (try_lock m before e) = quiet_TriesToLock e
quiet_Effect (unlock m before e) = quiet_Unlocks e
quiet_Effect (consistent m before e) = quiet_MakesConsistent e
quiet_Effect (set_prio u p before e) = quiet_SetsPriority e
quiet_Effect (check_wait c m before e) = quiet_ChecksWait before e
quiet_Effect {t} {w} (enlist c m before e) =
    rw e (quiet_from w t (Wait c m) Checked (Enlisted true) before (λ z. z) (λ z. cc))
quiet_Effect (give_up c m still before e) = quiet_GivesUp still before e
quiet_Effect (lock_again c m before e) = quiet_Locks (Wait c m) Reacquiring before (wait_may c m) e
quiet_Effect (use_variable q before is_used e) = quiet_Uses q before e
quiet_Effect (choose q before e) = quiet_Chooses e
quiet_Effect {t} {w} (leave q before passes) = quiet_then (quiet_result w t 131 (λ z. omega arith)) (quiet_Passes passes)

-- the effects of one Go
pub quiet_Effects : {t : ℕ} {first w v : World} → Effects t first w v → Quiet w v
quiet_Effects (no_effect e) = rw e (quiet_threads refl refl)
quiet_Effects (effect_then e more) = quiet_then (quiet_Effect e) (quiet_Effects more)
quiet_Effects (effect_owed b c m blocked before e more) =
    quiet_then (quiet_Locks (Wait c m) Reacquiring before (wait_may c m) e) (quiet_Effects more)

-- the call of t is closed
pub quiet_closed : (w : World) (t : ℕ) → Quiet w (with_call_by t without_call w)
quiet_closed w t = quiet_recalled w t without_call refl (closes refl)

-- t has ended
quiet_after_end : (w : World) (t : ℕ) → Quiet w (after_end t w)
quiet_after_end w t = record {
  time = refl;
  timer = λ u. kept_at (λ (y : Thread). y.timer) w.threads t x nobody refl u;
  call = λ u. go u (cases_eq u t);
}
  where
    x : Thread
    x = record (thread_at w t) { living = false; call = None }

    go : (u : ℕ) → (u ≡ t) ⊎ (u ≢ t) → GoesOn (call_of w u) (call_of (after_end t w) u)
    go u (inl e) = subst (λ i. GoesOn (call_of w i) (call_of (after_end t w) i)) (sym e)
        (closes (written_at (λ (y : Thread). y.call) w.threads t x nobody (λ l. refl)))
    go u (inr d) = stays (call-with_thread_other w t x u d)

-- what passes on at the end of a thread
quiet_Releases : {t : ℕ} {w v : World} → Releases t w v → Quiet w v
quiet_Releases (none_left none e) = rw e (quiet_threads refl refl)
quiet_Releases (one_more m own robust passes more) =
    quiet_then (quiet_then (quiet_threads refl refl) (quiet_Passes passes)) (quiet_Releases more)

-- a thread ends
pub quiet_Ends : {t : ℕ} {w v : World} → Ends t w v → Quiet w v
quiet_Ends {t} {w} e = quiet_then (quiet_after_end w t) (quiet_Releases e.releases)
