-- What a move does, moves do by which no thread joins waiters, without them: who would join has yet to lock, and who is
-- handed a mutex locks it once it is free.
use Rattle.std.proofs.Common.{ℕ, ◌≡◌, ◌≢◌, ◌⊎◌, ◌<◌, ◌≤◌, ◌∙◌, Bool, true, false, List, [], ◌∷◌, ◌++◌, length, not, Option, Some, None, is_some, refl, sym, ap, subst, inl, inr, if◌then◌else◌}
use Rattle.std.proofs.lemmas.Bool.{true≢false}
use Rattle.std.proofs.lemmas.List.{set-set, length-map}
use Rattle.pif_types.specs.Bounds.{Bounds}
use Rattle.pif_types.specs.declared.requests.Request.{Request}
use Rattle.pif_types.specs.declared.requests.Request.TheVariants.{Lock, Unlock, Wait, Signal}
use Rattle.pif_model.specs.declared.events.Event.TheVariants.{Go}
use Rattle.pif_model.specs.declared.events.Entry.{Entry}
use Rattle.pif_model.specs.NamedNumbers.{EPERM, ESRCH, EAGAIN, EBUSY, EINVAL, EDEADLK, EOVERFLOW, ENOTRECOVERABLE}
use Rattle.pif_model.specs.Graph.{first_greatest, next_waiter}
use Rattle.pif_model.specs.Refusals.{go_refused}
use Rattle.pif_model.specs.Deadlines.{is_reached, ran_out}
use Rattle.pif_model.specs.Soundness.{waited_in}
use Rattle.pif_model.specs.Posix.{World, Thread, Mutex, Call, Progress, Health, thread_at, mutex_at, is_thread, is_living, with_mutex, with_call_by, with_progress, with_waiter, without_waiter, with_health, with_no_owner, with_one_hold_more, with_one_hold_less, on_taking, on_release, taken, used, after_unblocking, all_unblocked, after_timeout, with_base, effective_of, next_of, is_blocked_on, is_due, is_counting, with_thread, refusal_of, named_by, HasCome, IsAllowed, IsRun, Locks, LocksAgain, TriesToLock, Passes, Unlocks, MakesConsistent, SetsPriority, ChecksWait, GivesUp, Uses, Chooses, Effect, Expires}
use Rattle.pif_model.specs.World.Health.{Fine, Inconsistent, Unusable}
use Rattle.pif_model.specs.World.Progress.{Fresh, Waiting, Stuck, Leaving, Has, Checked, Enlisted, Blocked, Reacquiring, Used}
use Rattle.pif_model.specs.Posix.Locks.{own_normal, own_errorcheck, own_recursive as lock_own_recursive, free as lock_free, orphaned as lock_orphaned, cycle, joins}
use Rattle.pif_model.specs.Posix.LocksAgain.{rises, at_limit}
use Rattle.pif_model.specs.Posix.TriesToLock.{own_recursive as try_own_recursive, busy as try_busy, free as try_free}
use Rattle.pif_model.specs.Posix.Passes.{to_nobody, to_next}
use Rattle.pif_model.specs.Posix.Unlocks.{not_owner, falls, becomes_unusable, released}
use Rattle.pif_model.specs.Posix.MakesConsistent.{not_robust, not_owner as consistent_not_owner, not_inconsistent, made_fine}
use Rattle.pif_model.specs.Posix.SetsPriority.{no_priority, not_living, changed}
use Rattle.pif_model.specs.Posix.ChecksWait.{other_mutex, not_owner as wait_not_owner, held_more, checked}
use Rattle.pif_model.specs.Posix.GivesUp.{becomes_unusable as wait_unusable, released as wait_released}
use Rattle.pif_model.specs.Posix.Uses.{at_limit as use_at_limit, counts as use_counts}
use Rattle.pif_model.specs.Posix.Chooses.{one, no_one, all}
use Rattle.pif_model.specs.Posix.Effect.{lock, try_lock, unlock, consistent, set_prio, check_wait, enlist, give_up, lock_again, use_variable, choose, leave}
use Rattle.pif_model.specs.Posix.Expires.{lock as lock_expires, wait as wait_expires}
use Rattle.pif_model_lemmas.proofs.Among.{next_is_among}
use Rattle.pif_model_lemmas.proofs.Numbers.{within}
use Rattle.pif_model_simulation.proofs.runs.Worlds.{call_of, owner_of, call-with_thread_other, living-with_thread, mutex-with_mutex, is_thread-with_thread}
use Rattle.pif_model_simulation.proofs.runs.Holding.{IsWaiting, same_progress}
use Rattle.pif_model_simulation.proofs.runs.AllHolding.{caller_lives, caller_is_thread, owned_is_mutex, holder_is_owner}
use Rattle.pif_model_simulation.proofs.runs.Holders.{IsHeld-IsRun, due_counts}
use Rattle.pif_posix_steps.specs.Once.{MovesOnce, Acts}
use Rattle.pif_posix_steps.specs.Once.Acts.{effect, expires, notes}
use Rattle.pif_search.specs.Runs.{Runs, shown}
use Rattle.pif_history_model.specs.declared.labels.Label.{Label}
use Rattle.pif_history_model.specs.declared.labels.Label.TheVariants.{Moves}
use Rattle.pif_history_model.specs.Searched.{hides}
use Rattle.pif_history_model.specs.Plain.PlainAdvances.{moves}
use Rattle.pif_history_model.specs.Queues.{is_waiter, Takes}
use Rattle.pif_history_model.proofs.Running.{Runs-append, shown-append}
use Rattle.pif_history_model.proofs.Completeness.{at}
use Rattle.pif_history_model.proofs.Even.{AreEven, untimed_not_due, same_where_signalled, none_above}
use Rattle.pif_history_model.proofs.Aside.{before_lock, aside, aside_call, unqueued, call_aside, come_aside, base_aside, orphaned_aside, living_aside, blocked_aside, still_aside, go_aside, thread_aside, recalled_aside, progressed_aside, back_aside, comes_aside, written_aside, based_aside, used_aside, all_unblocked_aside, unblocked_aside}

-- MOVES IN WHICH NOBODY JOINS

-- hidden steps lead from u to v by which nobody joins waiters
pub record Goes (l : Bounds) (dying : List ℕ) (u v : World) : Type 0 where
  pub labels : List Label
  pub run : Runs (Takes l false) (at u dying) labels (at v dying)
  pub hidden : shown hides labels ≡ []

module _ (l : Bounds) (dying : List ℕ) where
  pub stays : {u v : World} → v ≡ u → Goes l dying u v
  stays e = record { labels = []; run = ap (λ (x : World). at x dying) (sym e); hidden = refl }

  -- by one move
  pub moves_once : (t : ℕ) (u v : World) → MovesOnce t u v → is_waiter v t ≡ false → Goes l dying u v
  moves_once t u v m e = record {
    labels = Moves t ∷ [];
    run = (at u dying, refl, record { advances = moves t v refl m refl; taken = ap not e });
    hidden = refl;
  }

  pub goes_then : {u v x : World} → Goes l dying u v → Goes l dying v x → Goes l dying u x
  goes_then {u} {v} {x} a b = record {
    labels = b.labels ++ a.labels;
    run = Runs-append (Takes l false) (at u dying) (at v dying) (at x dying) a.labels b.labels a.run b.run;
    hidden = shown-append hides b.labels a.labels ∙ (λ i. b.hidden i ++ a.hidden i);
  }

-- PROGRESS

settled_taking : (h : Health) (q : Request) → aside q (on_taking h) ≡ on_taking h
settled_taking Fine q = refl
settled_taking Inconsistent q = refl
settled_taking Unusable q = refl

settled_release : (still : Bool) (q : Request) → aside q (on_release still) ≡ on_release still
settled_release true q = refl
settled_release false q = refl

-- who takes a mutex, without waiters
taken_aside : (t m : ℕ) (w v : World) → v ≡ taken t m w → unqueued v ≡ taken t m (unqueued w)
taken_aside t m w v e =
    comes_aside t (on_taking (mutex_at w m).health) (settled_taking (mutex_at w m).health)
    (with_mutex m (record (mutex_at w m) { owner = t; count = 1 }) w) _ e

-- EFFECTS

module _ (w : World) where
  again_aside : {t m : ℕ} {v : World} → LocksAgain t m w v → LocksAgain t m (unqueued w) (unqueued v)
  again_aside {t} {m} (rises may e) = rises may (comes_aside t (Has 0) (λ q. refl) (with_one_hold_more m w) _ e)
  again_aside {t} {m} (at_limit most e) = at_limit most (comes_aside t (Has EAGAIN) (λ q. refl) w _ e)

  -- a lock by a call that has yet to lock is the same without waiters, or does nothing
  lock_aside : {t m : ℕ} {v : World} (q : Request) (from : Progress) → HasCome w t q from → aside q from ≡ before_lock q
      → Locks t m w v → Locks t m (unqueued w) (unqueued v) ⊎ (unqueued v ≡ unqueued w)
  lock_aside {t} {m} q from c b (own_normal own kind e) = inl (own_normal own kind (comes_aside t Stuck (λ q. refl) w _ e))
  lock_aside {t} {m} q from c b (own_errorcheck own kind e) =
      inr (ap unqueued e ∙ back_aside w t q from (Has EDEADLK) c (sym b))
  lock_aside {t} {m} q from c b (lock_own_recursive own kind x) = inl (lock_own_recursive own kind (again_aside x))
  lock_aside {t} {m} q from c b (lock_free o f e) = inl (lock_free o f (taken_aside t m w _ e))
  lock_aside {t} {m} q from c b (lock_orphaned o e) =
      inl (lock_orphaned (o.0, o.1, orphaned_aside w m ∙ o.2) (comes_aside t Stuck (λ q. refl) w _ e))
  lock_aside {t} {m} q from c b (cycle o leads e) = inr (ap unqueued e ∙ back_aside w t q from (Has EDEADLK) c (sym b))
  lock_aside {t} {m} q from c b (joins o leads e) =
      inr (ap unqueued e ∙ back_aside (with_waiter t m w) t q from Waiting c (sym b))

  try_aside : {t m : ℕ} {v : World} → TriesToLock t m w v → TriesToLock t m (unqueued w) (unqueued v)
  try_aside (try_own_recursive own kind x) = try_own_recursive own kind (again_aside x)
  try_aside {t} (try_busy o kind e) = try_busy o kind (comes_aside t (Has EBUSY) (λ q. refl) w _ e)
  try_aside {t} {m} (try_free f e) = try_free f (taken_aside t m w _ e)

  consistent_aside : {t m : ℕ} {v : World} → MakesConsistent t m w v → MakesConsistent t m (unqueued w) (unqueued v)
  consistent_aside {t} (not_robust x e) = not_robust x (comes_aside t (Has EINVAL) (λ q. refl) w _ e)
  consistent_aside {t} (consistent_not_owner x e) = consistent_not_owner x (comes_aside t (Has EPERM) (λ q. refl) w _ e)
  consistent_aside {t} (not_inconsistent x y e) = not_inconsistent x y (comes_aside t (Has EINVAL) (λ q. refl) w _ e)
  consistent_aside {t} {m} (made_fine x y e) = made_fine x y (comes_aside t (Has 0) (λ q. refl) (with_health m Fine w) _ e)

  sets_aside : {t u p : ℕ} {v : World} → SetsPriority t u p w v → SetsPriority t u p (unqueued w) (unqueued v)
  sets_aside {t} (no_priority x e) = no_priority x (comes_aside t (Has EINVAL) (λ q. refl) w _ e)
  sets_aside {t} {u} (not_living x y e) = not_living x (living_aside w u ∙ y) (comes_aside t (Has ESRCH) (λ q. refl) w _ e)
  sets_aside {t} {u} {p} (changed x y e) =
      changed x (living_aside w u ∙ y)
      (comes_aside t (Has 0) (λ q. refl) (with_base u p w) _ e ∙ ap (with_progress t (Has 0)) (based_aside w u p))

  check_aside : {t c m : ℕ} {v : World} → ChecksWait t c m w v → ChecksWait t c m (unqueued w) (unqueued v)
  check_aside {t} (other_mutex x e) = other_mutex x (comes_aside t (Has EINVAL) (λ q. refl) w _ e)
  check_aside {t} (wait_not_owner x y e) = wait_not_owner x y (comes_aside t (Has EPERM) (λ q. refl) w _ e)
  check_aside {t} (held_more x y z e) = held_more x y z (comes_aside t (Has EINVAL) (λ q. refl) w _ e)
  check_aside {t} (checked x y z e) = checked x y z (comes_aside t Checked (λ q. refl) w _ e)

  uses_variable_aside : {t c : ℕ} {v : World} → Uses t c w v → Uses t c (unqueued w) (unqueued v)
  uses_variable_aside {t} (use_at_limit x e) = use_at_limit x (comes_aside t (Has EOVERFLOW) (λ q. refl) w _ e)
  uses_variable_aside {t} {c} (use_counts x e) =
      use_counts x (comes_aside t Used (λ q. refl) (used c w) _ e ∙ ap (with_progress t Used) (used_aside c w))

  -- a signal or broadcast chooses the same threads
  chooses_aside : {t : ℕ} {q : Request} {v : World}
      → ((c b u : ℕ) → q ≡ Signal c → is_blocked_on w c u ≡ true → effective_of (unqueued w) b ≤ effective_of (unqueued w) u)
      → Chooses t q w v → Chooses t q (unqueued w) (unqueued v)
  chooses_aside {t} most (one c u is b none e) =
      one c u is (blocked_aside w c u ∙ b) (λ x s. most c x u is b)
      (ap unqueued e
      ∙ recalled_aside (with_progress t (Has 0) w) u after_unblocking (unblocked_aside (call_of (with_progress t (Has 0) w) u))
      ∙ ap (with_call_by u after_unblocking) (progressed_aside w t (Has 0) (λ q. refl)))
  chooses_aside {t} most (no_one c is none e) =
      no_one c is (λ x. still_aside w t c x ∙ none x) (comes_aside t (Has 0) (λ q. refl) w _ e)
  chooses_aside {t} most (all c us is b among e) =
      all c us is (λ u i. blocked_aside w c u ∙ b u i) (λ x s. among x (sym (still_aside w t c x) ∙ s))
      (ap unqueued e ∙ all_unblocked_aside us (with_progress t (Has 0) w)
      ∙ ap (all_unblocked us) (progressed_aside w t (Has 0) (λ q. refl)))

-- PASSING ON

no_next : (f : ℕ → ℕ) (m : ℕ) → next_waiter f [] m ≡ 0
unfolding next_waiter first_greatest
no_next f m = refl

-- who has yet to lock, and waited for m, locks m
locks_of : (x m : ℕ) (r : Request) {u v : World} → waited_in r ≡ m → m ≢ 0 → HasCome u x r (before_lock r) → Locks x m u v → Effect x u v
locks_of x m (Lock k) {u} {v} e some c y = lock k c (subst (λ n. Locks x n u v) (sym e) y)
locks_of x m (Wait d k) {u} {v} e some c y = lock_again d k c (subst (λ n. Locks x n u v) (sym e) y)
locks_of x m _ e some c y = absurd (some (sym e))

module _ (l : Bounds) (dying : List ℕ) {h : List Entry} {r : List World} (w : World) (run : IsRun l h r w) where
  -- one move of the same thread
  acts_aside : (t : ℕ) (v : World) → IsAllowed w (Go t) → Acts t (unqueued w) (unqueued v) → Goes l dying (unqueued w) (unqueued v)
  acts_aside t v allowed x =
      moves_once l dying t (unqueued w) (unqueued v) (record { allowed = go_aside w t ∙ allowed; acts = x }) refl

  -- a mutex that was owned is there
  owned_there : (t m : ℕ) (c : Call) → call_of w t ≡ Some c → owner_of w m ≡ t → (m ≢ 0) × (m < length w.mutexes)
  owned_there t m c e own =
      let held = IsHeld-IsRun l run in
      let somebody : t ≢ 0 = λ z. true≢false (sym (caller_lives held t c e) ∙ ap (is_living w) z ∙ held.orderly.nobody) in
      within m (length w.mutexes) (owned_is_mutex w m held.orderly (λ z. somebody (sym own ∙ z)))

  -- t comes to a point, and m passes on: t gives it up, and who was handed it locks it then
  module _ (t m : ℕ) (q : Request) (from b : Progress) (c : HasCome w t q from) (awake : from ≢ Waiting)
      (settled : (q : Request) → aside q b ≡ b) (there : (m ≢ 0) × (m < length w.mutexes))
      (acts : (v : World) → Passes m (with_progress t b (unqueued w)) v → Acts t (unqueued w) v) where
    abbrev first : World
    first = with_progress t b w

    without_them : unqueued first ≡ with_progress t b (unqueued w)
    without_them = progressed_aside w t b settled

    abbrev freed : World
    freed = with_no_owner m (with_progress t b (unqueued w))

    frees : IsAllowed w (Go t) → Goes l dying (unqueued w) freed
    frees allowed =
        moves_once l dying t (unqueued w) freed (record {
          allowed = go_aside w t ∙ allowed;
          acts = acts freed (to_nobody (no_next (effective_of (with_progress t b (unqueued w))) m) refl);
        }) refl

    module _ (x : ℕ) (next : next_of first m ≡ x) (some : x ≢ 0) where
      waiting : IsWaiting m (call_of w x)
      waiting = let held = IsHeld-IsRun l run in (held.each x).waiting m (next_is_among (effective_of first) w.waiters m x next some)

      apart : x ≢ t
      apart e = awake (same_progress c (subst (λ k. call_of w k ≡ Some (record { request = waiting.request; progress = Waiting })) e waiting.call))

      call_first : call_of first x ≡ Some (record { request = waiting.request; progress = Waiting })
      call_first = call-with_thread_other w t _ x apart ∙ waiting.call

      call_freed : HasCome freed x waiting.request (before_lock waiting.request)
      call_freed =
          ap (λ (y : World). call_of y x) (sym without_them) ∙ call_aside first x ∙ ap aside_call call_first

      may_go : IsAllowed freed (Go x)
      may_go =
          ap (λ (y : World). refusal_of y (Go x)) (sym without_them) ∙ go_aside first x ∙ goes
        where
          added : is_thread first x ≡ true
          added = is_thread-with_thread w t _ x ∙ caller_is_thread (IsHeld-IsRun l run) x _ waiting.call

          lives : is_living first x ≡ true
          lives = living-with_thread w t _ refl x ∙ caller_lives (IsHeld-IsRun l run) x _ waiting.call

          goes : refusal_of first (Go x) ≡ None
          goes = λ i. go_refused (added i) (lives i) (is_some (call_first i))

      abbrev free : Mutex
      free = record (mutex_at w m) { owner = 0; count = 1 }

      abbrev mine : Mutex
      mine = record (mutex_at w m) { owner = x; count = 1 }

      here : mutex_at freed m ≡ free
      here = mutex-with_mutex (with_progress t b (unqueued w)) m free there.1

      takes_freed : (v : World) → v ≡ taken x m (without_waiter x first) → unqueued v ≡ taken x m freed
      takes_freed v e =
          taken_aside x m (without_waiter x first) v e
          ∙ ap (λ (y : World). with_progress x (on_taking (mutex_at w m).health) (with_mutex m mine y)) without_them
          ∙ ap (λ (ms : List Mutex). with_progress x (on_taking (mutex_at w m).health) (record freed { mutexes = ms }))
          (sym (set-set w.mutexes m free mine))
          ∙ ap (λ (z : Mutex). with_progress x (on_taking z.health) (with_mutex m (record z { owner = x; count = 1 }) freed)) (sym here)

      then_takes : (v : World) → v ≡ taken x m (without_waiter x first) → Goes l dying freed (unqueued v)
      then_takes v e =
          moves_once l dying x freed (unqueued v) (record {
            allowed = may_go;
            acts = effect (locks_of x m waiting.request waiting.waits there.0 call_freed
                (lock_free (λ own. some (sym own ∙ ap (λ (z : Mutex). z.owner) here)) (ap (λ (z : Mutex). z.owner) here) (takes_freed v e)));
          }) refl

    passes_aside : (v : World) → IsAllowed w (Go t) → Passes m first v → Goes l dying (unqueued w) (unqueued v)
    passes_aside v allowed (to_nobody none e) =
        subst (λ (y : World). Goes l dying (unqueued w) y)
        (sym (ap unqueued e ∙ ap (with_no_owner m) without_them)) (frees allowed)
    passes_aside v allowed (to_next x next some e) =
        goes_then l dying (frees allowed) (then_takes x next some v e)

-- MOVES

module _ (l : Bounds) (dying : List ℕ) (o : Option ℕ) {h : List Entry} {r : List World} (w : World) (run : IsRun l h r w) (even : AreEven o w) where
  -- if all have the same base priority, a blocked thread has an effective priority as great as any, without waiters
  most : (p : ℕ) → o ≡ Some p → (c b u : ℕ) → is_blocked_on w c u ≡ true → effective_of (unqueued w) b ≤ effective_of (unqueued w) u
  most p is c b u blocked = by_call (call_of w u) refl
    where
      by_call : (call : Option Call) → call_of w u ≡ call → effective_of (unqueued w) b ≤ effective_of (unqueued w) u
      by_call None e = absurd (true≢false (sym blocked ∙ blocked_not e))
        where
          blocked_not : call_of w u ≡ None → is_blocked_on w c u ≡ false
          blocked_not e = rw e refl
      by_call (Some y) e =
          none_above p (unqueued w)
          (λ k. subst (λ (n : ℕ). n ≤ p) (sym (base_aside w k)) ((even k).high p is)) b u
          (subst (λ (n : ℕ). u < n) (sym (length-map w.threads _)) (within u (length w.threads) (caller_is_thread (IsHeld-IsRun l run) u y e)).1)
          (subst (λ (n : ℕ). p ≤ n) (sym (base_aside w u)) ((even u).low p is (caller_lives (IsHeld-IsRun l run) u y e)))

  effect_aside : (t : ℕ) (v : World) → IsAllowed w (Go t) → Effect t w v → Goes l dying (unqueued w) (unqueued v)
  effect_aside t v allowed (lock m c x) = by_lock (lock_aside w (Lock m) Fresh c refl x)
    where
      by_lock : Locks t m (unqueued w) (unqueued v) ⊎ (unqueued v ≡ unqueued w) → Goes l dying (unqueued w) (unqueued v)
      by_lock (inl y) = acts_aside l dying w run t v allowed (effect (lock m (come_aside w t _ Fresh c) y))
      by_lock (inr e) = stays l dying e
  effect_aside t v allowed (lock_again d m c x) = by_lock (lock_aside w (Wait d m) Reacquiring c refl x)
    where
      by_lock : Locks t m (unqueued w) (unqueued v) ⊎ (unqueued v ≡ unqueued w) → Goes l dying (unqueued w) (unqueued v)
      by_lock (inl y) = acts_aside l dying w run t v allowed (effect (lock_again d m (come_aside w t _ Reacquiring c) y))
      by_lock (inr e) = stays l dying e
  effect_aside t v allowed (try_lock m c x) =
      acts_aside l dying w run t v allowed (effect (try_lock m (come_aside w t _ Fresh c) (try_aside w x)))
  effect_aside t v allowed (unlock m c x) = by_unlock x
    where
      come : HasCome (unqueued w) t (Unlock m) Fresh
      come = come_aside w t (Unlock m) Fresh c

      by_unlock : Unlocks t m w v → Goes l dying (unqueued w) (unqueued v)
      by_unlock (not_owner y e) =
          acts_aside l dying w run t v allowed (effect (unlock m come (not_owner y (comes_aside t (Has EPERM) (λ q. refl) w _ e))))
      by_unlock (falls y z e) =
          acts_aside l dying w run t v allowed
          (effect (unlock m come (falls y z (comes_aside t (Has 0) (λ q. refl) (with_one_hold_less m w) _ e))))
      by_unlock (becomes_unusable y z i e) =
          acts_aside l dying w run t v allowed (effect (unlock m come (becomes_unusable y z i (ap unqueued e))))
      by_unlock (released y z i s) =
          passes_aside l dying w run t m (Unlock m) Fresh (Has 0) c (λ k. absurd (cc)) (λ q. refl)
          (owned_there l dying w run t m _ c y) (λ u k. effect (unlock m come (released y z i k))) v allowed s
  effect_aside t v allowed (consistent m c x) =
      acts_aside l dying w run t v allowed (effect (consistent m (come_aside w t _ Fresh c) (consistent_aside w x)))
  effect_aside t v allowed (set_prio u n c x) =
      acts_aside l dying w run t v allowed (effect (set_prio u n (come_aside w t _ Fresh c) (sets_aside w x)))
  effect_aside t v allowed (check_wait d m c x) =
      acts_aside l dying w run t v allowed (effect (check_wait d m (come_aside w t _ Fresh c) (check_aside w x)))
  effect_aside t v allowed (enlist d m c e) =
      acts_aside l dying w run t v allowed
      (effect (enlist d m (come_aside w t _ Checked c) (comes_aside t (Enlisted true) (λ q. refl) w _ e)))
  effect_aside t v allowed (give_up d m still c x) = by_release x
    where
      come : HasCome (unqueued w) t (Wait d m) (Enlisted still)
      come = come_aside w t (Wait d m) (Enlisted still) c

      by_release : GivesUp t m still w v → Goes l dying (unqueued w) (unqueued v)
      by_release (wait_unusable y z e) =
          acts_aside l dying w run t v allowed (effect (give_up d m still come (wait_unusable y z (ap unqueued e))))
      by_release (wait_released y z s) =
          passes_aside l dying w run t m (Wait d m) (Enlisted still) (on_release still) c (λ k. absurd (cc)) (settled_release still)
          (owned_there l dying w run t m _ c y) (λ u k. effect (give_up d m still come (wait_released y z k))) v allowed s
  effect_aside t v allowed (use_variable q c u x) =
      acts_aside l dying w run t v allowed (effect (use_variable q (come_aside w t q Fresh c) u (uses_variable_aside w x)))
  effect_aside t v allowed (choose q c x) =
      acts_aside l dying w run t v allowed (effect (choose q (come_aside w t q Used c)
      (chooses_aside w (λ d b u is blocked. let s = same_where_signalled o w even t q Used c d is in most s.0 s.1 d b u blocked) x)))
  effect_aside t v allowed (leave q c x) =
      let held = IsHeld-IsRun l run in
      let owns = holder_is_owner held.orderly t (named_by q) ((held.each t).own _ c).1 in
      passes_aside l dying w run t (named_by q) q Leaving (Has ENOTRECOVERABLE) c (λ k. absurd (cc)) (λ q. refl)
      (within (named_by q) (length w.mutexes) owns.2) (λ u k. effect (leave q (come_aside w t q Leaving c) k)) v allowed x

  -- a wait whose deadline is reached was told to wait
  told : (c m : ℕ) (b : Progress) → (b ≡ Blocked true) ⊎ (is_counting (Some (record { request = Wait c m; progress = b })) ≡ false)
  told c m (Blocked true) = inl refl
  told c m (Blocked false) = inr refl
  told c m Fresh = inr refl
  told c m Waiting = inr refl
  told c m Stuck = inr refl
  told c m Leaving = inr refl
  told c m (Has a) = inr refl
  told c m Checked = inr refl
  told c m (Enlisted still) = inr refl
  told c m Reacquiring = inr refl
  told c m Used = inr refl

  expires_aside : (t : ℕ) (v : World) → IsAllowed w (Go t) → is_due w t ≡ true → Expires t w v → Goes l dying (unqueued w) (unqueued v)
  expires_aside t v allowed due (lock_expires m b c e) = absurd (untimed_not_due o w even t m b c due)
  expires_aside t v allowed due (wait_expires d m b c e) = by_told (told d m b)
    where
      by_told : (b ≡ Blocked true) ⊎ (is_counting (Some (record { request = Wait d m; progress = b })) ≡ false)
          → Goes l dying (unqueued w) (unqueued v)
      by_told (inr n) = absurd (true≢false (sym (due_counts w t (Wait d m) b c due) ∙ n))
      by_told (inl is) =
          let come : HasCome w t (Wait d m) (Blocked true) = subst (λ (y : Progress). HasCome w t (Wait d m) y) is c in
          let came : HasCome (unqueued w) t (Wait d m) (Blocked true) = come_aside w t (Wait d m) (Blocked true) come in
          let late : unqueued (after_timeout t w) ≡ after_timeout t (unqueued w) = timed_out_aside in
          let same_due : is_due (unqueued w) t ≡ true =
          (λ i. if is_reached (thread_aside w t i).timer.deadline w.time then is_counting (came i) else false)
          ∙ sym (λ i. if is_reached (thread_at w t).timer.deadline w.time then is_counting (come i) else false) ∙ due in
          acts_aside l dying w run t v allowed
          (expires same_due (wait_expires d m (Blocked true) came
          (comes_aside t Reacquiring (λ q. refl) (after_timeout t w) _ e ∙ ap (with_progress t Reacquiring) late)))
        where
          timed_out_aside : unqueued (after_timeout t w) ≡ after_timeout t (unqueued w)
          timed_out_aside =
              written_aside w t _ ∙ ap (λ (y : Thread). with_thread t (record y { timer = ran_out y.timer }) (unqueued w)) (sym (thread_aside w t))

  -- a move
  pub move_aside : (t : ℕ) (v : World) → MovesOnce t w v → Goes l dying (unqueued w) (unqueued v)
  move_aside t v m = by_acts m.acts
    where
      by_acts : Acts t w v → Goes l dying (unqueued w) (unqueued v)
      by_acts (effect x) = effect_aside t v m.allowed x
      by_acts (expires due x) = expires_aside t v m.allowed due x
      by_acts (notes c k b e) =
          acts_aside l dying w run t v m.allowed
          (notes c k (come_aside w t (Wait c k) (Blocked false) b) (comes_aside t (Blocked true) (λ q. refl) w _ e))
