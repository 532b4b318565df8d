-- Behind a move an open call may be answered no more than before it.
use Rattle.std.proofs.Common.{ℕ, ◌≡◌, ◌⊎◌, ◌∙◌, Bool, true, false, not, refl, sym, ap, subst, inl, inr}
use Rattle.std.proofs.lemmas.Bool.{true≢false}
use Rattle.pif_types.specs.declared.requests.Request.{Request}
use Rattle.pif_types.specs.declared.requests.Request.TheVariants.{Lock, Wait}
use Rattle.pif_model.specs.Deadlines.{ran_out}
use Rattle.pif_model.specs.NamedNumbers.{EPERM, ESRCH, EAGAIN, EBUSY, EINVAL, EDEADLK, EOVERFLOW, ETIMEDOUT, ENOTRECOVERABLE}
use Rattle.pif_model.specs.Posix.{World, Thread, Progress, Health, at_progress, on_taking, nobody, thread_at, mutex_at, with_progress, with_waiter, without_waiter, with_base, is_newly_blocked, used, after_timeout, effective_of, counts_now, is_due, taken, on_release, HasCome, Comes, Locks, LocksAgain, TriesToLock, Passes, Unlocks, MakesConsistent, SetsPriority, ChecksWait, GivesUp, Uses, Chooses, Effect, Expires}
use Rattle.pif_model.specs.World.Health.{Fine, Inconsistent, Unusable}
use Rattle.pif_model.specs.World.Progress.{Fresh, Waiting, Stuck, Leaving, Has, Checked, Enlisted, Blocked, Reacquiring, Used}
use Rattle.pif_model.specs.Posix.Locks.{own_normal, own_errorcheck, own_recursive as lock_own_recursive, free as lock_free, orphaned as lock_orphaned, cycle, joins}
use Rattle.pif_model.specs.Posix.LocksAgain.{rises, at_limit}
use Rattle.pif_model.specs.Posix.TriesToLock.{own_recursive as try_own_recursive, busy as try_busy, free as try_free}
use Rattle.pif_model.specs.Posix.Passes.{to_nobody, to_next}
use Rattle.pif_model.specs.Posix.Unlocks.{not_owner, falls, becomes_unusable, released}
use Rattle.pif_model.specs.Posix.MakesConsistent.{not_robust, not_owner as consistent_not_owner, not_inconsistent, made_fine}
use Rattle.pif_model.specs.Posix.SetsPriority.{no_priority, not_living, changed}
use Rattle.pif_model.specs.Posix.ChecksWait.{other_mutex, not_owner as wait_not_owner, held_more, checked}
use Rattle.pif_model.specs.Posix.GivesUp.{becomes_unusable as wait_unusable, released as wait_released}
use Rattle.pif_model.specs.Posix.Uses.{at_limit as use_at_limit, counts as use_counts}
use Rattle.pif_model.specs.Posix.Chooses.{one, no_one, all}
use Rattle.pif_model.specs.Posix.Effect.{lock, try_lock, unlock, consistent, set_prio, check_wait, enlist, give_up, lock_again, use_variable, choose, leave}
use Rattle.pif_model.specs.Posix.Expires.{lock as lock_expires, wait as wait_expires}
use Rattle.pif_model_lemmas.proofs.Among.{is_among, is_among_push, next_is_among}
use Rattle.pif_model_lemmas.proofs.Places.{kept_at}
use Rattle.pif_model_lemmas.proofs.Waiting.{by_test}
use Rattle.pif_model_simulation.proofs.runs.Worlds.{call-with_progress, call-with_thread_other}
use Rattle.pif_model_simulation.proofs.runs.Holders.{due_counts}
use Rattle.pif_posix_steps.specs.Once.{MovesOnce, Acts}
use Rattle.pif_posix_steps.specs.Once.Acts.{effect, expires, notes}
use Rattle.pif_history_model.specs.Known.{may_be_answered}
use Rattle.pif_history_model.proofs.Answered.{answered_before, answered_leaving, may_wake_to}
use Rattle.pif_history_model.proofs.Leading.{AreWaiting, Follows, Leads, Mover, call_used, follows_all_unblocked, follows_comes, follows_mutex, follows_same, follows_then, follows_unblocked, follows_used, follows_without, follows_written, gone, leads_on, leads_progress, leads_written, mover, mover_after, moves_after_mutex, moves_to, no_waiter}

follows_LocksAgain : {t m : ℕ} {w v : World} → AreWaiting w → Mover t w → LocksAgain t m w v → Follows w v
follows_LocksAgain {m = m} ok x (rises may e) = moves_after_mutex m _ x (Has 0) ok (λ _. refl) e
follows_LocksAgain ok x (at_limit most e) = moves_to x (Has EAGAIN) ok (λ _. refl) e

may_take : (h : Health) → may_wake_to (on_taking h) ≡ true
may_take Fine = refl
may_take Inconsistent = refl
may_take Unusable = refl

follows_taken : (t m : ℕ) (w v : World) → AreWaiting w → Mover t w → v ≡ taken t m w → Follows w v
follows_taken t m w v ok x e =
    moves_after_mutex m _ x (on_taking (mutex_at w m).health) ok (λ _. may_take (mutex_at w m).health) e

-- t joins the waiters
follows_joins : (t m : ℕ) (w v : World) → AreWaiting w → Mover t w → Comes t Waiting (with_waiter t m w) v → Follows w v
follows_joins t m w v ok x e =
    subst (λ (z : World). Follows w z) (sym e) (record {
      waiting = λ u k among. go u k (is_among_push w.waiters t m u k among);
      leads = leads_written (with_waiter t m w) t _ own;
    })
  where
    joined : World
    joined = with_progress t Waiting (with_waiter t m w)

    own : Leads t (with_waiter t m w) joined
    own =
        leads_progress (with_waiter t m w) t x.request x.progress Waiting x.come
        (λ a k. answered_before x.request x.progress Waiting (thread_at w t).timer.expired a x.unsettled (λ _. refl) k)

    go : (u k : ℕ) → (is_among w.waiters u k ≡ true) ⊎ ((t ≡ u) × (m ≡ k)) → (q : Request) × HasCome joined u q Waiting
    go u k (inl among) =
        let o = ok u k among in (
          o.0,
          call-with_thread_other (with_waiter t m w) t _ u (λ i. x.apart k (sym (ap (λ n. is_among w.waiters n k) i) ∙ among)) ∙ o.1,
        )
    go u k (inr i) = (
      x.request,
      subst (λ n. HasCome joined n x.request Waiting) i.0
          (call-with_progress (with_waiter t m w) t Waiting ∙ ap (at_progress Waiting) x.come),
    )

follows_Locks : {t m : ℕ} {w v : World} → AreWaiting w → Mover t w → Locks t m w v → Follows w v
follows_Locks ok x (own_normal o k e) = moves_to x Stuck ok (λ _. refl) e
follows_Locks ok x (own_errorcheck o k e) = moves_to x (Has EDEADLK) ok (λ _. refl) e
follows_Locks ok x (lock_own_recursive o k e) = follows_LocksAgain ok x e
follows_Locks {t} {m} {w} {v} ok x (lock_free o k e) = follows_taken t m w v ok x e
follows_Locks ok x (lock_orphaned o e) = moves_to x Stuck ok (λ _. refl) e
follows_Locks ok x (cycle o k e) = moves_to x (Has EDEADLK) ok (λ _. refl) e
follows_Locks {t} {m} {w} {v} ok x (joins o k e) = follows_joins t m w v ok x e

follows_TriesToLock : {t m : ℕ} {w v : World} → AreWaiting w → Mover t w → TriesToLock t m w v → Follows w v
follows_TriesToLock ok x (try_own_recursive o k e) = follows_LocksAgain ok x e
follows_TriesToLock ok x (try_busy o k e) = moves_to x (Has EBUSY) ok (λ _. refl) e
follows_TriesToLock {t} {m} {w} {v} ok x (try_free o e) = follows_taken t m w v ok x e

pub follows_Passes : {m : ℕ} {w v : World} → AreWaiting w → Passes m w v → Follows w v
follows_Passes {m} {w} ok (to_nobody none e) = subst (λ (z : World). Follows w z) (sym e) (follows_mutex w m _ ok)
follows_Passes {m} {w} {v} ok (to_next t next some e) =
    let o = ok t m (next_is_among (effective_of w) w.waiters m t next some) in
    follows_then (follows_without w t ok)
    (λ k. follows_taken t m (without_waiter t w) v k (record {
      request = o.0;
      progress = Waiting;
      come = o.1;
      unsettled = refl;
      apart = gone w t;
    }) e)

follows_Unlocks : {t m : ℕ} {w v : World} → AreWaiting w → Mover t w → Unlocks t m w v → Follows w v
follows_Unlocks ok x (not_owner o e) = moves_to x (Has EPERM) ok (λ _. refl) e
follows_Unlocks {m = m} ok x (falls o k e) = moves_after_mutex m _ x (Has 0) ok (λ _. refl) e
follows_Unlocks {m = m} {w = w} ok x (becomes_unusable o k i e) =
    subst (λ (z : World). Follows w z) (sym e) (follows_mutex w m _ ok)
follows_Unlocks ok x (released o k i e) =
    follows_then (moves_to x (Has 0) ok (λ _. refl) refl) (λ k. follows_Passes k e)

follows_MakesConsistent : {t m : ℕ} {w v : World} → AreWaiting w → Mover t w → MakesConsistent t m w v → Follows w v
follows_MakesConsistent ok x (not_robust o e) = moves_to x (Has EINVAL) ok (λ _. refl) e
follows_MakesConsistent ok x (consistent_not_owner o e) = moves_to x (Has EPERM) ok (λ _. refl) e
follows_MakesConsistent ok x (not_inconsistent o k e) = moves_to x (Has EINVAL) ok (λ _. refl) e
follows_MakesConsistent {m = m} ok x (made_fine o k e) = moves_after_mutex m _ x (Has 0) ok (λ _. refl) e

follows_SetsPriority : {t n p : ℕ} {w v : World} → AreWaiting w → Mover t w → SetsPriority t n p w v → Follows w v
follows_SetsPriority ok x (no_priority o e) = moves_to x (Has EINVAL) ok (λ _. refl) e
follows_SetsPriority ok x (not_living o k e) = moves_to x (Has ESRCH) ok (λ _. refl) e
follows_SetsPriority {t} {n} {p} {w} ok x (changed o k e) =
    follows_then (follows_same w n (record (thread_at w n) { base = p }) refl refl ok)
    (λ i. moves_to (mover_after (with_base n p w) x
    (kept_at (λ (z : Thread). z.call) w.threads n (record (thread_at w n) { base = p }) nobody refl t) x.apart) (Has 0) i (λ _. refl) e)

follows_ChecksWait : {t k m : ℕ} {w v : World} → AreWaiting w → HasCome w t (Wait k m) Fresh → ChecksWait t k m w v → Follows w v
follows_ChecksWait {t} {k} {m} {w} {v} ok c y = by_check y
  where
    x : Mover t w
    x = mover t (Wait k m) Fresh ok c refl (λ i. absurd (cc))

    by_check : ChecksWait t k m w v → Follows w v
    by_check (other_mutex o e) = moves_to x (Has EINVAL) ok (λ _. refl) e
    by_check (wait_not_owner o i e) = moves_to x (Has EPERM) ok (λ _. refl) e
    by_check (held_more o i j e) = moves_to x (Has EINVAL) ok (λ _. refl) e
    by_check (checked o i j e) = moves_to x Checked ok (λ i. absurd (true≢false (sym i))) e

awake_released : (still : Bool) → not still ≡ true → may_wake_to (on_release still) ≡ true
awake_released true e = absurd (true≢false (sym e))
awake_released false e = refl

follows_GivesUp : {t k m : ℕ} {still : Bool} {w v : World} → AreWaiting w → HasCome w t (Wait k m) (Enlisted still)
    → GivesUp t m still w v → Follows w v
follows_GivesUp {m = m} {w = w} ok c (wait_unusable o i e) =
    subst (λ (z : World). Follows w z) (sym e) (follows_mutex w m _ ok)
follows_GivesUp {t} {k} {m} {still} {w} ok c (wait_released o i e) =
    follows_then (moves_to (mover t (Wait k m) (Enlisted still) ok c refl (λ j. absurd (cc))) (on_release still) ok (awake_released still) refl)
    (λ j. follows_Passes j e)

follows_Uses : {t k : ℕ} {w v : World} (q : Request) → AreWaiting w → HasCome w t q Fresh → Uses t k w v → Follows w v
follows_Uses {t} q ok c (use_at_limit o e) =
    moves_to (mover t q Fresh ok c refl (λ i. absurd (cc))) (Has EOVERFLOW) ok (λ _. refl) e
follows_Uses {t} {k} {w} q ok c (use_counts o e) =
    let x : Mover t w = mover t q Fresh ok c refl (λ i. absurd (cc)) in
    follows_then (follows_used w k ok)
    (λ i. moves_to (mover_after (used k w) x (call_used k w t (ap (is_newly_blocked k) c)) x.apart) Used i
    (λ j. absurd (true≢false (sym j))) e)

follows_Chooses : {t : ℕ} {q : Request} {w v : World} → AreWaiting w → Mover t w → Chooses t q w v → Follows w v
follows_Chooses {t} {q} {w} ok x (one k n is b none e) =
    subst (λ (z : World). Follows w z) (sym e)
    (follows_then (moves_to x (Has 0) ok (λ _. refl) refl) (λ i. follows_unblocked (with_progress t (Has 0) w) n i))
follows_Chooses ok x (no_one k is none e) = moves_to x (Has 0) ok (λ _. refl) e
follows_Chooses {t} {q} {w} ok x (all k us is b among e) =
    subst (λ (z : World). Follows w z) (sym e)
    (follows_then (moves_to x (Has 0) ok (λ _. refl) refl) (λ i. follows_all_unblocked us (with_progress t (Has 0) w) i))

follows_Effect : {t : ℕ} {w v : World} → AreWaiting w → Effect t w v → Follows w v
follows_Effect {t} ok (lock m c e) = follows_Locks ok (mover t _ Fresh ok c refl (λ i. absurd (cc))) e
follows_Effect {t} ok (try_lock m c e) = follows_TriesToLock ok (mover t _ Fresh ok c refl (λ i. absurd (cc))) e
follows_Effect {t} ok (unlock m c e) = follows_Unlocks ok (mover t _ Fresh ok c refl (λ i. absurd (cc))) e
follows_Effect {t} ok (consistent m c e) =
    follows_MakesConsistent ok (mover t _ Fresh ok c refl (λ i. absurd (cc))) e
follows_Effect {t} ok (set_prio n p c e) =
    follows_SetsPriority ok (mover t _ Fresh ok c refl (λ i. absurd (cc))) e
follows_Effect ok (check_wait k m c e) = follows_ChecksWait ok c e
follows_Effect {t} ok (enlist k m c e) =
    moves_to (mover t _ Checked ok c refl (λ i. absurd (cc))) (Enlisted true) ok (λ j. absurd (true≢false (sym j))) e
follows_Effect {t} ok (give_up k m still c e) = follows_GivesUp {k = k} ok c e
follows_Effect {t} ok (lock_again k m c e) =
    follows_Locks ok (mover t _ Reacquiring ok c refl (λ i. absurd (cc))) e
follows_Effect ok (use_variable q c o e) = follows_Uses q ok c e
follows_Effect {t} ok (choose q c e) = follows_Chooses ok (mover t q Used ok c refl (λ i. absurd (cc))) e
follows_Effect {t} {w} ok (leave q c e) =
    follows_then (follows_comes t q Leaving (Has ENOTRECOVERABLE) ok (no_waiter w t q Leaving ok c (λ i. absurd (cc))) c
    (λ a k. answered_leaving q (thread_at w t).timer.expired a k) refl) (λ k. follows_Passes k e)

-- a lock whose deadline counts may be answered anything
lock_counts : (m : ℕ) (p : Progress) (x : Bool) (a : ℕ) → counts_now (Lock m) p ≡ true → may_be_answered (Lock m) p x a ≡ true
lock_counts m (Has r) x a e = absurd (true≢false (sym e))
lock_counts m Leaving x a e = absurd (true≢false (sym e))
lock_counts m _ x a e = refl

-- a wait whose deadline counts is blocked
wait_counts : (k m : ℕ) (p : Progress) → counts_now (Wait k m) p ≡ true → p ≡ Blocked true
wait_counts k m (Blocked true) e = refl
wait_counts k m (Blocked false) e = absurd (true≢false (sym e))
wait_counts k m _ e = absurd (true≢false (sym e))

-- a blocked wait runs out of time
follows_timeout : (w : World) (t k m : ℕ) → AreWaiting w → (x : Mover t w) → HasCome w t (Wait k m) (Blocked true)
    → Follows w (after_timeout t w)
follows_timeout w t k m ok x c =
    follows_written w t late ok x.apart
    (leads_on t w (after_timeout t w) (Wait k m) (Blocked true) (Blocked true) c
    (kept_at (λ (z : Thread). z.call) w.threads t late nobody refl t ∙ c)
    (λ a e. by_test (λ b. (thread_at w t).timer.expired ≡ b → may_be_answered (Wait k m) (Blocked true) b a ≡ true)
    (thread_at w t).timer.expired
    (λ _ is. subst (λ b. may_be_answered (Wait k m) (Blocked true) b a ≡ true)
    (kept_at (λ (z : Thread). z.timer.expired) w.threads t late nobody (sym is) t ∙ is) e)
    (λ _ is. refl) refl))
  where
    late : Thread
    late = record (thread_at w t) { timer = ran_out (thread_at w t).timer }

follows_Expires : {t : ℕ} {w v : World} → AreWaiting w → is_due w t ≡ true → Expires t w v → Follows w v
follows_Expires {t} {w} ok due (lock_expires m p c e) =
    follows_then (follows_without w t ok)
    (λ k. follows_comes t (Lock m) p (Has ETIMEDOUT) k (gone w t) c
    (λ a i. lock_counts m p (thread_at w t).timer.expired a (due_counts w t (Lock m) p c due)) e)
follows_Expires {t} {w} ok due (wait_expires k m p c e) =
    let blocked : HasCome w t (Wait k m) (Blocked true) =
    subst (λ (o : Progress). HasCome w t (Wait k m) o) (wait_counts k m p (due_counts w t (Wait k m) p c due)) c in
    let x : Mover t w = mover t (Wait k m) (Blocked true) ok blocked refl (λ i. absurd (cc)) in
    follows_then (follows_timeout w t k m ok x blocked)
    (λ i. moves_to (mover_after (after_timeout t w) x (kept_at (λ (z : Thread). z.call) w.threads t _ nobody refl t) x.apart) Reacquiring i
    (λ _. refl) e)

follows_Acts : {t : ℕ} {w v : World} → AreWaiting w → Acts t w v → Follows w v
follows_Acts ok (effect e) = follows_Effect ok e
follows_Acts ok (expires due e) = follows_Expires ok due e
follows_Acts {t} ok (notes k m c e) =
    moves_to (mover t (Wait k m) (Blocked false) ok c refl (λ i. absurd (cc))) (Blocked true) ok
    (λ j. absurd (true≢false (sym j))) e

-- behind a move no call may be answered more than before it
pub leads_move : (u t : ℕ) (w v : World) → AreWaiting w → MovesOnce t w v → Leads u w v
leads_move u t w v ok m = (follows_Acts ok m.acts).leads u
