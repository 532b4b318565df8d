-- Behind a move the lines that were shown still tell of each open call.
use Rattle.std.proofs.Common.{ℕ, ◌≡◌, ◌≢◌, ◌==◌, ◌⊎◌, ◌∙◌, ◌<◌, ◌≤◌, List, length, Option, None, Bool, true, false, refl, sym, ap, subst, inl, inr, if◌then◌else◌}
use Rattle.std.proofs.lemmas.Bool.{true≢false, eq-eqb, cases_lt}
use Rattle.std.proofs.lemmas.List.{get_or-set_same, get_or_past}
use Rattle.pif_types.specs.declared.requests.Request.{Request}
use Rattle.pif_types.specs.declared.requests.Request.TheVariants.{Lock, Unlock, Wait, TimedWait}
use Rattle.pif_model.specs.Deadlines.{plain}
use Rattle.pif_model.specs.NamedNumbers.{EPERM, ESRCH, EAGAIN, EBUSY, EINVAL, EDEADLK, EOVERFLOW, ETIMEDOUT, ENOTRECOVERABLE}
use Rattle.pif_model.specs.Projection.{is_wait}
use Rattle.pif_model.specs.Posix.{World, Thread, Mutex, Progress, on_taking, nobody, thread_at, mutex_at, with_progress, with_mutex, with_waiter, without_waiter, with_base, is_newly_blocked, is_use, variable_of, used, after_timeout, effective_of, taken, on_release, HasCome, Comes, IsBlocked, Locks, LocksAgain, TriesToLock, Passes, Unlocks, MakesConsistent, SetsPriority, ChecksWait, GivesUp, Uses, Chooses, Effect, Expires}
use Rattle.pif_model.specs.World.Progress.{Fresh, Waiting, Stuck, Leaving, Has, Checked, Enlisted, Blocked, Reacquiring, Used}
use Rattle.pif_model.specs.Posix.Locks.{own_normal, own_errorcheck, own_recursive as lock_own_recursive, free as lock_free, orphaned as lock_orphaned, cycle, joins}
use Rattle.pif_model.specs.Posix.LocksAgain.{rises, at_limit}
use Rattle.pif_model.specs.Posix.TriesToLock.{own_recursive as try_own_recursive, busy as try_busy, free as try_free}
use Rattle.pif_model.specs.Posix.Passes.{to_nobody, to_next}
use Rattle.pif_model.specs.Posix.Unlocks.{not_owner, falls, becomes_unusable, released}
use Rattle.pif_model.specs.Posix.MakesConsistent.{not_robust, not_owner as consistent_not_owner, not_inconsistent, made_fine}
use Rattle.pif_model.specs.Posix.SetsPriority.{no_priority, not_living, changed}
use Rattle.pif_model.specs.Posix.ChecksWait.{other_mutex, not_owner as wait_not_owner, held_more, checked}
use Rattle.pif_model.specs.Posix.GivesUp.{becomes_unusable as wait_unusable, released as wait_released}
use Rattle.pif_model.specs.Posix.Uses.{at_limit as use_at_limit, counts as use_counts}
use Rattle.pif_model.specs.Posix.Chooses.{one, no_one, all}
use Rattle.pif_model.specs.Posix.Effect.{lock, try_lock, unlock, consistent, set_prio, check_wait, enlist, give_up, lock_again, use_variable, choose, leave}
use Rattle.pif_model.specs.Posix.Expires.{lock as lock_expires, wait as wait_expires}
use Rattle.pif_model_lemmas.proofs.Among.{next_is_among}
use Rattle.pif_model_lemmas.proofs.Places.{kept_at}
use Rattle.pif_model_simulation.proofs.runs.Holding.{request_of, same_progress}
use Rattle.pif_model_simulation.proofs.runs.Worlds.{call_of, call-with_thread_other}
use Rattle.pif_posix_steps.specs.Once.{MovesOnce, Acts}
use Rattle.pif_posix_steps.specs.Once.Acts.{effect, expires, notes}
use Rattle.pif_history_model.proofs.Leading.{AreWaiting, call_used}
use Rattle.pif_history_model.specs.declared.lines.Line.{Line}
use Rattle.pif_history_model.specs.Wakeups.{is_use_of, HasOpenUse}
use Rattle.pif_history_model.proofs.WokenTold.{AreTold, Mover, is_roused, not_expired, unroused_not_woken, told_comes, told_moves, told_same}
use Rattle.pif_history_model.proofs.Unblocking.{IsInUse, in_use-from_blocked, progress_request, told_all_unblocked, told_base, told_timeout, told_unblocked, told_uses}

-- WHO MOVES

-- t's call, which is no wait; or is roused
abbrev other_mover : {w : World} (t : ℕ) (q : Request) (p : Progress) → HasCome w t q p → is_wait q ≡ false → Mover t w
other_mover {w} t q p come no_wait = record { request = q; progress = p; come = come; anywhere = inl no_wait }

abbrev roused_mover : {w : World} (t : ℕ) (q : Request) (p : Progress) → HasCome w t q p → is_roused p ≡ true
    → Mover t w
roused_mover {w} t q p come is = record { request = q; progress = p; come = come; anywhere = inr is }

-- a mutex is written first
told_moves_mutex : {lines : List Line} {t : ℕ} {w v : World} (m : ℕ) (z : Mutex) (x : Mover t w) (o : Progress)
    → AreTold lines w
    → Comes t o (with_mutex m z w) v → AreTold lines v
told_moves_mutex {w = w} m z x o told e =
    told_moves (record { request = x.request; progress = x.progress; come = x.come; anywhere = x.anywhere }) o
    (told_same {v = with_mutex m z w} told refl) e

-- a call comes to where it isn't roused
told_unroused : {lines : List Line} {w v : World} (t : ℕ) (q : Request) (p o : Progress) → AreTold lines w
    → HasCome w t q p
    → is_roused o ≡ false → Comes t o w v → AreTold lines v
told_unroused {w = w} t q p o told come not_so e =
    told_comes t q p o told come (λ k. absurd (unroused_not_woken q o (thread_at w t).timer.expired not_so k)) e

-- MUTEXES

told_LocksAgain : {lines : List Line} {t m : ℕ} {w v : World} → AreTold lines w → Mover t w → LocksAgain t m w v
    → AreTold lines v
told_LocksAgain {m = m} told x (rises may e) = told_moves_mutex m _ x (Has 0) told e
told_LocksAgain told x (at_limit most e) = told_moves x (Has EAGAIN) told e

told_taken : {lines : List Line} (t m : ℕ) (w v : World) → AreTold lines w → Mover t w → v ≡ taken t m w
    → AreTold lines v
told_taken t m w v told x e = told_moves_mutex m _ x (on_taking (mutex_at w m).health) told e

told_Locks : {lines : List Line} {t m : ℕ} {w v : World} → AreTold lines w → Mover t w → Locks t m w v → AreTold lines v
told_Locks told x (own_normal o k e) = told_moves x Stuck told e
told_Locks told x (own_errorcheck o k e) = told_moves x (Has EDEADLK) told e
told_Locks told x (lock_own_recursive o k e) = told_LocksAgain told x e
told_Locks {t = t} {m = m} {w = w} {v = v} told x (lock_free o k e) = told_taken t m w v told x e
told_Locks told x (lock_orphaned o e) = told_moves x Stuck told e
told_Locks told x (cycle o k e) = told_moves x (Has EDEADLK) told e
told_Locks {t = t} {m = m} {w = w} told x (joins o k e) =
    told_moves (record { request = x.request; progress = x.progress; come = x.come; anywhere = x.anywhere }) Waiting
    (told_same {v = with_waiter t m w} told refl) e

told_TriesToLock : {lines : List Line} {t m : ℕ} {w v : World} → AreTold lines w → Mover t w → TriesToLock t m w v
    → AreTold lines v
told_TriesToLock told x (try_own_recursive o k e) = told_LocksAgain told x e
told_TriesToLock told x (try_busy o k e) = told_moves x (Has EBUSY) told e
told_TriesToLock {t = t} {m = m} {w = w} {v = v} told x (try_free o e) = told_taken t m w v told x e

-- a mutex passes on: who gets it waited for it
pub told_Passes : {lines : List Line} {m : ℕ} {w v : World} → AreWaiting w → AreTold lines w → Passes m w v
    → AreTold lines v
told_Passes ok told (to_nobody none e) = told_same told (ap (λ (z : World). z.threads) e)
told_Passes {m = m} {w = w} {v = v} ok told (to_next u next some e) =
    let o = ok u m (next_is_among (effective_of w) w.waiters m u next some) in
    told_taken u m (without_waiter u w) v (told_same {v = without_waiter u w} told refl)
    (record { request = o.0; progress = Waiting; come = o.1; anywhere = inr refl }) e

-- waiters still wait when a call that waits for no mutex comes further
waiting_on : (w : World) (t : ℕ) (q : Request) (p o : Progress) → AreWaiting w → HasCome w t q p → p ≢ Waiting
    → AreWaiting (with_progress t o w)
waiting_on w t q p o ok come n u m among =
    let i = ok u m among in
    (i.0, call-with_thread_other w t _ u (λ k. n (same_progress come (sym (ap (call_of w) k) ∙ i.1))) ∙ i.1)

-- a call comes further, and then a mutex passes on
told_passes_on : {lines : List Line} {m : ℕ} {v : World} (w : World) (t : ℕ) (q : Request) (p o : Progress)
    → AreWaiting w
    → HasCome w t q p → p ≢ Waiting → AreTold lines (with_progress t o w) → Passes m (with_progress t o w) v
    → AreTold lines v
told_passes_on w t q p o ok come n told e = told_Passes (waiting_on w t q p o ok come n) told e

told_Unlocks : {lines : List Line} {t m : ℕ} {w v : World} → AreWaiting w → AreTold lines w
    → HasCome w t (Unlock m) Fresh
    → Unlocks t m w v → AreTold lines v
told_Unlocks {t = t} {m = m} ok told c (not_owner o e) =
    told_moves (other_mover t (Unlock m) Fresh c refl) (Has EPERM) told e
told_Unlocks {t = t} {m = m} ok told c (falls o k e) =
    told_moves_mutex m _ (other_mover t (Unlock m) Fresh c refl) (Has 0) told e
told_Unlocks ok told c (becomes_unusable o k i e) = told_same told (ap (λ (z : World). z.threads) e)
told_Unlocks {t = t} {m = m} ok told c (released o k i e) =
    told_passes_on _ t (Unlock m) Fresh (Has 0) ok c (λ n. absurd (cc))
    (told_moves (other_mover t (Unlock m) Fresh c refl) (Has 0) told refl) e

told_MakesConsistent : {lines : List Line} {t m : ℕ} {w v : World} → AreTold lines w → Mover t w
    → MakesConsistent t m w v
    → AreTold lines v
told_MakesConsistent told x (not_robust o e) = told_moves x (Has EINVAL) told e
told_MakesConsistent told x (consistent_not_owner o e) = told_moves x (Has EPERM) told e
told_MakesConsistent told x (not_inconsistent o k e) = told_moves x (Has EINVAL) told e
told_MakesConsistent {m = m} told x (made_fine o k e) = told_moves_mutex m _ x (Has 0) told e

told_SetsPriority : {lines : List Line} {t n p : ℕ} {w v : World} → AreTold lines w → Mover t w
    → SetsPriority t n p w v → AreTold lines v
told_SetsPriority told x (no_priority o e) = told_moves x (Has EINVAL) told e
told_SetsPriority told x (not_living o k e) = told_moves x (Has ESRCH) told e
told_SetsPriority {t = t} {n = n} {p = p} {w = w} told x (changed o k e) =
    let come = kept_at (λ (z : Thread). z.call) w.threads n (record (thread_at w n) { base = p }) nobody refl t ∙ x.come in
    told_moves {w = with_base n p w}
    (record { request = x.request; progress = x.progress; come = come; anywhere = x.anywhere }) (Has 0)
    (told_base n p told) e

-- VARIABLES

told_ChecksWait : {lines : List Line} {t k m : ℕ} {w v : World} → AreTold lines w → HasCome w t (Wait k m) Fresh
    → ChecksWait t k m w v → AreTold lines v
told_ChecksWait {t = t} {k = k} {m = m} told c (other_mutex o e) =
    told_unroused t (Wait k m) Fresh (Has EINVAL) told c refl e
told_ChecksWait {t = t} {k = k} {m = m} told c (wait_not_owner o i e) =
    told_unroused t (Wait k m) Fresh (Has EPERM) told c refl e
told_ChecksWait {t = t} {k = k} {m = m} told c (held_more o i j e) =
    told_unroused t (Wait k m) Fresh (Has EINVAL) told c refl e
told_ChecksWait {t = t} {k = k} {m = m} told c (checked o i j e) =
    told_unroused t (Wait k m) Fresh Checked told c refl e

-- a wait gives its mutex up
told_releases : {lines : List Line} {w v : World} (t k m : ℕ) (still : Bool) → AreTold lines w
    → HasCome w t (Wait k m) (Enlisted still)
    → Comes t (on_release still) w v → AreTold lines v
told_releases t k m true told c e = told_unroused t (Wait k m) (Enlisted true) (Blocked false) told c refl e
told_releases t k m false told c e = told_moves (roused_mover t (Wait k m) (Enlisted false) c refl) Reacquiring told e

told_GivesUp : {lines : List Line} {t m : ℕ} {still : Bool} {w v : World} (k : ℕ) → AreWaiting w → AreTold lines w
    → HasCome w t (Wait k m) (Enlisted still) → GivesUp t m still w v → AreTold lines v
told_GivesUp k ok told c (wait_unusable o i e) = told_same told (ap (λ (z : World). z.threads) e)
told_GivesUp {t = t} {m = m} {still = still} k ok told c (wait_released o i e) =
    told_passes_on _ t (Wait k m) (Enlisted still) (on_release still) ok c (λ n. absurd (cc))
    (told_releases t k m still told c refl) e

-- a signal or a broadcast waits for nothing
use_waits_not : (q : Request) → is_use q ≡ true → is_wait q ≡ false
use_waits_not (Wait c m) e = sym e
use_waits_not _ e = refl

-- it uses the variable that it names
use_of_its_own : (q : Request) → is_use q ≡ true → is_use_of (variable_of q) q ≡ true
use_of_its_own q e =
    ap (λ b. if b then variable_of q == variable_of q else false) e ∙ eq-eqb (variable_of q) (variable_of q) refl

-- a deadline doesn't change which variable is used
use_plain : (c : ℕ) (q : Request) → is_use_of c (plain q) ≡ is_use_of c q
use_plain c (TimedWait d m k) = refl
use_plain c _ = refl

-- a use that is open in the state is open by the lines
open_use : {lines : List Line} {w : World} (t : ℕ) (q : Request) (p : Progress) → AreTold lines w → HasCome w t q p
    → is_use q ≡ true
    → HasOpenUse (variable_of q) lines
open_use t q p told c is =
    let i = told.each t q p c in
    record {
      thread = t;
      request = i.request;
      is_open = i.is_open;
      uses = sym (use_plain (variable_of q) i.request) ∙ ap (is_use_of (variable_of q)) i.plainly ∙ use_of_its_own q is;
    }

told_Uses : {lines : List Line} {w v : World} (t : ℕ) (q : Request) → AreTold lines w → HasCome w t q Fresh
    → is_use q ≡ true
    → Uses t (variable_of q) w v → AreTold lines v
told_Uses t q told c is (use_at_limit o e) =
    told_moves (other_mover t q Fresh c (use_waits_not q is)) (Has EOVERFLOW) told e
told_Uses {w = w} t q told c is (use_counts o e) =
    told_moves (other_mover {w = used (variable_of q) w} t q Fresh
    (call_used (variable_of q) w t (ap (is_newly_blocked (variable_of q)) c) ∙ c) (use_waits_not q is)) Used
    (told_uses (variable_of q) told (open_use t q Fresh told c is)) e

-- whom a use may unblock waits for a variable that is in use, also once the use has its result
blocked_in_use : {lines : List Line} {w : World} (t : ℕ) (q : Request) (k u : ℕ) → AreTold lines w → HasCome w t q Used
    → is_use q ≡ true → variable_of q ≡ k → IsBlocked w k u
    → IsInUse lines (request_of (call_of (with_progress t (Has 0) w) u))
blocked_in_use {lines} {w} t q k u told c is names b =
    subst (λ (o : Option Request). IsInUse lines o) (sym (progress_request w t (Has 0) u))
    (in_use-from_blocked lines k (call_of w u) (subst (λ n. HasOpenUse n lines) names (open_use t q Used told c is)) b)

told_Chooses : {lines : List Line} {w v : World} (t : ℕ) (q : Request) → AreTold lines w → HasCome w t q Used
    → Chooses t q w v
    → AreTold lines v
told_Chooses {lines} t q told c (one k u is b none e) =
    subst (λ (z : World). AreTold lines z) (sym e)
    (told_unblocked u (told_moves (other_mover t q Used c (ap is_wait is)) (Has 0) told refl)
    (blocked_in_use t q k u told c (ap is_use is) (ap variable_of is) b))
told_Chooses t q told c (no_one k is none e) = told_moves (other_mover t q Used c (ap is_wait is)) (Has 0) told e
told_Chooses {lines} {w} t q told c (all k us is b among e) =
    subst (λ (z : World). AreTold lines z) (sym e)
    (told_all_unblocked us (with_progress t (Has 0) w)
    (told_moves (other_mover t q Used c (ap is_wait is)) (Has 0) told refl)
    (λ u i. blocked_in_use t q k u told c (ap is_use is) (ap variable_of is) (b u i)))

-- ONE MOVE

told_Effect : {lines : List Line} {w v : World} (t : ℕ) → AreWaiting w → AreTold lines w → Effect t w v
    → AreTold lines v
told_Effect t ok told (lock m c e) = told_Locks told (other_mover t _ Fresh c refl) e
told_Effect t ok told (try_lock m c e) = told_TriesToLock told (other_mover t _ Fresh c refl) e
told_Effect t ok told (unlock m c e) = told_Unlocks ok told c e
told_Effect t ok told (consistent m c e) = told_MakesConsistent told (other_mover t _ Fresh c refl) e
told_Effect t ok told (set_prio n p c e) = told_SetsPriority told (other_mover t _ Fresh c refl) e
told_Effect t ok told (check_wait k m c e) = told_ChecksWait told c e
told_Effect t ok told (enlist k m c e) = told_unroused t (Wait k m) Checked (Enlisted true) told c refl e
told_Effect t ok told (give_up k m still c e) = told_GivesUp k ok told c e
told_Effect t ok told (lock_again k m c e) = told_Locks told (roused_mover t (Wait k m) Reacquiring c refl) e
told_Effect t ok told (use_variable q c is e) = told_Uses t q told c is e
told_Effect t ok told (choose q c e) = told_Chooses t q told c e
told_Effect t ok told (leave q c e) =
    told_passes_on _ t q Leaving (Has ENOTRECOVERABLE) ok c (λ n. absurd (cc))
    (told_unroused t q Leaving (Has ENOTRECOVERABLE) told c refl refl) e

-- a call that is open has run out of time once it was written so
is_late : (w : World) (t : ℕ) (q : Request) (p : Progress) → HasCome w t q p
    → (thread_at (after_timeout t w) t).timer.expired ≡ true
is_late w t q p c = go (cases_lt t (length w.threads))
  where
    go : (t < length w.threads) ⊎ (length w.threads ≤ t) → (thread_at (after_timeout t w) t).timer.expired ≡ true
    go (inl h) = ap (λ (z : Thread). z.timer.expired) (get_or-set_same w.threads t _ nobody h)
    go (inr h) =
        let none : call_of w t ≡ None = ap (λ (z : Thread). z.call) (get_or_past w.threads t nobody h) in
        absurd (cc)

told_Expires : {lines : List Line} {w v : World} (t : ℕ) → AreTold lines w → Expires t w v → AreTold lines v
told_Expires {w = w} t told (lock_expires m p c e) =
    told_moves (other_mover {w = without_waiter t w} t (Lock m) p c refl) (Has ETIMEDOUT)
    (told_same {v = without_waiter t w} told refl) e
told_Expires {w = w} t told (wait_expires k m p c e) =
    told_comes t (Wait k m) p Reacquiring (told_timeout t told)
    (kept_at (λ (z : Thread). z.call) w.threads t _ nobody refl t ∙ c)
    (λ i. absurd (true≢false (sym (is_late w t (Wait k m) p c)
    ∙ not_expired (Wait k m) Reacquiring (thread_at (after_timeout t w) t).timer.expired i))) e

told_Acts : {lines : List Line} {w v : World} (t : ℕ) → AreWaiting w → AreTold lines w → Acts t w v → AreTold lines v
told_Acts t ok told (effect e) = told_Effect t ok told e
told_Acts t ok told (expires due e) = told_Expires t told e
told_Acts t ok told (notes k m c e) = told_unroused t (Wait k m) (Blocked false) (Blocked true) told c refl e

-- behind a move the lines tell of each open call
pub told_move : {lines : List Line} {w v : World} (t : ℕ) → AreWaiting w → AreTold lines w → MovesOnce t w v
    → AreTold lines v
told_move t ok told m = told_Acts t ok told m.acts
