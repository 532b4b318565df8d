-- What entries leave of who lives and of base priorities: who lives stays but at an end, and base priorities stay but
-- at a step of a setprio. So who is above all others stays so, if no thread as high is added.
use Rattle.std.proofs.Common.{◌≡◌, ◌≢◌, ◌⊎◌, ◌<◌, ℕ, Bool, true, false, List, [], ◌∷◌, ◌++◌, length, get_or, Option, Some, None, refl, sym, ap, ◌∙◌, inl, inr, arith, if◌then◌else◌, true≢false}
use Rattle.std.proofs.lemmas.Bool.{cases_eq}
use Rattle.std.proofs.lemmas.List.{get_or_past, get_or_push, get_or-set_other}
use Rattle.std.proofs.Math.ListN.{get_or-map}
use Rattle.pif_types.specs.Bounds.{Bounds}
use Rattle.pif_types.specs.declared.requests.Request.{Request}
use Rattle.pif_types.specs.declared.requests.Request.TheVariants.{SetPrio}
use Rattle.pif_model.specs.declared.events.Entry.{Entry}
use Rattle.pif_model.specs.Posix.{Progress, Call, Thread, Mutex, World, Step, HasCome, nobody, thread_at, is_living, with_thread, with_call_by, with_progress, at_progress, taken, on_release, after_unblocking, after_waits, after_timeout, is_newly_blocked, after_use, used, all_unblocked, Locks, LocksAgain, TriesToLock, Passes, Unlocks, MakesConsistent, ChecksWait, GivesUp, Uses, Chooses, Effect, Effects, Expires, Moves, Releases, without_call, after_end, new_thread, with_base, SetsPriority}
use Rattle.pif_model.specs.World.Progress.{Fresh, Waiting, Stuck, Has, Checked, Enlisted, Reacquiring, Used}
use Rattle.pif_model.specs.Posix.Locks.{own_normal, own_errorcheck, own_recursive as lock_own_recursive, free as lock_free, orphaned as lock_orphaned, cycle, joins}
use Rattle.pif_model.specs.Posix.LocksAgain.{rises, at_limit}
use Rattle.pif_model.specs.Posix.TriesToLock.{own_recursive as try_own_recursive, busy as try_busy, free as try_free}
use Rattle.pif_model.specs.Posix.Passes.{to_nobody, to_next}
use Rattle.pif_model.specs.Posix.Unlocks.{not_owner, falls, becomes_unusable, released}
use Rattle.pif_model.specs.Posix.MakesConsistent.{not_robust, not_owner as consistent_not_owner, not_inconsistent, made_fine}
use Rattle.pif_model.specs.Posix.SetsPriority.{no_priority, not_living, changed}
use Rattle.pif_model.specs.Posix.ChecksWait.{other_mutex, not_owner as wait_not_owner, held_more, checked}
use Rattle.pif_model.specs.Posix.GivesUp.{becomes_unusable as wait_unusable, released as wait_released}
use Rattle.pif_model.specs.Posix.Uses.{at_limit as use_at_limit, counts as use_counts}
use Rattle.pif_model.specs.Posix.Chooses.{one, no_one, all}
use Rattle.pif_model.specs.Posix.Effect.{lock, try_lock, unlock, consistent, set_prio, check_wait, enlist, give_up, lock_again, use_variable, choose, leave}
use Rattle.pif_model.specs.Posix.Effects.{none as no_effect, then as effect_then, owed as effect_owed}
use Rattle.pif_model.specs.Posix.Expires.{lock as lock_expires, wait as wait_expires}
use Rattle.pif_model.specs.Posix.Moves.{expires as call_expires, acts}
use Rattle.pif_model.specs.Posix.Releases.{none_left, one_more}
use Rattle.pif_model.specs.Posix.Step.{thread_added, mutex_added, cond_added, refused, begun, went, waits, answered, ended, ticked}
use Rattle.pif_model_lemmas.proofs.Places.{kept_at}
use Rattle.pif_model_lemmas.proofs.Waiting.{by_test}
use Rattle.pif_model_simulation.proofs.runs.Worlds.{call_of, written_at, push_other}
use Rattle.pif_model_simulation.proofs.runs.Holding.{same_request}
use Rattle.pif_model_simulation.proofs.runs.Timing.{GoesOn, quiet_Effects}
use Rattle.pif_model_simulation.proofs.runs.Timing.GoesOn.{stays, closes, comes}
use Rattle.pif_model_inversion.specs.Inversion.{IsHighest}
use Rattle.pif_model_inversion.specs.Delays.{RaisesNobody, IsAlwaysHighestAwake, IsDelay, IsCalmDelay}
use Rattle.pif_model_inversion.specs.Delays.IsDelayBy.{starts, runs, beside}

abbrev base_of : World → ℕ → ℕ
base_of w t = (thread_at w t).base

-- who lives stays, and base priorities do if nothing is set
pub record Keeps (Steady : Type 0) (w v : World) : Type 0 where
  pub base : Steady → (u : ℕ) → base_of v u ≡ base_of w u
  pub living : (u : ℕ) → is_living v u ≡ is_living w u

keeps_all : {S : Type 0} {w : World} → Keeps S w w
keeps_all = record { base = λ s u. refl; living = λ u. refl }

keeps_then : {S : Type 0} {w u v : World} → Keeps S w u → Keeps S u v → Keeps S w v
keeps_then a b = record { base = λ s x. b.base s x ∙ a.base s x; living = λ x. b.living x ∙ a.living x }

-- a thread is written, with its base priority, and lives as it did
pub keeps_thread : {S : Type 0} (w : World) (t : ℕ) (x : Thread) → x.base ≡ base_of w t → x.living ≡ is_living w t → Keeps S w (with_thread t x w)
keeps_thread w t x e f = record {
  base = λ s. kept_at (λ (y : Thread). y.base) w.threads t x nobody e;
  living = kept_at (λ (y : Thread). y.living) w.threads t x nobody f;
}

pub keeps_call : {S : Type 0} (w : World) (t : ℕ) (f : Option Call → Option Call) → Keeps S w (with_call_by t f w)
keeps_call w t f = keeps_thread w t (record (thread_at w t) { call = f (call_of w t) }) refl refl

keeps_progress : {S : Type 0} (w : World) (t : ℕ) (p : Progress) → Keeps S w (with_progress t p w)
keeps_progress w t p = keeps_call w t (at_progress p)

-- behind a change of a mutex, or of the waiters
keeps_after : {S : Type 0} {w : World} (t : ℕ) (p : Progress) (ms : List Mutex) (ws : List (ℕ × ℕ))
    → Keeps S w (with_progress t p (record w { mutexes = ms; waiters = ws }))
keeps_after {w} t p ms ws =
    let k = keeps_progress (record w { mutexes = ms; waiters = ws }) t p in record { base = k.base; living = k.living }

-- if threads stay
keeps_same : {S : Type 0} {w v : World} → v.threads ≡ w.threads → Keeps S w v
keeps_same e = record {
  base = λ s u. ap (λ l. (get_or l u nobody).base) e;
  living = λ u. ap (λ l. (get_or l u nobody).living) e;
}

keeps_taken : {S : Type 0} {w : World} (t m : ℕ) (ws : List (ℕ × ℕ)) → Keeps S w (taken t m (record w { waiters = ws }))
keeps_taken {w} t m ws = keeps_after {w = w} t _ _ ws

keeps_Passes : {S : Type 0} {m : ℕ} {w v : World} → Passes m w v → Keeps S w v
keeps_Passes (to_nobody none e) = rw e (keeps_same refl)
keeps_Passes {m} (to_next u next some e) = rw e (keeps_taken u m _)

keeps_unblocked : {S : Type 0} (w : World) (us : List ℕ) → Keeps S w (all_unblocked us w)
unfolding all_unblocked
keeps_unblocked w [] = keeps_all
keeps_unblocked w (u ∷ us) = keeps_then (keeps_call w u after_unblocking) (keeps_unblocked (with_call_by u after_unblocking w) us)

keeps_used : {S : Type 0} (c : ℕ) (w : World) → Keeps S w (used c w)
keeps_used c w = record {
  base = λ s u. ap (λ (y : Thread). y.base) (at u) ∙ bases (thread_at w u);
  living = λ u. ap (λ (y : Thread). y.living) (at u) ∙ lives (thread_at w u);
}
  where
    at : (u : ℕ) → thread_at (used c w) u ≡ after_use c (thread_at w u)
    at u = get_or-map (after_use c) w.threads u nobody

    bases : (x : Thread) → (after_use c x).base ≡ x.base
    bases x = by_test (λ b. (if b then record x { call = after_unblocking x.call } else x).base ≡ x.base)
        (is_newly_blocked c x.call) (λ _. refl) (λ _. refl)

    lives : (x : Thread) → (after_use c x).living ≡ x.living
    lives x = by_test (λ b. (if b then record x { call = after_unblocking x.call } else x).living ≡ x.living)
        (is_newly_blocked c x.call) (λ _. refl) (λ _. refl)

keeps_set : {S : Type 0} (w : World) (u p : ℕ) → (S → ⊥) → Keeps S w (with_base u p w)
keeps_set w u p none = record {
  base = λ s. absurd (none s);
  living = kept_at (λ (y : Thread). y.living) w.threads u (record (thread_at w u) { base = p }) nobody refl;
}

-- t has no setprio open
abbrev IsNotSetting : World → ℕ → Type 0
IsNotSetting w t = (u p : ℕ) (a : Progress) → HasCome w t (SetPrio u p) a → ⊥

module _ {S : Type 0} {w : World} {t : ℕ} where
  keeps_LocksAgain : {m : ℕ} {v : World} → LocksAgain t m w v → Keeps S w v
  keeps_LocksAgain (rises few e) = rw e (keeps_after t (Has 0) _ _)
  keeps_LocksAgain (at_limit full e) = rw e (keeps_progress w t (Has 11))

  keeps_Locks : {m : ℕ} {v : World} → Locks t m w v → Keeps S w v
  keeps_Locks (own_normal own kind e) = rw e (keeps_progress w t Stuck)
  keeps_Locks (own_errorcheck own kind e) = rw e (keeps_progress w t (Has 35))
  keeps_Locks (lock_own_recursive own kind e) = keeps_LocksAgain e
  keeps_Locks {m} (lock_free other free e) = rw e (keeps_taken t m w.waiters)
  keeps_Locks (lock_orphaned orphaned e) = rw e (keeps_progress w t Stuck)
  keeps_Locks (cycle owned leads e) = rw e (keeps_progress w t (Has 35))
  keeps_Locks (joins owned leads e) = rw e (keeps_after t Waiting _ _)

  keeps_TriesToLock : {m : ℕ} {v : World} → TriesToLock t m w v → Keeps S w v
  keeps_TriesToLock (try_own_recursive own kind e) = keeps_LocksAgain e
  keeps_TriesToLock (try_busy owned kind e) = rw e (keeps_progress w t (Has 16))
  keeps_TriesToLock {m} (try_free free e) = rw e (keeps_taken t m w.waiters)

  keeps_Unlocks : {m : ℕ} {v : World} → Unlocks t m w v → Keeps S w v
  keeps_Unlocks (not_owner other e) = rw e (keeps_progress w t (Has 1))
  keeps_Unlocks (falls own more e) = rw e (keeps_after t (Has 0) _ _)
  keeps_Unlocks (becomes_unusable own once health e) = rw e (keeps_same refl)
  keeps_Unlocks (released own once health passes) = keeps_then (keeps_progress w t (Has 0)) (keeps_Passes passes)

  keeps_MakesConsistent : {m : ℕ} {v : World} → MakesConsistent t m w v → Keeps S w v
  keeps_MakesConsistent (not_robust kind e) = rw e (keeps_progress w t (Has 22))
  keeps_MakesConsistent (consistent_not_owner other e) = rw e (keeps_progress w t (Has 1))
  keeps_MakesConsistent (not_inconsistent own health e) = rw e (keeps_progress w t (Has 22))
  keeps_MakesConsistent (made_fine own health e) = rw e (keeps_after t (Has 0) _ _)

  -- a setprio sets a base priority
  keeps_SetsPriority : {u p : ℕ} {v : World} → (S → ⊥) → SetsPriority t u p w v → Keeps S w v
  keeps_SetsPriority none (no_priority bad e) = rw e (keeps_progress w t (Has 22))
  keeps_SetsPriority none (not_living good gone e) = rw e (keeps_progress w t (Has 3))
  keeps_SetsPriority {u} {p} none (changed good lives e) =
      rw e (keeps_then (keeps_set w u p none) (keeps_progress (with_base u p w) t (Has 0)))

  keeps_ChecksWait : {c m : ℕ} {v : World} → ChecksWait t c m w v → Keeps S w v
  keeps_ChecksWait (other_mutex bound e) = rw e (keeps_progress w t (Has 22))
  keeps_ChecksWait (wait_not_owner bound other e) = rw e (keeps_progress w t (Has 1))
  keeps_ChecksWait (held_more bound own more e) = rw e (keeps_progress w t (Has 22))
  keeps_ChecksWait (checked bound own once e) = rw e (keeps_progress w t Checked)

  keeps_GivesUp : {m : ℕ} {v : World} (still : Bool) → GivesUp t m still w v → Keeps S w v
  keeps_GivesUp still (wait_unusable own health e) = rw e (keeps_same refl)
  keeps_GivesUp still (wait_released own health passes) =
      keeps_then (keeps_progress w t (on_release still)) (keeps_Passes passes)

  keeps_Uses : {c : ℕ} {v : World} → Uses t c w v → Keeps S w v
  keeps_Uses (use_at_limit full e) = rw e (keeps_progress w t (Has 75))
  keeps_Uses {c} (use_counts some e) = rw e (keeps_then (keeps_used c w) (keeps_progress (used c w) t Used))

  keeps_Chooses : {q : Request} {v : World} → Chooses t q w v → Keeps S w v
  keeps_Chooses (one c u s blocked greatest e) =
      rw e (keeps_then (keeps_progress w t (Has 0)) (keeps_call (with_progress t (Has 0) w) u after_unblocking))
  keeps_Chooses (no_one c s none e) = rw e (keeps_progress w t (Has 0))
  keeps_Chooses (all c us s blocked among e) =
      rw e (keeps_then (keeps_progress w t (Has 0)) (keeps_unblocked (with_progress t (Has 0) w) us))

  keeps_Effect : {v : World} → (S → IsNotSetting w t) → Effect t w v → Keeps S w v
  keeps_Effect n (lock m before e) = keeps_Locks e
  keeps_Effect n (try_lock m before e) = keeps_TriesToLock e
  keeps_Effect n (unlock m before e) = keeps_Unlocks e
  keeps_Effect n (consistent m before e) = keeps_MakesConsistent e
  keeps_Effect n (set_prio u p before e) = keeps_SetsPriority (λ s. n s u p Fresh before) e
  keeps_Effect n (check_wait c m before e) = keeps_ChecksWait e
  keeps_Effect n (enlist c m before e) = rw e (keeps_progress w t (Enlisted true))
  keeps_Effect n (give_up c m still before e) = keeps_GivesUp still e
  keeps_Effect n (lock_again c m before e) = keeps_Locks e
  keeps_Effect n (use_variable q before is_used e) = keeps_Uses e
  keeps_Effect n (choose q before e) = keeps_Chooses e
  keeps_Effect n (leave q before passes) = keeps_then (keeps_progress w t (Has 131)) (keeps_Passes passes)

  keeps_Expires : {v : World} → Expires t w v → Keeps S w v
  keeps_Expires (lock_expires m p before e) = rw e (keeps_after t (Has 110) _ _)
  keeps_Expires (wait_expires c m p before e) =
      rw e (keeps_then (keeps_thread w t _ refl refl) (keeps_progress (after_timeout t w) t Reacquiring))

-- a call that goes on is a setprio only if it was
still_not_setting : (w v : World) (t : ℕ) → IsNotSetting w t → GoesOn (call_of w t) (call_of v t) → IsNotSetting v t
still_not_setting w v t n (stays e) u p a k = n u p a (sym e ∙ k)
still_not_setting w v t n (closes e) u p a k = absurd (let z = sym e ∙ k in cc)
still_not_setting w v t n (comes q b d e f past other) u p a k =
    n u p b (e ∙ ap (λ r. Some (record { request = r; progress = b })) (same_request f k))

pub keeps_Effects : {S : Type 0} {t : ℕ} {first w v : World} → (S → IsNotSetting w t) → Effects t first w v → Keeps S w v
keeps_Effects n (no_effect e) = rw e keeps_all
keeps_Effects {t} {first} {w} n (effect_then {u = u} e more) =
    keeps_then (keeps_Effect n e)
    (keeps_Effects (λ s. still_not_setting w u t (n s) ((quiet_Effects {first = first} (effect_then e (no_effect refl))).call t)) more)
keeps_Effects {t} {first} {w} n (effect_owed {u = u} b c m blocked before e more) =
    keeps_then (keeps_Locks e)
    (keeps_Effects (λ s. still_not_setting w u t (n s) ((quiet_Effects {t = t} {first = first} (effect_owed b c m blocked before e (no_effect refl))).call t)) more)

pub keeps_Moves : {S : Type 0} {t : ℕ} {w v : World} → (S → IsNotSetting w t) → Moves t w v → Keeps S w v
keeps_Moves n (call_expires due e) = keeps_Expires e
keeps_Moves n (acts due e) = keeps_Effects n e

-- who lives once a thread has ended lived before
lived : (w : World) (t u : ℕ) → is_living (after_end t w) u ≡ true → is_living w u ≡ true
lived w t u = go (cases_eq u t)
  where
    x : Thread
    x = record (thread_at w t) { living = false; call = None }

    go : (u ≡ t) ⊎ (u ≡ t → ⊥) → is_living (after_end t w) u ≡ true → is_living w u ≡ true
    go (inl e) k = absurd (true≢false (sym k ∙ (ap (is_living (after_end t w)) e
        ∙ written_at (λ (y : Thread). y.living) w.threads t x nobody (λ l. refl))))
    go (inr d) k = sym (ap (λ (y : Thread). y.living) (get_or-set_other w.threads t u x nobody d)) ∙ k

pub keeps_Releases : {S : Type 0} {t : ℕ} {w v : World} → Releases t w v → Keeps S w v
keeps_Releases (none_left none e) = rw e keeps_all
keeps_Releases (one_more m own robust passes more) =
    keeps_then (keeps_then (keeps_same refl) (keeps_Passes passes)) (keeps_Releases more)

-- who is above all others stays so
above_kept : {w v : World} (h : ℕ) → IsHighest w h → Keeps (Unit {0}) w v → IsHighest v h
above_kept h above k t lives other = omega (arith, above t (sym (k.living t) ∙ lives) other, k.base tt t, k.base tt h)

-- also once a thread has ended
above_ended : (w : World) (h t : ℕ) → IsHighest w h → IsHighest (after_end t w) h
above_ended w h t above u lives other =
    let same = kept_at (λ (y : Thread). y.base) w.threads t (record (thread_at w t) { living = false; call = None }) nobody refl in
    omega (arith, above u (lived w t u lives) other, same u, same h)

-- also if a lower thread is added
above_added : (w : World) (h p : ℕ) → IsHighest w h → p < base_of w h → IsHighest (record w { threads = w.threads ++ new_thread p ∷ [] }) h
above_added w h p above low t lives other = by_place (cases_eq t (length w.threads))
  where
    v : World
    v = record w { threads = w.threads ++ new_thread p ∷ [] }

    there : h ≢ length w.threads
    there e = absurd (omega (arith, low, ap (λ (y : Thread). y.base) (get_or_past w.threads h nobody (omega (arith, e)))))

    high : base_of v h ≡ base_of w h
    high = ap (λ (y : Thread). y.base) (push_other w.threads (new_thread p) nobody h there)

    by_place : (t ≡ length w.threads) ⊎ (t ≡ length w.threads → ⊥) → base_of v t < base_of v h
    by_place (inl e) = omega (arith, low, high, ap (λ (y : Thread). y.base) (get_or_push w.threads (new_thread p) nobody t (sym e)))
    by_place (inr d) =
        let same = push_other w.threads (new_thread p) nobody t d in
        omega (arith, high, ap (λ (y : Thread). y.base) same, above t (sym (ap (λ (y : Thread). y.living) same) ∙ lives) other)

-- an entry that raises nobody leaves above all others who was so
pub above_stays : (l : Bounds) (w : World) (e : Entry) (v : World) (h : ℕ) → IsHighest w h → RaisesNobody h w e → Step l w e v → IsHighest v h
above_stays l w e v h a n (thread_added t p same is_next room low high after) = rw after (above_added w h p a (n.adds t p same))
above_stays l w e v h a n (mutex_added m k r same is_next room after) = rw after a
above_stays l w e v h a n (cond_added c m same known is_next room after) = rw after a
above_stays l w e v h a n (refused x r same why after) = rw after a
above_stays l w e v h a n (begun t q same allowed after) = rw after (above_kept h a (keeps_thread w t _ refl refl))
above_stays l w e v h a n (went t same g awake) = above_kept h a (keeps_Moves (λ s u p b. n.sets t u p _ b same) g.moves)
above_stays l w e v h a n (waits t u same g after resting) =
    rw after (above_kept h (above_kept h a (keeps_Moves (λ s x p b. n.sets t x p _ b same) g.moves)) (keeps_call u t after_waits))
above_stays l w e v h a n (answered t i q u same g before after awake) =
    rw after (above_kept h (above_kept h a (keeps_Moves (λ s x p b. n.sets t x p _ b same) g.moves)) (keeps_call u t without_call))
above_stays l w e v h a n (ended t same x) = above_kept h (above_ended w h t a) (keeps_Releases x.releases)
above_stays l w e v h a n (ticked k same allowed after) = rw after a

-- so a delay in which nobody is raised is one in which the highest thread stays above all others
pub calm : (l : Bounds) (h : ℕ) (w : World) → IsHighest w h → {turns : List (ℕ × World)} {v : World} → IsCalmDelay l h w turns v
    → IsDelay l h w turns v × IsAlwaysHighestAwake h turns × IsHighest v h
calm l h w a (starts e) = (starts e, tt, rw e a)
calm l h w a (runs {v = v} {z = z} p e d held picked entry n step) =
    let k = calm l h w a d in
    (runs p e k.0 held picked entry tt step, ((λ t lives awake. k.2 t lives), k.1), above_stays l v e z h k.2 n step)
calm l h w a (beside {v = v} {z = z} e d o n step) =
    let k = calm l h w a d in (beside e k.0 o tt step, k.1, above_stays l v e z h k.2 n step)
