-- In a history that a run gives, each thread was added by an entry.
use Rattle.std.proofs.Common.{◌≡◌, ◌≢◌, ◌⊎◌, ◌<◌, ◌≤◌, ℕ, ◌+◌, Bool, true, false, ◌==◌, nat_lt, ◌||◌, List, [], ◌∷◌, length, refl, sym, ap, ◌∙◌, inl, inr, arith, if◌then◌else◌}
use Rattle.std.specs.List.{list_any}
use Rattle.std.proofs.lemmas.Bool.{cases_lt, eq-eqb}
use Rattle.std.proofs.lemmas.List.{length-set, length-map, length_push}
use Rattle.pif_types.specs.Bounds.{Bounds}
use Rattle.pif_types.specs.declared.requests.Request.{Request}
use Rattle.pif_model.specs.declared.events.Entry.{Entry}
use Rattle.pif_model.specs.declared.events.Entry.TheVariants.{Thread as AddThread}
use Rattle.pif_model.specs.Posix.{World, is_thread, with_call_by, after_unblocking, after_use, all_unblocked, Passes, LocksAgain, Locks, TriesToLock, Unlocks, MakesConsistent, SetsPriority, ChecksWait, GivesUp, Uses, Chooses, Effect, Effects, Expires, Moves, Releases, Step, IsRun}
use Rattle.pif_model.specs.Posix.Passes.{to_nobody, to_next}
use Rattle.pif_model.specs.Posix.LocksAgain.{rises, at_limit}
use Rattle.pif_model.specs.Posix.Locks.{own_normal, own_errorcheck, own_recursive as lock_own_recursive, free as lock_free, orphaned, cycle, joins}
use Rattle.pif_model.specs.Posix.TriesToLock.{own_recursive as try_own_recursive, busy, free as try_free}
use Rattle.pif_model.specs.Posix.Unlocks.{not_owner, falls, becomes_unusable, released}
use Rattle.pif_model.specs.Posix.MakesConsistent.{not_robust, not_owner as consistent_not_owner, not_inconsistent, made_fine}
use Rattle.pif_model.specs.Posix.SetsPriority.{no_priority, not_living, changed}
use Rattle.pif_model.specs.Posix.ChecksWait.{other_mutex, not_owner as wait_not_owner, held_more, checked}
use Rattle.pif_model.specs.Posix.GivesUp.{becomes_unusable as wait_becomes_unusable, released as wait_released}
use Rattle.pif_model.specs.Posix.Uses.{at_limit as use_at_limit, counts}
use Rattle.pif_model.specs.Posix.Chooses.{one as one_chosen, no_one as none_chosen, all as all_chosen}
use Rattle.pif_model.specs.Posix.Effect.{lock, try_lock, unlock, consistent, set_prio, check_wait, enlist, give_up, lock_again, use_variable, choose, leave}
use Rattle.pif_model.specs.Posix.Effects.{none as no_effect, then as effect_then, owed}
use Rattle.pif_model.specs.Posix.Expires.{lock as lock_expires, wait as wait_expires}
use Rattle.pif_model.specs.Posix.Moves.{expires, acts}
use Rattle.pif_model.specs.Posix.Releases.{none_left, one_more}
use Rattle.pif_model.specs.Posix.Step.{thread_added, mutex_added, cond_added, refused, begun, went, waits, answered, ended, ticked}
use Rattle.pif_model.specs.Posix.IsRun.{start, next}
use Rattle.pif_model_lemmas.proofs.Numbers.{within, from_within}
use Rattle.pif_desk.specs.Settling.{adds}

-- THE NUMBER OF THREADS

-- as many threads
abbrev Same : World → World → Type 0
Same w v = length v.threads ≡ length w.threads

-- a state is another, which has as many threads
by : {v x : World} {n : ℕ} → v ≡ x → length x.threads ≡ n → length v.threads ≡ n
by e k = ap (λ (u : World). length u.threads) e ∙ k

same_Passes : {m : ℕ} {w v : World} → Passes m w v → Same w v
same_Passes (to_nobody none e) = by e refl
same_Passes {w = w} (to_next u is some e) = by e (length-set w.threads _ _)

same_LocksAgain : {t m : ℕ} {w v : World} → LocksAgain t m w v → Same w v
same_LocksAgain {w = w} (rises few e) = by e (length-set w.threads _ _)
same_LocksAgain {w = w} (at_limit full e) = by e (length-set w.threads _ _)

same_Locks : {t m : ℕ} {w v : World} → Locks t m w v → Same w v
same_Locks {w = w} (own_normal own kind e) = by e (length-set w.threads _ _)
same_Locks {w = w} (own_errorcheck own kind e) = by e (length-set w.threads _ _)
same_Locks (lock_own_recursive own kind again) = same_LocksAgain again
same_Locks {w = w} (lock_free other free e) = by e (length-set w.threads _ _)
same_Locks {w = w} (orphaned by_another e) = by e (length-set w.threads _ _)
same_Locks {w = w} (cycle owned leads e) = by e (length-set w.threads _ _)
same_Locks {w = w} (joins owned leads e) = by e (length-set w.threads _ _)

same_TriesToLock : {t m : ℕ} {w v : World} → TriesToLock t m w v → Same w v
same_TriesToLock (try_own_recursive own kind again) = same_LocksAgain again
same_TriesToLock {w = w} (busy owned kind e) = by e (length-set w.threads _ _)
same_TriesToLock {w = w} (try_free free e) = by e (length-set w.threads _ _)

same_Unlocks : {t m : ℕ} {w v : World} → Unlocks t m w v → Same w v
same_Unlocks {w = w} (not_owner other e) = by e (length-set w.threads _ _)
same_Unlocks {w = w} (falls own more e) = by e (length-set w.threads _ _)
same_Unlocks (becomes_unusable own one bad e) = by e refl
same_Unlocks {w = w} (released own one good passes) = same_Passes passes ∙ length-set w.threads _ _

same_MakesConsistent : {t m : ℕ} {w v : World} → MakesConsistent t m w v → Same w v
same_MakesConsistent {w = w} (not_robust stalled e) = by e (length-set w.threads _ _)
same_MakesConsistent {w = w} (consistent_not_owner other e) = by e (length-set w.threads _ _)
same_MakesConsistent {w = w} (not_inconsistent own good e) = by e (length-set w.threads _ _)
same_MakesConsistent {w = w} (made_fine own bad e) = by e (length-set w.threads _ _)

same_SetsPriority : {t u p : ℕ} {w v : World} → SetsPriority t u p w v → Same w v
same_SetsPriority {w = w} (no_priority out e) = by e (length-set w.threads _ _)
same_SetsPriority {w = w} (not_living prio dead e) = by e (length-set w.threads _ _)
same_SetsPriority {w = w} (changed prio lives e) = by e (length-set _ _ _ ∙ length-set w.threads _ _)

same_ChecksWait : {t c m : ℕ} {w v : World} → ChecksWait t c m w v → Same w v
same_ChecksWait {w = w} (other_mutex bound e) = by e (length-set w.threads _ _)
same_ChecksWait {w = w} (wait_not_owner bound other e) = by e (length-set w.threads _ _)
same_ChecksWait {w = w} (held_more bound own more e) = by e (length-set w.threads _ _)
same_ChecksWait {w = w} (checked bound own once e) = by e (length-set w.threads _ _)

same_GivesUp : {t m : ℕ} {still : Bool} {w v : World} → GivesUp t m still w v → Same w v
same_GivesUp (wait_becomes_unusable own bad e) = by e refl
same_GivesUp {w = w} (wait_released own good passes) = same_Passes passes ∙ length-set w.threads _ _

same_Uses : {t c : ℕ} {w v : World} → Uses t c w v → Same w v
same_Uses {w = w} (use_at_limit full e) = by e (length-set w.threads _ _)
same_Uses {c = c} {w = w} (counts few e) = by e (length-set _ _ _ ∙ length-map w.threads (after_use c))

same_all_unblocked : (us : List ℕ) (w : World) → Same w (all_unblocked us w)
unfolding all_unblocked
same_all_unblocked [] w = refl
same_all_unblocked (u ∷ us) w = same_all_unblocked us (with_call_by u after_unblocking w) ∙ length-set w.threads _ _

same_Chooses : {t : ℕ} {q : Request} {w v : World} → Chooses t q w v → Same w v
same_Chooses {w = w} (one_chosen c u is blocked greatest e) = by e (length-set _ _ _ ∙ length-set w.threads _ _)
same_Chooses {w = w} (none_chosen c is none e) = by e (length-set w.threads _ _)
same_Chooses {w = w} (all_chosen c us is blocked those e) =
    by e (same_all_unblocked us _ ∙ length-set w.threads _ _)

same_Effect : {t : ℕ} {w v : World} → Effect t w v → Same w v
same_Effect (lock m call e) = same_Locks e
same_Effect (try_lock m call e) = same_TriesToLock e
same_Effect (unlock m call e) = same_Unlocks e
same_Effect (consistent m call e) = same_MakesConsistent e
same_Effect (set_prio u p call e) = same_SetsPriority e
same_Effect (check_wait c m call e) = same_ChecksWait e
same_Effect {w = w} (enlist c m call e) = by e (length-set w.threads _ _)
same_Effect (give_up c m still call e) = same_GivesUp e
same_Effect (lock_again c m call e) = same_Locks e
same_Effect (use_variable q call uses e) = same_Uses e
same_Effect (choose q call e) = same_Chooses e
same_Effect {w = w} (leave q call passes) = same_Passes passes ∙ length-set w.threads _ _

same_Effects : {t : ℕ} {first w v : World} → Effects t first w v → Same w v
same_Effects (no_effect e) = by e refl
same_Effects (effect_then e rest) = same_Effects rest ∙ same_Effect e
same_Effects (owed b c m blocked call e rest) = same_Effects rest ∙ same_Locks e

same_Expires : {t : ℕ} {w v : World} → Expires t w v → Same w v
same_Expires {w = w} (lock_expires m p call e) = by e (length-set w.threads _ _)
same_Expires {w = w} (wait_expires c m p call e) = by e (length-set _ _ _ ∙ length-set w.threads _ _)

same_Moves : {t : ℕ} {w u : World} → Moves t w u → Same w u
same_Moves (expires due e) = same_Expires e
same_Moves (acts not_due e) = same_Effects e

same_Releases : {t : ℕ} {w v : World} → Releases t w v → Same w v
same_Releases (none_left none e) = by e refl
same_Releases (one_more m own robust passes rest) = same_Releases rest ∙ same_Passes passes

-- THREADS THAT WERE ADDED

-- an entry more
any-behind : (b : Bool) {c : Bool} → c ≡ true → (b || c) ≡ true
any-behind true e = refl
any-behind false e = e

any-first : {b : Bool} (c : Bool) → b ≡ true → (b || c) ≡ true
any-first c e = ap (λ (x : Bool). x || c) e

-- each thread that a state has was added by an entry
abbrev AllAdded : List Entry → World → Type 0
AllAdded h w = (t : ℕ) → is_thread w t ≡ true → list_any (adds t) h ≡ true

-- a step with no new thread
all_kept : (h : List Entry) (e : Entry) (w v : World) → Same w v → AllAdded h w → AllAdded (e ∷ h) v
all_kept h e w v same all t known =
    any-behind (adds t e) (all t (ap (λ n. if t == 0 then false else nat_lt t n) (sym same) ∙ known))

-- a step with a new one
thread_adds : (h : List Entry) (e : Entry) (w v : World) (u p : ℕ) → e ≡ AddThread u p → u ≡ length w.threads
    → length v.threads ≡ length w.threads + 1 → AllAdded h w → AllAdded (e ∷ h) v
thread_adds h e w v u p is number long all t known = by_place (cases_lt t (length w.threads))
  where
    place : (t ≢ 0) × (t < length v.threads)
    place = within t (length v.threads) known

    by_place : (t < length w.threads) ⊎ (length w.threads ≤ t) → list_any (adds t) (e ∷ h) ≡ true
    by_place (inl k) = any-behind (adds t e) (all t (from_within t (length w.threads) place.0 k))
    by_place (inr k) = any-first (list_any (adds t) h)
        (ap (adds t) is ∙ eq-eqb u t (omega (arith, number, long, place.1, k)))

-- each step
step_adds : (l : Bounds) (h : List Entry) (e : Entry) (w v : World) → AllAdded h w → Step l w e v → AllAdded (e ∷ h) v
step_adds l h e w v all (thread_added u p is number few low high after) =
    thread_adds h e w v u p is number (ap (λ (x : World). length x.threads) after ∙ length_push w.threads _) all
step_adds l h e w v all (mutex_added m k r is number few after) = all_kept h e w v (by after refl) all
step_adds l h e w v all (cond_added c m is known number few after) = all_kept h e w v (by after refl) all
step_adds l h e w v all (refused x r is why after) = all_kept h e w v (by after refl) all
step_adds l h e w v all (begun t q is may after) = all_kept h e w v (by after (length-set w.threads _ _)) all
step_adds l h e w v all (went t is goes awake) = all_kept h e w v (same_Moves goes.moves) all
step_adds l h e w v all (waits t u is goes after rests) =
    all_kept h e w v (by after (length-set u.threads _ _ ∙ same_Moves goes.moves)) all
step_adds l h e w v all (answered t a q u is goes has after awake) =
    all_kept h e w v (by after (length-set u.threads _ _ ∙ same_Moves goes.moves)) all
step_adds l h e w v all (ended t is ends) =
    all_kept h e w v (same_Releases ends.releases ∙ length-set w.threads _ _) all
step_adds l h e w v all (ticked n is may after) = all_kept h e w v (by after refl) all

-- each thread of a run was added by an entry of its history
pub run_adds : (l : Bounds) {h : List Entry} {r : List World} {w : World} → IsRun l h r w → AllAdded h w
run_adds l (start e) = λ t known.
    let p = within t 1 (ap (λ (x : World). is_thread x t) (sym e) ∙ known) in absurd (p.0 (omega (arith, p.1)))
run_adds l (next {h = h} {e = e} {w = w} {v = v} run step) = step_adds l h e w v (run_adds l run) step
