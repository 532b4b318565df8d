-- In a state of a run only a wait is blocked, or has come so far that it may be.
use Rattle.std.proofs.Common.{ℕ, zero, suc, ◌≡◌, ◌∙◌, Bool, true, false, List, [], ◌∷◌, get_or, Option, Some, None, refl, sym, ap, if◌then◌else◌}
use Rattle.std.proofs.lemmas.Bool.{true≢false}
use Rattle.std.proofs.Math.ListN.{get_or-map}
use Rattle.pif_types.specs.Bounds.{Bounds}
use Rattle.pif_types.specs.declared.requests.Request.{Request}
use Rattle.pif_types.specs.declared.requests.Request.TheVariants.{Wait}
use Rattle.pif_model.specs.declared.events.Entry.{Entry}
use Rattle.pif_model.specs.Deadlines.{ran_out}
use Rattle.pif_model.specs.Projection.{is_wait}
use Rattle.pif_model.specs.Posix.{World, Thread, Call, Progress, Health, nobody, HasCome, Effect, Effects, Expires, Moves, Locks, LocksAgain, TriesToLock, Passes, Unlocks, MakesConsistent, SetsPriority, ChecksWait, GivesUp, Uses, Chooses, Releases, Step, IsRun, with_call_by, with_thread, with_progress, at_progress, after_waits, without_call, after_unblocking, on_unblocking, on_taking, taken, used, after_use, is_newly_blocked, all_unblocked, after_timeout, with_base, new_thread, begun_thread, mutex_at, without_waiter, thread_at}
use Rattle.pif_model.specs.Posix.Locks.{own_normal, own_errorcheck, own_recursive as lock_own_recursive, free as lock_free, orphaned as lock_orphaned, cycle, joins}
use Rattle.pif_model.specs.Posix.LocksAgain.{rises, at_limit}
use Rattle.pif_model.specs.Posix.TriesToLock.{own_recursive as try_own_recursive, busy as try_busy, free as try_free}
use Rattle.pif_model.specs.Posix.Passes.{to_nobody, to_next}
use Rattle.pif_model.specs.Posix.Unlocks.{not_owner, falls, becomes_unusable, released}
use Rattle.pif_model.specs.Posix.MakesConsistent.{not_robust, not_owner as consistent_not_owner, not_inconsistent, made_fine}
use Rattle.pif_model.specs.Posix.SetsPriority.{no_priority, not_living, changed}
use Rattle.pif_model.specs.Posix.ChecksWait.{other_mutex, not_owner as wait_not_owner, held_more, checked}
use Rattle.pif_model.specs.Posix.GivesUp.{becomes_unusable as wait_unusable, released as wait_released}
use Rattle.pif_model.specs.Posix.Uses.{at_limit as use_at_limit, counts as use_counts}
use Rattle.pif_model.specs.Posix.Chooses.{one, no_one, all}
use Rattle.pif_model.specs.Posix.Effect.{lock, try_lock, unlock, consistent, set_prio, check_wait, enlist, give_up, lock_again, use_variable, choose, leave}
use Rattle.pif_model.specs.Posix.Effects.{none as no_effect, then as effect_then, owed as effect_owed}
use Rattle.pif_model.specs.Posix.Expires.{lock as lock_expires, wait as wait_expires}
use Rattle.pif_model.specs.Posix.Moves.{expires, acts}
use Rattle.pif_model.specs.Posix.Releases.{none_left, one_more}
use Rattle.pif_model.specs.Posix.Step.{ticked, thread_added, mutex_added, cond_added, refused, begun, went, waits, answered, ended}
use Rattle.pif_model.specs.Posix.IsRun.{start, next}
use Rattle.pif_model.specs.World.Progress.{Fresh, Waiting, Stuck, Has, Checked, Enlisted, Blocked, Reacquiring, Used}
use Rattle.pif_model_lemmas.proofs.Places.{kept_at}
use Rattle.pif_model_lemmas.proofs.Waiting.{by_test}
use Rattle.pif_model_simulation.proofs.runs.Worlds.{call_of, push_same}

-- whether a call that has come this far is blocked, or is about to be
abbrev is_blocking : Progress → Bool
is_blocking Checked = true
is_blocking (Enlisted still) = true
is_blocking (Blocked noted) = true
is_blocking _ = false

-- whether an open call is a wait if it is so
abbrev blocks_by_wait : Option Call → Bool
blocks_by_wait None = true
blocks_by_wait (Some c) = if is_blocking c.progress then is_wait c.request else true

-- all open calls are so
abbrev OnlyWaitsBlock : World → Type 0
OnlyWaitsBlock w = (u : ℕ) → blocks_by_wait (call_of w u) ≡ true

-- WHAT A CHANGE KEEPS

-- t's call as f makes it
recalled : (w : World) (t : ℕ) (f : Option Call → Option Call) → OnlyWaitsBlock w
    → blocks_by_wait (f (call_of w t)) ≡ true → OnlyWaitsBlock (with_call_by t f w)
recalled w t f h e u =
    kept_at (λ (y : Thread). blocks_by_wait y.call) w.threads t
    (record (thread_at w t) { call = f (call_of w t) }) nobody (e ∙ sym (h t)) u
    ∙ h u

-- a call that has come so far that it is not blocked
comes : (w : World) (t : ℕ) (p : Progress) → OnlyWaitsBlock w → is_blocking p ≡ false
    → OnlyWaitsBlock (with_progress t p w)
comes w t p h e = recalled w t (at_progress p) h (go (call_of w t))
  where
    go : (o : Option Call) → blocks_by_wait (at_progress p o) ≡ true
    go None = refl
    go (Some c) = ap (λ b. if b then is_wait c.request else true) e

-- a wait comes further
wait_comes : (w : World) (t c m : ℕ) (p b : Progress) → OnlyWaitsBlock w → HasCome w t (Wait c m) p
    → is_blocking b ≡ true → OnlyWaitsBlock (with_progress t b w)
wait_comes w t c m p b h before e =
    recalled w t (at_progress b) h
    (ap blocks_by_wait (ap (at_progress b) before) ∙ ap (λ x. if x then is_wait (Wait c m) else true) e)

-- a call is unblocked, or noted
unblocked_call : (o : Option Call) → blocks_by_wait o ≡ true → blocks_by_wait (after_unblocking o) ≡ true
unblocked_call None e = e
unblocked_call (Some x) e = by_progress x.request x.progress e
  where
    by_progress : (q : Request) (p : Progress) → blocks_by_wait (Some (record { request = q; progress = p })) ≡ true
        → blocks_by_wait (Some (record { request = q; progress = on_unblocking p })) ≡ true
    by_progress q (Enlisted b) e = e
    by_progress q (Blocked b) e = refl
    by_progress q _ e = e

noted_call : (o : Option Call) → blocks_by_wait o ≡ true → blocks_by_wait (after_waits o) ≡ true
noted_call None e = e
noted_call (Some x) e = by_progress x.request x.progress e
  where
    by_progress : (q : Request) (p : Progress) → blocks_by_wait (Some (record { request = q; progress = p })) ≡ true
        → blocks_by_wait (after_waits (Some (record { request = q; progress = p }))) ≡ true
    by_progress q (Blocked b) e = e
    by_progress q _ e = e

-- what taking a mutex leads to
on_taking_blocks_not : (x : Health) → is_blocking (on_taking x) ≡ false
on_taking_blocks_not Health.Fine = refl
on_taking_blocks_not Health.Inconsistent = refl
on_taking_blocks_not Health.Unusable = refl

taking : (w : World) (t m : ℕ) → OnlyWaitsBlock w → OnlyWaitsBlock (taken t m w)
taking w t m h = comes w t (on_taking (mutex_at w m).health) h (on_taking_blocks_not (mutex_at w m).health)

-- EFFECTS

module _ {w : World} (h : OnlyWaitsBlock w) {t : ℕ} where
  after_LocksAgain : {m : ℕ} {v : World} → LocksAgain t m w v → OnlyWaitsBlock v
  after_LocksAgain (rises few e) = rw e (comes w t (Has 0) h refl)
  after_LocksAgain (at_limit full e) = rw e (comes w t (Has 11) h refl)

  after_Locks : {m : ℕ} {v : World} → Locks t m w v → OnlyWaitsBlock v
  after_Locks (own_normal own kind e) = rw e (comes w t Stuck h refl)
  after_Locks (own_errorcheck own kind e) = rw e (comes w t (Has 35) h refl)
  after_Locks (lock_own_recursive own kind e) = after_LocksAgain e
  after_Locks {m} (lock_free other free e) = rw e (taking w t m h)
  after_Locks (lock_orphaned orphaned e) = rw e (comes w t Stuck h refl)
  after_Locks (cycle owned leads e) = rw e (comes w t (Has 35) h refl)
  after_Locks (joins owned leads e) = rw e (comes w t Waiting h refl)

  after_TriesToLock : {m : ℕ} {v : World} → TriesToLock t m w v → OnlyWaitsBlock v
  after_TriesToLock (try_own_recursive own kind e) = after_LocksAgain e
  after_TriesToLock (try_busy owned kind e) = rw e (comes w t (Has 16) h refl)
  after_TriesToLock {m} (try_free free e) = rw e (taking w t m h)

after_Passes : {m : ℕ} {w v : World} → OnlyWaitsBlock w → Passes m w v → OnlyWaitsBlock v
after_Passes h (to_nobody none e) = rw e h
after_Passes {m} {w} h (to_next u chosen some e) = rw e (taking (without_waiter u w) u m h)

module _ {w : World} (h : OnlyWaitsBlock w) {t : ℕ} where
  after_Unlocks : {m : ℕ} {v : World} → Unlocks t m w v → OnlyWaitsBlock v
  after_Unlocks (not_owner other e) = rw e (comes w t (Has 1) h refl)
  after_Unlocks (falls own more e) = rw e (comes w t (Has 0) h refl)
  after_Unlocks (becomes_unusable own once health e) = rw e h
  after_Unlocks (released own once health passes) = after_Passes (comes w t (Has 0) h refl) passes

  after_MakesConsistent : {m : ℕ} {v : World} → MakesConsistent t m w v → OnlyWaitsBlock v
  after_MakesConsistent (not_robust kind e) = rw e (comes w t (Has 22) h refl)
  after_MakesConsistent (consistent_not_owner other e) = rw e (comes w t (Has 1) h refl)
  after_MakesConsistent (not_inconsistent own health e) = rw e (comes w t (Has 22) h refl)
  after_MakesConsistent (made_fine own health e) = rw e (comes w t (Has 0) h refl)

  after_SetsPriority : {u p : ℕ} {v : World} → SetsPriority t u p w v → OnlyWaitsBlock v
  after_SetsPriority (no_priority bad e) = rw e (comes w t (Has 22) h refl)
  after_SetsPriority (not_living good gone e) = rw e (comes w t (Has 3) h refl)
  after_SetsPriority {u} {p} (changed good lives e) = rw e (comes (with_base u p w) t (Has 0) rebased refl)
    where
      rebased : OnlyWaitsBlock (with_base u p w)
      rebased x =
          ap blocks_by_wait
          (kept_at (λ (y : Thread). y.call) w.threads u (record (thread_at w u) { base = p }) nobody refl x)
          ∙ h x

  after_ChecksWait : {c m : ℕ} {v : World} → HasCome w t (Wait c m) Fresh → ChecksWait t c m w v → OnlyWaitsBlock v
  after_ChecksWait before (other_mutex bound e) = rw e (comes w t (Has 22) h refl)
  after_ChecksWait before (wait_not_owner bound other e) = rw e (comes w t (Has 1) h refl)
  after_ChecksWait before (held_more bound own more e) = rw e (comes w t (Has 22) h refl)
  after_ChecksWait {c} {m} before (checked bound own once e) = rw e (wait_comes w t c m Fresh Checked h before refl)

  after_GivesUp : {c m : ℕ} {v : World} (still : Bool) → HasCome w t (Wait c m) (Enlisted still)
      → GivesUp t m still w v → OnlyWaitsBlock v
  after_GivesUp still before (wait_unusable own health e) = rw e h
  after_GivesUp {c} {m} true before (wait_released own health passes) =
      after_Passes (wait_comes w t c m (Enlisted true) (Blocked false) h before refl) passes
  after_GivesUp false before (wait_released own health passes) = after_Passes (comes w t Reacquiring h refl) passes

  after_Uses : {c : ℕ} {v : World} → Uses t c w v → OnlyWaitsBlock v
  after_Uses (use_at_limit full e) = rw e (comes w t (Has 75) h refl)
  after_Uses {c} (use_counts some e) = rw e (comes (used c w) t Used woken refl)
    where
      calls : (x : Thread) → blocks_by_wait x.call ≡ true → blocks_by_wait (after_use c x).call ≡ true
      calls x k = by_test
          (λ b. blocks_by_wait (if b then record x { call = after_unblocking x.call } else x).call ≡ true)
          (is_newly_blocked c x.call) (λ _. unblocked_call x.call k) (λ _. k)

      woken : OnlyWaitsBlock (used c w)
      woken u =
          ap (λ (y : Thread). blocks_by_wait y.call) (get_or-map (after_use c) w.threads u nobody)
          ∙ calls (thread_at w u) (h u)

all_woken : (us : List ℕ) (w : World) → OnlyWaitsBlock w → OnlyWaitsBlock (all_unblocked us w)
unfolding all_unblocked
all_woken [] w h = h
all_woken (u ∷ us) w h =
    all_woken us (with_call_by u after_unblocking w)
    (recalled w u after_unblocking h (unblocked_call (call_of w u) (h u)))

after_Chooses : {t : ℕ} {q : Request} {w v : World} → OnlyWaitsBlock w → Chooses t q w v → OnlyWaitsBlock v
after_Chooses {t} {q} {w} h (one c u s blocked greatest e) =
    rw e (recalled (with_progress t (Has 0) w) u after_unblocking (comes w t (Has 0) h refl)
    (unblocked_call (call_of (with_progress t (Has 0) w) u) (comes w t (Has 0) h refl u)))
after_Chooses {t} {q} {w} h (no_one c s none e) = rw e (comes w t (Has 0) h refl)
after_Chooses {t} {q} {w} h (all c us s blocked among e) =
    rw e (all_woken us (with_progress t (Has 0) w) (comes w t (Has 0) h refl))

after_Effect : {t : ℕ} {w v : World} → OnlyWaitsBlock w → Effect t w v → OnlyWaitsBlock v
after_Effect h (lock m before e) = after_Locks h e
after_Effect h (try_lock m before e) = after_TriesToLock h e
after_Effect h (unlock m before e) = after_Unlocks h e
after_Effect h (consistent m before e) = after_MakesConsistent h e
after_Effect h (set_prio u p before e) = after_SetsPriority h e
after_Effect h (check_wait c m before e) = after_ChecksWait h before e
after_Effect {t} {w} h (enlist c m before e) = rw e (wait_comes w t c m Checked (Enlisted true) h before refl)
after_Effect h (give_up c m still before e) = after_GivesUp h still before e
after_Effect h (lock_again c m before e) = after_Locks h e
after_Effect h (use_variable q before is_used e) = after_Uses h e
after_Effect h (choose q before e) = after_Chooses h e
after_Effect {t} {w} h (leave q before passes) = after_Passes (comes w t (Has 131) h refl) passes

after_Effects : {t : ℕ} {first w v : World} → OnlyWaitsBlock w → Effects t first w v → OnlyWaitsBlock v
after_Effects h (no_effect e) = rw e h
after_Effects h (effect_then e more) = after_Effects (after_Effect h e) more
after_Effects h (effect_owed b c m blocked before e more) = after_Effects (after_Locks h e) more

after_Expires : {t : ℕ} {w v : World} → OnlyWaitsBlock w → Expires t w v → OnlyWaitsBlock v
after_Expires {t} {w} h (lock_expires m p before e) = rw e (comes w t (Has 110) h refl)
after_Expires {t} {w} h (wait_expires c m p before e) = rw e (comes (after_timeout t w) t Reacquiring late refl)
  where
    late : OnlyWaitsBlock (after_timeout t w)
    late x =
        ap blocks_by_wait (kept_at (λ (y : Thread). y.call) w.threads t
        (record (thread_at w t) { timer = ran_out (thread_at w t).timer }) nobody refl x) ∙ h x

after_Moves : {t : ℕ} {w v : World} → OnlyWaitsBlock w → Moves t w v → OnlyWaitsBlock v
after_Moves h (expires due e) = after_Expires h e
after_Moves h (acts due e) = after_Effects h e

-- ENTRIES

after_Releases : {t : ℕ} {w v : World} → OnlyWaitsBlock w → Releases t w v → OnlyWaitsBlock v
after_Releases h (none_left none e) = rw e h
after_Releases h (one_more m own robust passes more) = after_Releases (after_Passes h passes) more

-- t is written, whose call is a wait if it is blocked
written : (w : World) (t : ℕ) (x : Thread) → OnlyWaitsBlock w → blocks_by_wait x.call ≡ true
    → OnlyWaitsBlock (with_thread t x w)
written w t x h e u = kept_at (λ (y : Thread). blocks_by_wait y.call) w.threads t x nobody (e ∙ sym (h t)) u ∙ h u

after_Step : {l : Bounds} {w v : World} {e : Entry} → OnlyWaitsBlock w → Step l w e v → OnlyWaitsBlock v
after_Step {w = w} h (thread_added t p same is_next room low high e) =
    rw e (λ u. ap blocks_by_wait (push_same (λ (y : Thread). y.call) w.threads (new_thread p) nobody u refl) ∙ h u)
after_Step h (mutex_added m k r same is_next room e) = rw e h
after_Step h (cond_added c m same known is_next room e) = rw e h
after_Step h (refused x r same why e) = rw e h
after_Step {w = w} h (begun t q same allowed e) = rw e (written w t (begun_thread w q (thread_at w t)) h refl)
after_Step h (went t same goes awake) = after_Moves h goes.moves
after_Step h (waits t u same goes e resting) =
    rw e (recalled u t after_waits (after_Moves h goes.moves) (noted_call (call_of u t) (after_Moves h goes.moves t)))
after_Step h (answered t a q u same goes before e awake) =
    rw e (recalled u t without_call (after_Moves h goes.moves) refl)
after_Step {w = w} h (ended t same ends) =
    after_Releases (written w t (record (thread_at w t) { living = false; call = None }) h refl) ends.releases
after_Step h (ticked n same allowed e) = rw e h

-- RUNS

only_waits_block : {l : Bounds} {h : List Entry} {r : List World} {w : World} → IsRun l h r w → OnlyWaitsBlock w
only_waits_block (start e) = rw e (λ u. ap (λ (y : Thread). blocks_by_wait y.call) (lone u))
  where
    lone : (n : ℕ) → get_or (nobody ∷ []) n nobody ≡ nobody
    lone zero = refl
    lone (suc n) = refl
only_waits_block (next run step) = after_Step (only_waits_block run) step

-- a request is a wait for some variable, with some mutex
pub record IsWait (q : Request) : Type 0 where
  pub variable : ℕ
  pub mutex : ℕ
  pub is : q ≡ Wait variable mutex

-- whoever is blocked in a state of a run is in a wait
pub wait-from_blocked : (l : Bounds) (h : List Entry) (r : List World) (w : World) → IsRun l h r w → (t : ℕ)
    (q : Request) (noted : Bool) → HasCome w t q (Blocked noted) → IsWait q
wait-from_blocked l h r w run t q noted e = by_request q (sym (ap blocks_by_wait e) ∙ only_waits_block run t)
  where
    by_request : (q : Request) → is_wait q ≡ true → IsWait q
    by_request (Wait c m) k = record { variable = c; mutex = m; is = refl }
    by_request _ k = absurd (true≢false (sym k))
