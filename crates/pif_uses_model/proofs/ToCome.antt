-- How many uses are to come: no move makes them more, and a use makes them less by one. The begin of a signal or of a
-- broadcast makes them more by one.
use Rattle.std.proofs.Common.{ℕ, zero, suc, ◌≡◌, ◌≤◌, ◌+◌, ◌∙◌, Bool, true, false, List, [], ◌∷◌, get_or, set, map, Option, Some, None, refl, ap, arith, if◌then◌else◌}
use Rattle.std.specs.List.{sum_by}
use Rattle.std.proofs.lemmas.List.Sums.{sum_by-cons}
use Rattle.pif_types.specs.declared.requests.Request.{Request}
use Rattle.pif_model.specs.Deadlines.{plain, ran_out}
use Rattle.pif_model.specs.NamedNumbers.{ENOTRECOVERABLE}
use Rattle.pif_model.specs.Posix.{World, Thread, Mutex, Call, Progress, Health, nobody, thread_at, mutex_at, with_thread, with_mutex, with_call_by, with_progress, at_progress, begun_thread, without_waiter, without_call, taken, used, after_use, after_unblocking, all_unblocked, after_end, after_owner_death, is_newly_blocked, is_use, on_taking, on_release, IsCalling, Comes, Locks, LocksAgain, TriesToLock, Passes, Unlocks, MakesConsistent, SetsPriority, ChecksWait, GivesUp, Uses, Chooses, Effect, Expires, Releases, Ends}
use Rattle.pif_model.specs.World.Health.{Fine, Inconsistent, Unusable}
use Rattle.pif_model.specs.World.Progress.{Fresh, Has, Blocked, Enlisted, Used}
use Rattle.pif_model.specs.Posix.Locks.{own_normal, own_errorcheck, own_recursive as lock_own_recursive, free as lock_free, orphaned as lock_orphaned, cycle, joins}
use Rattle.pif_model.specs.Posix.LocksAgain.{rises, at_limit}
use Rattle.pif_model.specs.Posix.TriesToLock.{own_recursive as try_own_recursive, busy as try_busy, free as try_free}
use Rattle.pif_model.specs.Posix.Passes.{to_nobody, to_next}
use Rattle.pif_model.specs.Posix.Unlocks.{not_owner, falls, becomes_unusable, released}
use Rattle.pif_model.specs.Posix.MakesConsistent.{not_robust, not_owner as consistent_not_owner, not_inconsistent, made_fine}
use Rattle.pif_model.specs.Posix.SetsPriority.{no_priority, not_living, changed}
use Rattle.pif_model.specs.Posix.ChecksWait.{other_mutex, not_owner as wait_not_owner, held_more, checked}
use Rattle.pif_model.specs.Posix.GivesUp.{becomes_unusable as wait_unusable, released as wait_released}
use Rattle.pif_model.specs.Posix.Uses.{at_limit as use_at_limit, counts as use_counts}
use Rattle.pif_model.specs.Posix.Chooses.{one, no_one, all}
use Rattle.pif_model.specs.Posix.Effect.{lock, try_lock, unlock, consistent, set_prio, check_wait, enlist, give_up, lock_again, use_variable, choose, leave}
use Rattle.pif_model.specs.Posix.Expires.{lock as lock_expires, wait as wait_expires}
use Rattle.pif_model.specs.Posix.Releases.{none_left, one_more}
use Rattle.pif_posix_steps.specs.Once.{MovesOnce, Acts}
use Rattle.pif_posix_steps.specs.Once.Acts.{effect, expires, notes}
use Rattle.pif_uses_model.specs.Uses.{to_come_at, to_come_of, uses_to_come}

-- LISTS OF THREADS

-- how many uses are to come of a thread
abbrev pub to_come : Thread → ℕ
to_come x = to_come_of x.call

-- one thread is written, with at most so many more
set_lowers : (xs : List Thread) (t n : ℕ) (y : Thread) → to_come y ≤ to_come (get_or xs t nobody) + n
    → sum_by to_come (set xs t y) ≤ sum_by to_come xs + n
set_lowers [] t n y h = omega arith
set_lowers (x ∷ xs) zero n y h = omega (arith, h, sum_by-cons to_come y xs, sum_by-cons to_come x xs)
set_lowers (x ∷ xs) (suc t) n y h =
    let more = set_lowers xs t n y h in omega (arith, more, sum_by-cons to_come x (set xs t y), sum_by-cons to_come x xs)

-- all are changed
module _ (g : Thread → Thread) (h : (x : Thread) → to_come (g x) ≤ to_come x) where
  map_lowers : (xs : List Thread) → sum_by to_come (map g xs) ≤ sum_by to_come xs
  map_lowers [] = omega arith
  map_lowers (x ∷ xs) =
      let more = map_lowers xs in let here = h x in
      omega (arith, more, here, sum_by-cons to_come (g x) (map g xs), sum_by-cons to_come x xs)

  -- and of one nothing is to come any more
  use_lowers : (xs : List Thread) (t : ℕ) (y : Thread) → to_come y ≡ 0
      → sum_by to_come (set (map g xs) t y) + to_come (get_or xs t nobody) ≤ sum_by to_come xs
  use_lowers [] t y e = omega arith
  use_lowers (x ∷ xs) zero y e =
      let more = map_lowers xs in omega (arith, e, more, sum_by-cons to_come y (map g xs), sum_by-cons to_come x xs)
  use_lowers (x ∷ xs) (suc t) y e =
      let more = use_lowers xs t y e in let here = h x in
      omega (arith, more, here, sum_by-cons to_come (g x) (set (map g xs) t y), sum_by-cons to_come x xs)

-- CALLS

-- of a call that has come further than to its begin no use is to come
abbrev pub IsPast : Progress → Type 0
IsPast p = (q : Request) → to_come_at q p ≡ 0

past_taking : (h : Health) → IsPast (on_taking h)
past_taking Fine q = refl
past_taking Inconsistent q = refl
past_taking Unusable q = refl

past_release : (still : Bool) → IsPast (on_release still)
past_release true q = refl
past_release false q = refl

past_call : (p : Progress) → IsPast p → (o : Option Call) → to_come_of (at_progress p o) ≡ 0
past_call p h None = refl
past_call p h (Some x) = h x.request

unblocked_call : (o : Option Call) → to_come_of (after_unblocking o) ≤ to_come_of o
unblocked_call None = omega arith
unblocked_call (Some x) = by_progress x.request x.progress
  where
    by_progress : (q : Request) (p : Progress) → to_come_of (after_unblocking (Some (record { request = q; progress = p })))
        ≤ to_come_of (Some (record { request = q; progress = p }))
    by_progress q (Enlisted still) = omega arith
    by_progress q (Blocked noted) = omega arith
    by_progress q _ = omega arith

used_thread : (c : ℕ) (x : Thread) → to_come (after_use c x) ≤ to_come x
used_thread c x = go (is_newly_blocked c x.call)
  where
    go : (b : Bool) → to_come (if b then record x { call = after_unblocking x.call } else x) ≤ to_come x
    go true = unblocked_call x.call
    go false = omega arith

-- CHANGES

-- from w to v the uses to come are made no more
pub record Lowers (w v : World) : Type 0 where
  pub less : uses_to_come v ≤ uses_to_come w

same : (w : World) → Lowers w w
same w = record { less = omega arith }

chain : (w u v : World) → Lowers w u → Lowers u v → Lowers w v
chain w u v a b = record { less = omega (arith, a.less, b.less) }

written : (w : World) (t : ℕ) (y : Thread) → to_come y ≤ to_come (thread_at w t) → Lowers w (with_thread t y w)
written w t y h = record { less = let less = set_lowers w.threads t 0 y (omega (arith, h)) in omega (arith, less) }

progress : (w : World) (t : ℕ) (p : Progress) → IsPast p → Lowers w (with_progress t p w)
progress w t p h =
    written w t (record (thread_at w t) { call = at_progress p (thread_at w t).call })
    (let none = past_call p h (thread_at w t).call in omega (arith, none))

unblocked : (w : World) (u : ℕ) → Lowers w (with_call_by u after_unblocking w)
unblocked w u =
    written w u (record (thread_at w u) { call = after_unblocking (thread_at w u).call }) (unblocked_call (thread_at w u).call)

mutex : (w : World) (m : ℕ) (z : Mutex) → Lowers w (with_mutex m z w)
mutex w m z = record { less = omega arith }

waiters : (w : World) (x : List (ℕ × ℕ)) → Lowers w (record w { waiters = x })
waiters w x = record { less = omega arith }

-- a call comes further, after another change
comes : {w u v : World} (t : ℕ) (p : Progress) → IsPast p → Lowers w u → Comes t p u v → Lowers w v
comes {w} {u} {v} t p m r e = rw e (chain w u (with_progress t p u) r (progress u t p m))

-- MOVES

lowers_LocksAgain : {t m : ℕ} {w v : World} → LocksAgain t m w v → Lowers w v
lowers_LocksAgain {t} {m} {w} (rises may e) = comes t _ (λ q. refl) (mutex w m _) e
lowers_LocksAgain {t} {m} {w} (at_limit most e) = comes t _ (λ q. refl) (same w) e

lowers_taken : (t m : ℕ) (w v : World) → v ≡ taken t m w → Lowers w v
lowers_taken t m w v e = comes t _ (past_taking (mutex_at w m).health) (mutex w m _) e

lowers_Locks : {t m : ℕ} {w v : World} → Locks t m w v → Lowers w v
lowers_Locks {t} {m} {w} (own_normal a b e) = comes t _ (λ q. refl) (same w) e
lowers_Locks {t} {m} {w} (own_errorcheck a b e) = comes t _ (λ q. refl) (same w) e
lowers_Locks {t} {m} {w} (lock_own_recursive a b e) = lowers_LocksAgain e
lowers_Locks {t} {m} {w} {v} (lock_free a b e) = lowers_taken t m w v e
lowers_Locks {t} {m} {w} (lock_orphaned a e) = comes t _ (λ q. refl) (same w) e
lowers_Locks {t} {m} {w} (cycle a b e) = comes t _ (λ q. refl) (same w) e
lowers_Locks {t} {m} {w} (joins a b e) = comes t _ (λ q. refl) (waiters w _) e

lowers_TriesToLock : {t m : ℕ} {w v : World} → TriesToLock t m w v → Lowers w v
lowers_TriesToLock (try_own_recursive a b e) = lowers_LocksAgain e
lowers_TriesToLock {t} {m} {w} (try_busy a b e) = comes t _ (λ q. refl) (same w) e
lowers_TriesToLock {t} {m} {w} {v} (try_free a e) = lowers_taken t m w v e

lowers_Passes : {m : ℕ} {w v : World} → Passes m w v → Lowers w v
lowers_Passes {m} {w} (to_nobody a e) = rw e (mutex w m _)
lowers_Passes {m} {w} {v} (to_next u a b e) =
    chain w (without_waiter u w) v (waiters w _) (lowers_taken u m (without_waiter u w) v e)

lowers_Unlocks : {t m : ℕ} {w v : World} → Unlocks t m w v → Lowers w v
lowers_Unlocks {t} {m} {w} (not_owner a e) = comes t _ (λ q. refl) (same w) e
lowers_Unlocks {t} {m} {w} (falls a b e) = comes t _ (λ q. refl) (mutex w m _) e
lowers_Unlocks {t} {m} {w} (becomes_unusable a b c e) = rw e (mutex w m _)
lowers_Unlocks {t} {m} {w} {v} (released a b c e) =
    chain w (with_progress t (Has 0) w) v (progress w t (Has 0) (λ q. refl)) (lowers_Passes e)

lowers_MakesConsistent : {t m : ℕ} {w v : World} → MakesConsistent t m w v → Lowers w v
lowers_MakesConsistent {t} {m} {w} (not_robust a e) = comes t _ (λ q. refl) (same w) e
lowers_MakesConsistent {t} {m} {w} (consistent_not_owner a e) = comes t _ (λ q. refl) (same w) e
lowers_MakesConsistent {t} {m} {w} (not_inconsistent a b e) = comes t _ (λ q. refl) (same w) e
lowers_MakesConsistent {t} {m} {w} (made_fine a b e) = comes t _ (λ q. refl) (mutex w m _) e

lowers_SetsPriority : {t u p : ℕ} {w v : World} → SetsPriority t u p w v → Lowers w v
lowers_SetsPriority {t} {u} {p} {w} (no_priority a e) = comes t _ (λ q. refl) (same w) e
lowers_SetsPriority {t} {u} {p} {w} (not_living a b e) = comes t _ (λ q. refl) (same w) e
lowers_SetsPriority {t} {u} {p} {w} (changed a b e) =
    comes t _ (λ q. refl) (written w u (record (thread_at w u) { base = p }) (omega arith)) e

lowers_ChecksWait : {t c m : ℕ} {w v : World} → ChecksWait t c m w v → Lowers w v
lowers_ChecksWait {t} {c} {m} {w} (other_mutex a e) = comes t _ (λ q. refl) (same w) e
lowers_ChecksWait {t} {c} {m} {w} (wait_not_owner a b e) = comes t _ (λ q. refl) (same w) e
lowers_ChecksWait {t} {c} {m} {w} (held_more a b d e) = comes t _ (λ q. refl) (same w) e
lowers_ChecksWait {t} {c} {m} {w} (checked a b d e) = comes t _ (λ q. refl) (same w) e

lowers_GivesUp : {t m : ℕ} {still : Bool} {w v : World} → GivesUp t m still w v → Lowers w v
lowers_GivesUp {t} {m} {still} {w} (wait_unusable a b e) = rw e (mutex w m _)
lowers_GivesUp {t} {m} {still} {w} {v} (wait_released a b e) =
    chain w (with_progress t (on_release still) w) v (progress w t (on_release still) (past_release still)) (lowers_Passes e)

-- c is used by t, of which a use was to come
pub use_lowers_by_one : (w : World) (t c : ℕ) (q : Request) → IsCalling w t q → is_use q ≡ true
    → uses_to_come (with_progress t Used (used c w)) + 1 ≤ uses_to_come w
use_lowers_by_one w t c q calls is =
    let one_less = use_lowers (after_use c) (used_thread c) w.threads t
    (record (thread_at (used c w) t) { call = at_progress Used (thread_at (used c w) t).call }) (past_call Used (λ r. refl) (thread_at (used c w) t).call) in
    let here : to_come (thread_at w t) ≡ 1 = ap to_come_of calls ∙ ap (λ (b : Bool). if b then 1 else 0) is in
    omega (arith, one_less, here)

lowers_Uses : {t c : ℕ} {w v : World} (q : Request) → IsCalling w t q → is_use q ≡ true → Uses t c w v → Lowers w v
lowers_Uses {t} {c} {w} q calls is (use_at_limit a e) = comes t _ (λ r. refl) (same w) e
lowers_Uses {t} {c} {w} q calls is (use_counts a e) =
    rw e (record { less = let fewer = use_lowers_by_one w t c q calls is in omega (arith, fewer) })

lowers_all_unblocked : (us : List ℕ) (w : World) → Lowers w (all_unblocked us w)
unfolding all_unblocked
lowers_all_unblocked [] w = same w
lowers_all_unblocked (u ∷ us) w =
    chain w (with_call_by u after_unblocking w) _ (unblocked w u) (lowers_all_unblocked us (with_call_by u after_unblocking w))

lowers_Chooses : {t : ℕ} {q : Request} {w v : World} → Chooses t q w v → Lowers w v
lowers_Chooses {t} {q} {w} (one c u a b d e) =
    rw e (chain w (with_progress t (Has 0) w) _ (progress w t (Has 0) (λ r. refl)) (unblocked (with_progress t (Has 0) w) u))
lowers_Chooses {t} {q} {w} (no_one c a b e) = comes t _ (λ r. refl) (same w) e
lowers_Chooses {t} {q} {w} (all c us a b d e) =
    rw e (chain w (with_progress t (Has 0) w) _ (progress w t (Has 0) (λ r. refl))
    (lowers_all_unblocked us (with_progress t (Has 0) w)))

lowers_Effect : {t : ℕ} {w v : World} → Effect t w v → Lowers w v
lowers_Effect (lock m a e) = lowers_Locks e
lowers_Effect (try_lock m a e) = lowers_TriesToLock e
lowers_Effect (unlock m a e) = lowers_Unlocks e
lowers_Effect (consistent m a e) = lowers_MakesConsistent e
lowers_Effect (set_prio u p a e) = lowers_SetsPriority e
lowers_Effect (check_wait c m a e) = lowers_ChecksWait e
lowers_Effect {t} {w} (enlist c m a e) = comes t _ (λ q. refl) (same w) e
lowers_Effect (give_up c m still a e) = lowers_GivesUp e
lowers_Effect (lock_again c m a e) = lowers_Locks e
lowers_Effect (use_variable q a is e) = lowers_Uses q a is e
lowers_Effect (choose q a e) = lowers_Chooses e
lowers_Effect {t} {w} {v} (leave q a e) =
    chain w (with_progress t (Has ENOTRECOVERABLE) w) v (progress w t (Has ENOTRECOVERABLE) (λ r. refl)) (lowers_Passes e)

lowers_Expires : {t : ℕ} {w v : World} → Expires t w v → Lowers w v
lowers_Expires {t} {w} (lock_expires m p c e) = comes t _ (λ q. refl) (waiters w _) e
lowers_Expires {t} {w} (wait_expires c m p a e) =
    comes t _ (λ q. refl) (written w t (record (thread_at w t) { timer = ran_out (thread_at w t).timer }) (omega arith)) e

-- a move makes them no more
pub lowered_by_move : (t : ℕ) (w v : World) → MovesOnce t w v → Lowers w v
lowered_by_move t w v x = by_act x.acts
  where
    by_act : Acts t w v → Lowers w v
    by_act (effect e) = lowers_Effect e
    by_act (expires due e) = lowers_Expires e
    by_act (notes c m a e) = comes t _ (λ q. refl) (same w) e

-- ENTRIES

-- nor does an answer
pub lowered_by_answer : (w : World) (t : ℕ) → Lowers w (with_call_by t without_call w)
lowered_by_answer w t = written w t (record (thread_at w t) { call = None }) (omega arith)

-- nor the end of a thread
lowers_Releases : {t : ℕ} {w v : World} → Releases t w v → Lowers w v
lowers_Releases {t} {w} (none_left o e) = rw e (same w)
lowers_Releases {t} {w} {v} (one_more {u = u} m o n p more) =
    let first : Lowers (after_owner_death m w) u = lowers_Passes p in
    chain w u v (chain w (after_owner_death m w) u (mutex w m _) first) (lowers_Releases more)

pub lowered_by_end : (t : ℕ) (w v : World) → Ends t w v → Lowers w v
lowered_by_end t w v x =
    let gone : Thread = record (thread_at w t) { living = false; call = None } in
    let first = written w t gone (omega arith) in
    let rest : Lowers (after_end t w) v = lowers_Releases x.releases in
    record { less = omega (arith, first.less, rest.less) }

-- a begin of a call makes them more by one at most, and if it is no use, not at all
pub raised_by_begin : (t : ℕ) (q : Request) (w : World)
    → uses_to_come (with_thread t (begun_thread w q (thread_at w t)) w) ≤ uses_to_come w + to_come_at (plain q) Fresh
raised_by_begin t q w = set_lowers w.threads t (to_come_at (plain q) Fresh) (begun_thread w q (thread_at w t)) (omega arith)
