-- Each move of a state is one of the state at a later time, and back.
use Rattle.std.proofs.Common.{ℕ, ◌≡◌, ◌∙◌, ◌==◌, Bool, true, false, nat_lt, is_some, refl, sym, ap, subst, arith, if◌then◌else◌}
use Rattle.pif_model.specs.Refusals.{go_refused}
use Rattle.pif_model.specs.Posix.{World, Progress, is_thread, is_living, with_progress, with_waiter, without_waiter, with_no_owner, with_base, with_call_by, with_one_hold_more, with_one_hold_less, with_health, used, variable_of, after_timeout, after_unblocking, all_unblocked, on_release, taken, mutex_at, HasCome, Locks, LocksAgain, TriesToLock, Passes, Unlocks, MakesConsistent, SetsPriority, ChecksWait, GivesUp, Uses, Chooses, Effect, Expires}
use Rattle.pif_model.specs.Posix.Passes.{to_nobody, to_next}
use Rattle.pif_types.specs.declared.requests.Request.{Request}
use Rattle.pif_model.specs.NamedNumbers.{EPERM, ESRCH, EAGAIN, EBUSY, EINVAL, EDEADLK, EOVERFLOW, ETIMEDOUT, ENOTRECOVERABLE}
use Rattle.pif_model.specs.World.Health.{Fine, Unusable}
use Rattle.pif_model.specs.World.Progress.{Waiting, Stuck, Has, Checked, Enlisted, Blocked, Reacquiring, Used}
use Rattle.pif_model.specs.Posix.Locks.{own_normal, own_errorcheck, own_recursive as lock_own_recursive, free as lock_free, orphaned as lock_orphaned, cycle, joins}
use Rattle.pif_model.specs.Posix.LocksAgain.{rises, at_limit}
use Rattle.pif_model.specs.Posix.TriesToLock.{own_recursive as try_own_recursive, busy as try_busy, free as try_free}
use Rattle.pif_model.specs.Posix.Unlocks.{not_owner, falls, becomes_unusable, released}
use Rattle.pif_model.specs.Posix.MakesConsistent.{not_robust, not_owner as consistent_not_owner, not_inconsistent, made_fine}
use Rattle.pif_model.specs.Posix.SetsPriority.{no_priority, not_living, changed}
use Rattle.pif_model.specs.Posix.ChecksWait.{other_mutex, not_owner as wait_not_owner, held_more, checked}
use Rattle.pif_model.specs.Posix.GivesUp.{becomes_unusable as wait_unusable, released as wait_released}
use Rattle.pif_model.specs.Posix.Uses.{at_limit as use_at_limit, counts as use_counts}
use Rattle.pif_model.specs.Posix.Chooses.{one, no_one, all}
use Rattle.pif_model.specs.Posix.Effect.{lock, try_lock, unlock, consistent, set_prio, check_wait, enlist, give_up, lock_again, use_variable, choose, leave}
use Rattle.pif_model.specs.Posix.Expires.{lock as lock_expires, wait as wait_expires}
use Rattle.pif_posix_steps.specs.Once.{MovesOnce, Acts}
use Rattle.pif_posix_steps.specs.Once.Acts.{effect, expires, notes}
use Rattle.pif_model_simulation.proofs.runs.Worlds.{call_of}
use Rattle.pif_parts_model.specs.Later.{later_world}
use Rattle.pif_parts_model.proofs.Later.{call_later, lives_later, count_later, effective_later, leads_later, next_later, orphaned_later, blocked_later, still_later, due_later, called_later, progress_later, base_later, timeout_later, taken_later, used_later, unblocked_later}

-- what leads to u leads to an earlier state, of which u is the later one
pub record Earlier (n : ℕ) (P : World → Type 0) (u : World) : Type 0 where
  pub before : World
  pub step : P before
  pub is : u ≡ later_world n before

-- a mutex passes on
pub passes_on : (n : ℕ) (w : World) {m : ℕ} {u : World} → Passes m w u → Passes m (later_world n w) (later_world n u)
passes_on n w {m} (to_nobody none e) = to_nobody (next_later n w m ∙ none) (ap (later_world n) e)
passes_on n w {m} (to_next x next some e) =
    to_next x (next_later n w m ∙ next) some (ap (later_world n) e ∙ taken_later n (without_waiter x w) x m)

pub passes_off : (n : ℕ) (w : World) {m : ℕ} {u : World} → Passes m (later_world n w) u → Earlier n (Passes m w) u
passes_off n w {m} (to_nobody none e) =
    record { before = with_no_owner m w; step = to_nobody (sym (next_later n w m) ∙ none) refl; is = e }
passes_off n w {m} (to_next x next some e) = record {
  before = taken x m (without_waiter x w);
  step = to_next x (sym (next_later n w m) ∙ next) some refl;
  is = e ∙ sym (taken_later n (without_waiter x w) x m);
}

module _ (n : ℕ) (w : World) (t : ℕ) where
  abbrev L : World → World
  L = later_world n

  abbrev v : World
  v = later_world n w

  on : {q : Request} {p : Progress} → HasCome w t q p → HasCome v t q p
  on c = call_later n w t ∙ c

  off : {q : Request} {p : Progress} → HasCome v t q p → HasCome w t q p
  off c = sym (call_later n w t) ∙ c

  -- once t's call has come so far, a mutex passes on
  passes_then : {m : ℕ} (p : Progress) {u : World} → Passes m (with_progress t p w) u → Passes m (with_progress t p v) (L u)
  passes_then {m} p {u} x = subst (λ (z : World). Passes m z (L u)) (progress_later n w t p) (passes_on n (with_progress t p w) x)

  passes_before : {m : ℕ} (p : Progress) {u : World} → Passes m (with_progress t p v) u → Earlier n (Passes m (with_progress t p w)) u
  passes_before {m} p {u} x =
      passes_off n (with_progress t p w) (subst (λ (z : World). Passes m z u) (sym (progress_later n w t p)) x)

  again_on : (m : ℕ) {u : World} → LocksAgain t m w u → LocksAgain t m v (L u)
  again_on m (rises may e) = rises may (ap L e ∙ progress_later n (with_one_hold_more m w) t (Has 0))
  again_on m (at_limit most e) = at_limit most (ap L e ∙ progress_later n w t (Has EAGAIN))

  again_off : (m : ℕ) {u : World} → LocksAgain t m v u → Earlier n (λ z. LocksAgain t m w z) u
  again_off m (rises may e) =
      record { before = with_progress t (Has 0) (with_one_hold_more m w); step = rises may refl; is = e ∙ sym (progress_later n (with_one_hold_more m w) t (Has 0)) }
  again_off m (at_limit most e) =
      record { before = with_progress t (Has EAGAIN) w; step = at_limit most refl; is = e ∙ sym (progress_later n w t (Has EAGAIN)) }

  locks_on : (m : ℕ) {u : World} → Locks t m w u → Locks t m v (L u)
  locks_on m (own_normal o k e) = own_normal o k (ap L e ∙ progress_later n w t Stuck)
  locks_on m (own_errorcheck o k e) = own_errorcheck o k (ap L e ∙ progress_later n w t (Has EDEADLK))
  locks_on m (lock_own_recursive o k e) = lock_own_recursive o k (again_on m e)
  locks_on m (lock_free o k e) = lock_free o k (ap L e ∙ taken_later n w t m)
  locks_on m (lock_orphaned o e) =
      lock_orphaned (o.0, o.1, orphaned_later n w m ∙ o.2) (ap L e ∙ progress_later n w t Stuck)
  locks_on m (cycle o k e) =
      cycle (o.0, o.1, orphaned_later n w m ∙ o.2) (leads_later n w (mutex_at w m).owner t ∙ k)
      (ap L e ∙ progress_later n w t (Has EDEADLK))
  locks_on m (joins o k e) =
      joins (o.0, o.1, orphaned_later n w m ∙ o.2) (leads_later n w (mutex_at w m).owner t ∙ k)
      (ap L e ∙ progress_later n (with_waiter t m w) t Waiting)

  locks_off : (m : ℕ) {u : World} → Locks t m v u → Earlier n (λ z. Locks t m w z) u
  locks_off m (own_normal o k e) =
      record { before = with_progress t Stuck w; step = own_normal o k refl; is = e ∙ sym (progress_later n w t Stuck) }
  locks_off m (own_errorcheck o k e) = record {
    before = with_progress t (Has EDEADLK) w;
    step = own_errorcheck o k refl;
    is = e ∙ sym (progress_later n w t (Has EDEADLK));
  }
  locks_off m (lock_own_recursive o k e) =
      (let x = again_off m e in record { before = x.before; step = lock_own_recursive o k x.step; is = x.is })
  locks_off m (lock_free o k e) =
      record { before = taken t m w; step = lock_free o k refl; is = e ∙ sym (taken_later n w t m) }
  locks_off m (lock_orphaned o e) = record {
    before = with_progress t Stuck w;
    step = lock_orphaned (o.0, o.1, sym (orphaned_later n w m) ∙ o.2) refl;
    is = e ∙ sym (progress_later n w t Stuck);
  }
  locks_off m (cycle o k e) = record {
    before = with_progress t (Has EDEADLK) w;
    step = cycle (o.0, o.1, sym (orphaned_later n w m) ∙ o.2) (sym (leads_later n w (mutex_at w m).owner t) ∙ k) refl;
    is = e ∙ sym (progress_later n w t (Has EDEADLK));
  }
  locks_off m (joins o k e) = record {
    before = with_progress t Waiting (with_waiter t m w);
    step = joins (o.0, o.1, sym (orphaned_later n w m) ∙ o.2) (sym (leads_later n w (mutex_at w m).owner t) ∙ k) refl;
    is = e ∙ sym (progress_later n (with_waiter t m w) t Waiting);
  }

  tries_on : (m : ℕ) {u : World} → TriesToLock t m w u → TriesToLock t m v (L u)
  tries_on m (try_own_recursive o k e) = try_own_recursive o k (again_on m e)
  tries_on m (try_busy o k e) = try_busy o k (ap L e ∙ progress_later n w t (Has EBUSY))
  tries_on m (try_free o e) = try_free o (ap L e ∙ taken_later n w t m)

  tries_off : (m : ℕ) {u : World} → TriesToLock t m v u → Earlier n (λ z. TriesToLock t m w z) u
  tries_off m (try_own_recursive o k e) =
      (let x = again_off m e in record { before = x.before; step = try_own_recursive o k x.step; is = x.is })
  tries_off m (try_busy o k e) =
      record { before = with_progress t (Has EBUSY) w; step = try_busy o k refl; is = e ∙ sym (progress_later n w t (Has EBUSY)) }
  tries_off m (try_free o e) =
      record { before = taken t m w; step = try_free o refl; is = e ∙ sym (taken_later n w t m) }

  unlocks_on : (m : ℕ) {u : World} → Unlocks t m w u → Unlocks t m v (L u)
  unlocks_on m (not_owner o e) = not_owner o (ap L e ∙ progress_later n w t (Has EPERM))
  unlocks_on m (falls o k e) = falls o k (ap L e ∙ progress_later n (with_one_hold_less m w) t (Has 0))
  unlocks_on m (becomes_unusable o k i e) = becomes_unusable o k i (ap L e)
  unlocks_on m (released o k i e) = released o k i (passes_then (Has 0) e)

  unlocks_off : (m : ℕ) {u : World} → Unlocks t m v u → Earlier n (λ z. Unlocks t m w z) u
  unlocks_off m (not_owner o e) =
      record { before = with_progress t (Has EPERM) w; step = not_owner o refl; is = e ∙ sym (progress_later n w t (Has EPERM)) }
  unlocks_off m (falls o k e) = record {
    before = with_progress t (Has 0) (with_one_hold_less m w);
    step = falls o k refl;
    is = e ∙ sym (progress_later n (with_one_hold_less m w) t (Has 0));
  }
  unlocks_off m (becomes_unusable o k i e) =
      record { before = with_health m Unusable w; step = becomes_unusable o k i refl; is = e }
  unlocks_off m (released o k i e) =
      (let x = passes_before (Has 0) e in record { before = x.before; step = released o k i x.step; is = x.is })

  gives_on : (m : ℕ) (still : Bool) {u : World} → GivesUp t m still w u → GivesUp t m still v (L u)
  gives_on m still (wait_unusable o i e) = wait_unusable o i (ap L e)
  gives_on m still (wait_released o i e) = wait_released o i (passes_then (on_release still) e)

  gives_off : (m : ℕ) (still : Bool) {u : World} → GivesUp t m still v u → Earlier n (λ z. GivesUp t m still w z) u
  gives_off m still (wait_unusable o i e) =
      record { before = with_health m Unusable w; step = wait_unusable o i refl; is = e }
  gives_off m still (wait_released o i e) =
      (let x = passes_before (on_release still) e in record { before = x.before; step = wait_released o i x.step; is = x.is })

  repairs_on : (m : ℕ) {u : World} → MakesConsistent t m w u → MakesConsistent t m v (L u)
  repairs_on m (not_robust o e) = not_robust o (ap L e ∙ progress_later n w t (Has EINVAL))
  repairs_on m (consistent_not_owner o e) = consistent_not_owner o (ap L e ∙ progress_later n w t (Has EPERM))
  repairs_on m (not_inconsistent o k e) = not_inconsistent o k (ap L e ∙ progress_later n w t (Has EINVAL))
  repairs_on m (made_fine o k e) = made_fine o k (ap L e ∙ progress_later n (with_health m Fine w) t (Has 0))

  repairs_off : (m : ℕ) {u : World} → MakesConsistent t m v u → Earlier n (λ z. MakesConsistent t m w z) u
  repairs_off m (not_robust o e) =
      record { before = with_progress t (Has EINVAL) w; step = not_robust o refl; is = e ∙ sym (progress_later n w t (Has EINVAL)) }
  repairs_off m (consistent_not_owner o e) =
      record { before = with_progress t (Has EPERM) w; step = consistent_not_owner o refl; is = e ∙ sym (progress_later n w t (Has EPERM)) }
  repairs_off m (not_inconsistent o k e) =
      record { before = with_progress t (Has EINVAL) w; step = not_inconsistent o k refl; is = e ∙ sym (progress_later n w t (Has EINVAL)) }
  repairs_off m (made_fine o k e) =
      record { before = with_progress t (Has 0) (with_health m Fine w); step = made_fine o k refl; is = e ∙ sym (progress_later n (with_health m Fine w) t (Has 0)) }

  checks_on : (c m : ℕ) {u : World} → ChecksWait t c m w u → ChecksWait t c m v (L u)
  checks_on c m (other_mutex o e) = other_mutex o (ap L e ∙ progress_later n w t (Has EINVAL))
  checks_on c m (wait_not_owner o k e) = wait_not_owner o k (ap L e ∙ progress_later n w t (Has EPERM))
  checks_on c m (held_more o k i e) = held_more o k i (ap L e ∙ progress_later n w t (Has EINVAL))
  checks_on c m (checked o k i e) = checked o k i (ap L e ∙ progress_later n w t Checked)

  checks_off : (c m : ℕ) {u : World} → ChecksWait t c m v u → Earlier n (λ z. ChecksWait t c m w z) u
  checks_off c m (other_mutex o e) =
      record { before = with_progress t (Has EINVAL) w; step = other_mutex o refl; is = e ∙ sym (progress_later n w t (Has EINVAL)) }
  checks_off c m (wait_not_owner o k e) =
      record { before = with_progress t (Has EPERM) w; step = wait_not_owner o k refl; is = e ∙ sym (progress_later n w t (Has EPERM)) }
  checks_off c m (held_more o k i e) =
      record { before = with_progress t (Has EINVAL) w; step = held_more o k i refl; is = e ∙ sym (progress_later n w t (Has EINVAL)) }
  checks_off c m (checked o k i e) =
      record { before = with_progress t Checked w; step = checked o k i refl; is = e ∙ sym (progress_later n w t Checked) }

  sets_on : (x p : ℕ) {u : World} → SetsPriority t x p w u → SetsPriority t x p v (L u)
  sets_on x p (no_priority b e) = no_priority b (ap L e ∙ progress_later n w t (Has EINVAL))
  sets_on x p (not_living b g e) = not_living b (lives_later n w x ∙ g) (ap L e ∙ progress_later n w t (Has ESRCH))
  sets_on x p (changed b g e) = changed b (lives_later n w x ∙ g) (ap L e ∙ progress_later n (with_base x p w) t (Has 0) ∙ ap (with_progress t (Has 0)) (base_later n w x p))

  sets_off : (x p : ℕ) {u : World} → SetsPriority t x p v u → Earlier n (λ z. SetsPriority t x p w z) u
  sets_off x p (no_priority b e) =
      record { before = with_progress t (Has EINVAL) w; step = no_priority b refl; is = e ∙ sym (progress_later n w t (Has EINVAL)) }
  sets_off x p (not_living b g e) =
      record { before = with_progress t (Has ESRCH) w; step = not_living b (sym (lives_later n w x) ∙ g) refl; is = e ∙ sym (progress_later n w t (Has ESRCH)) }
  sets_off x p (changed b g e) =
      record { before = with_progress t (Has 0) (with_base x p w); step = changed b (sym (lives_later n w x) ∙ g) refl; is = e ∙ sym (progress_later n (with_base x p w) t (Has 0) ∙ ap (with_progress t (Has 0)) (base_later n w x p)) }

  uses_on : (c : ℕ) {u : World} → Uses t c w u → Uses t c v (L u)
  uses_on c (use_at_limit o e) = use_at_limit o (ap L e ∙ progress_later n w t (Has EOVERFLOW))
  uses_on c (use_counts o e) = use_counts o (ap L e ∙ progress_later n (used c w) t Used ∙ ap (with_progress t Used) (used_later n c w))

  uses_off : (c : ℕ) {u : World} → Uses t c v u → Earlier n (λ z. Uses t c w z) u
  uses_off c (use_at_limit o e) =
      record { before = with_progress t (Has EOVERFLOW) w; step = use_at_limit o refl; is = e ∙ sym (progress_later n w t (Has EOVERFLOW)) }
  uses_off c (use_counts o e) =
      record { before = with_progress t Used (used c w); step = use_counts o refl; is = e ∙ sym (progress_later n (used c w) t Used ∙ ap (with_progress t Used) (used_later n c w)) }

  chooses_on : (q : Request) {u : World} → Chooses t q w u → Chooses t q v (L u)
  chooses_on q (one c x i k above e) = one c x i (blocked_later n w c x ∙ k) (λ b s. omega (arith, effective_later n w b, effective_later n w x, above b (sym (still_later n w t c b) ∙ s))) (ap L e ∙ called_later n (with_progress t (Has 0) w) x after_unblocking ∙ ap (with_call_by x after_unblocking) (progress_later n w t (Has 0)))
  chooses_on q (no_one c i none e) = no_one c i (λ b. still_later n w t c b ∙ none b) (ap L e ∙ progress_later n w t (Has 0))
  chooses_on q (all c us i k among e) = all c us i (λ b s. blocked_later n w c b ∙ k b s) (λ b s. among b (sym (still_later n w t c b) ∙ s)) (ap L e ∙ unblocked_later n us (with_progress t (Has 0) w) ∙ ap (all_unblocked us) (progress_later n w t (Has 0)))

  chooses_off : (q : Request) {u : World} → Chooses t q v u → Earlier n (λ z. Chooses t q w z) u
  chooses_off q (one c x i k above e) =
      record { before = with_call_by x after_unblocking (with_progress t (Has 0) w); step = one c x i (sym (blocked_later n w c x) ∙ k) (λ b s. omega (arith, effective_later n w b, effective_later n w x, above b (still_later n w t c b ∙ s))) refl; is = e ∙ sym (called_later n (with_progress t (Has 0) w) x after_unblocking ∙ ap (with_call_by x after_unblocking) (progress_later n w t (Has 0))) }
  chooses_off q (no_one c i none e) =
      record { before = with_progress t (Has 0) w; step = no_one c i (λ b. sym (still_later n w t c b) ∙ none b) refl; is = e ∙ sym (progress_later n w t (Has 0)) }
  chooses_off q (all c us i k among e) =
      record { before = all_unblocked us (with_progress t (Has 0) w); step = all c us i (λ b s. sym (blocked_later n w c b) ∙ k b s) (λ b s. among b (still_later n w t c b ∙ s)) refl; is = e ∙ sym (unblocked_later n us (with_progress t (Has 0) w) ∙ ap (all_unblocked us) (progress_later n w t (Has 0))) }

  effect_on : {u : World} → Effect t w u → Effect t v (L u)
  effect_on (lock m k e) = lock m (on k) (locks_on m e)
  effect_on (try_lock m k e) = try_lock m (on k) (tries_on m e)
  effect_on (unlock m k e) = unlock m (on k) (unlocks_on m e)
  effect_on (consistent m k e) = consistent m (on k) (repairs_on m e)
  effect_on (set_prio x p k e) = set_prio x p (on k) (sets_on x p e)
  effect_on (check_wait c m k e) = check_wait c m (on k) (checks_on c m e)
  effect_on (give_up c m still k e) = give_up c m still (on k) (gives_on m still e)
  effect_on (lock_again c m k e) = lock_again c m (on k) (locks_on m e)
  effect_on (enlist c m k e) = enlist c m (on k) (ap L e ∙ progress_later n w t (Enlisted true))
  effect_on (use_variable q k i e) = use_variable q (on k) i (uses_on (variable_of q) e)
  effect_on (choose q k e) = choose q (on k) (chooses_on q e)
  effect_on (leave q k e) = leave q (on k) (passes_then (Has ENOTRECOVERABLE) e)

  effect_off : {u : World} → Effect t v u → Earlier n (λ z. Effect t w z) u
  effect_off (lock m k e) =
      (let y = locks_off m e in record { before = y.before; step = lock m (off k) y.step; is = y.is })
  effect_off (try_lock m k e) =
      (let y = tries_off m e in record { before = y.before; step = try_lock m (off k) y.step; is = y.is })
  effect_off (unlock m k e) =
      (let y = unlocks_off m e in record { before = y.before; step = unlock m (off k) y.step; is = y.is })
  effect_off (consistent m k e) =
      (let y = repairs_off m e in record { before = y.before; step = consistent m (off k) y.step; is = y.is })
  effect_off (set_prio x p k e) =
      (let y = sets_off x p e in record { before = y.before; step = set_prio x p (off k) y.step; is = y.is })
  effect_off (check_wait c m k e) =
      (let y = checks_off c m e in record { before = y.before; step = check_wait c m (off k) y.step; is = y.is })
  effect_off (give_up c m still k e) =
      (let y = gives_off m still e in record { before = y.before; step = give_up c m still (off k) y.step; is = y.is })
  effect_off (lock_again c m k e) =
      (let y = locks_off m e in record { before = y.before; step = lock_again c m (off k) y.step; is = y.is })
  effect_off (enlist c m k e) = record {
    before = with_progress t (Enlisted true) w;
    step = enlist c m (off k) refl;
    is = e ∙ sym (progress_later n w t (Enlisted true));
  }
  effect_off (use_variable q k i e) =
      (let y = uses_off (variable_of q) e in record { before = y.before; step = use_variable q (off k) i y.step; is = y.is })
  effect_off (choose q k e) =
      (let y = chooses_off q e in record { before = y.before; step = choose q (off k) y.step; is = y.is })
  effect_off (leave q k e) =
      (let y = passes_before (Has ENOTRECOVERABLE) e in record { before = y.before; step = leave q (off k) y.step; is = y.is })

  expires_on : {u : World} → Expires t w u → Expires t v (L u)
  expires_on (lock_expires m p k e) =
      lock_expires m p (on k) (ap L e ∙ progress_later n (without_waiter t w) t (Has ETIMEDOUT))
  expires_on (wait_expires c m p k e) =
      wait_expires c m p (on k)
      (ap L e ∙ progress_later n (after_timeout t w) t Reacquiring ∙ ap (with_progress t Reacquiring) (timeout_later n w t))

  expires_off : {u : World} → Expires t v u → Earlier n (λ z. Expires t w z) u
  expires_off (lock_expires m p k e) = record {
    before = with_progress t (Has ETIMEDOUT) (without_waiter t w);
    step = lock_expires m p (off k) refl;
    is = e ∙ sym (progress_later n (without_waiter t w) t (Has ETIMEDOUT));
  }
  expires_off (wait_expires c m p k e) = record {
    before = with_progress t Reacquiring (after_timeout t w);
    step = wait_expires c m p (off k) refl;
    is = e ∙ sym (progress_later n (after_timeout t w) t Reacquiring ∙ ap (with_progress t Reacquiring) (timeout_later n w t));
  }

  -- MOVES

  pub added_later : is_thread v t ≡ is_thread w t
  added_later = λ j. if t == 0 then false else nat_lt t (count_later n w j)

  pub go_later : go_refused (is_thread v t) (is_living v t) (is_some (call_of v t)) ≡ go_refused (is_thread w t) (is_living w t) (is_some (call_of w t))
  go_later = λ j. go_refused (added_later j) (lives_later n w t j) (is_some (call_later n w t j))

  acts_on : {u : World} → Acts t w u → Acts t v (L u)
  acts_on (effect e) = effect (effect_on e)
  acts_on (expires due e) = expires (due_later n w t ∙ due) (expires_on e)
  acts_on (notes c m k e) = notes c m (on k) (ap L e ∙ progress_later n w t (Blocked true))

  acts_off : {u : World} → Acts t v u → Earlier n (λ z. Acts t w z) u
  acts_off (effect e) = (let y = effect_off e in record { before = y.before; step = effect y.step; is = y.is })
  acts_off (expires due e) =
      (let y = expires_off e in record { before = y.before; step = expires (sym (due_later n w t) ∙ due) y.step; is = y.is })
  acts_off (notes c m k e) = record {
    before = with_progress t (Blocked true) w;
    step = notes c m (off k) refl;
    is = e ∙ sym (progress_later n w t (Blocked true));
  }

  pub moves_later : {u : World} → MovesOnce t w u → MovesOnce t v (L u)
  moves_later m = record { allowed = go_later ∙ m.allowed; acts = acts_on m.acts }

  pub moves_earlier : {u : World} → MovesOnce t v u → Earlier n (λ z. MovesOnce t w z) u
  moves_earlier m =
      let y = acts_off m.acts in
      record { before = y.before; step = record { allowed = sym go_later ∙ m.allowed; acts = y.step }; is = y.is }
