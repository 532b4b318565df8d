-- What the entries of some threads leave of who owns mutexes, waits for them or is blocked: if those threads are among
-- some, and all that do so were among them before, they are so afterwards.
use Rattle.std.proofs.Common.{◌≡◌, ◌≢◌, ◌⊎◌, ◌<◌, ◌≤◌, ◌+◌, ◌-◌, ℕ, Bool, true, false, ◌==◌, ◌||◌, List, [], ◌∷◌, ◌++◌, length, get_or, Option, Some, None, refl, sym, ap, ◌∙◌, subst, inl, inr, if◌then◌else◌, true≢false, eq-eqb}
use Rattle.std.specs.List.{list_any}
use Rattle.std.proofs.lemmas.Bool.{cases_eq, cases_lt, cases_Bool}
use Rattle.std.proofs.lemmas.List.{get_or_push, get_or-set_same, get_or-set_other, set_past}
use Rattle.std.proofs.Math.ListN.{get_or-map}
use Rattle.pif_types.specs.Bounds.{Bounds}
use Rattle.pif_types.specs.declared.requests.Kind.{Kind}
use Rattle.pif_types.specs.declared.requests.Request.{Request}
use Rattle.pif_model.specs.declared.events.Event.TheVariants.{Begin, Go}
use Rattle.pif_model.specs.declared.events.Seen.{Seen}
use Rattle.pif_model.specs.declared.events.Entry.{Entry}
use Rattle.pif_model.specs.declared.events.Entry.TheVariants.{Step as Happened}
use Rattle.pif_model.specs.Graph.{without}
use Rattle.pif_model.specs.Posix.{Health, Progress, Call, Thread, Mutex, World, Step, nobody, no_mutex, thread_at, mutex_at, with_thread, with_mutex, with_call_by, with_progress, at_progress, on_taking, taken, on_release, after_unblocking, after_waits, is_newly_blocked, is_call_blocked, is_blocked_on, is_blocked, is_idle, variable_of, after_use, used, all_unblocked, Locks, LocksAgain, TriesToLock, Passes, Unlocks, MakesConsistent, SetsPriority, ChecksWait, GivesUp, Uses, Chooses, Effect, Effects, Expires, Moves, Releases, without_call, after_end, new_thread, new_mutex, rests, sleeps}
use Rattle.pif_model.specs.World.Progress.{Waiting, Stuck, Has, Checked, Enlisted, Blocked, Reacquiring, Used}
use Rattle.pif_model.specs.Posix.Locks.{own_normal, own_errorcheck, own_recursive as lock_own_recursive, free as lock_free, orphaned as lock_orphaned, cycle, joins}
use Rattle.pif_model.specs.Posix.LocksAgain.{rises, at_limit}
use Rattle.pif_model.specs.Posix.TriesToLock.{own_recursive as try_own_recursive, busy as try_busy, free as try_free}
use Rattle.pif_model.specs.Posix.Passes.{to_nobody, to_next}
use Rattle.pif_model.specs.Posix.Unlocks.{not_owner, falls, becomes_unusable, released}
use Rattle.pif_model.specs.Posix.MakesConsistent.{not_robust, not_owner as consistent_not_owner, not_inconsistent, made_fine}
use Rattle.pif_model.specs.Posix.SetsPriority.{no_priority, not_living, changed}
use Rattle.pif_model.specs.Posix.ChecksWait.{other_mutex, not_owner as wait_not_owner, held_more, checked}
use Rattle.pif_model.specs.Posix.GivesUp.{becomes_unusable as wait_unusable, released as wait_released}
use Rattle.pif_model.specs.Posix.Uses.{at_limit as use_at_limit, counts as use_counts}
use Rattle.pif_model.specs.Posix.Chooses.{one, no_one, all}
use Rattle.pif_model.specs.Posix.Effect.{lock, try_lock, unlock, consistent, set_prio, check_wait, enlist, give_up, lock_again, use_variable, choose, leave}
use Rattle.pif_model.specs.Posix.Effects.{none as no_effect, then as effect_then, owed as effect_owed}
use Rattle.pif_model.specs.Posix.Expires.{lock as lock_expires, wait as wait_expires}
use Rattle.pif_model.specs.Posix.Moves.{expires as call_expires, acts}
use Rattle.pif_model.specs.Posix.Releases.{none_left, one_more}
use Rattle.pif_model.specs.Posix.Step.{thread_added, mutex_added, cond_added, refused, begun, went, waits, answered, ended, ticked}
use Rattle.pif_model_lemmas.proofs.Among.{is_among, is_among-without, is_among_push, next_is_among}
use Rattle.pif_model_lemmas.proofs.Places.{kept_at}
use Rattle.pif_model_lemmas.proofs.Waiting.{by_test, pair-from_named}
use Rattle.pif_model_simulation.proofs.runs.Worlds.{call_of, owner_of, call-with_thread_other, written_at, push_other, push_same}
use Rattle.pif_model_inversion.specs.Delays.{IsEngaged, IsEntryOf, IsBeside}
use Rattle.pif_model_inversion.specs.Delays.IsEngaged.{owns, waits_for_mutex, waits_for_good, waits_on_variable}
use Rattle.pif_model_inversion.specs.Delays.IsEntryOf.{begins, goes}
use Rattle.pif_model_inversion.specs.Delays.IsBeside.{ticks, expires, ends, adds_thread, adds_mutex, adds_cond}

-- CALLS

-- whether an open call waits for good, or is blocked on a variable
abbrev pub is_held : Option Call → Bool
is_held None = false
is_held (Some c) = if is_idle c.progress then true else is_blocked c.progress

-- who is blocked on a variable is held in its call
pub held-from_blocked : (c : ℕ) (o : Option Call) → is_call_blocked c o ≡ true → is_held o ≡ true
held-from_blocked c None h = h
held-from_blocked c (Some x) h = go (is_idle x.progress) (is_blocked x.progress) h
  where
    go : (a b : Bool) → (if b then variable_of x.request == c else false) ≡ true → (if a then true else b) ≡ true
    go true b e = refl
    go false true e = refl
    go false false e = e

-- who is unblocked was held before, if it is still
held-from_unblocked : (o : Option Call) → is_held (after_unblocking o) ≡ true → is_held o ≡ true
held-from_unblocked None h = h
held-from_unblocked (Some x) h = by_progress x.progress h
  where
    by_progress : (p : Progress) → is_held (after_unblocking (Some (record x { progress = p }))) ≡ true
        → is_held (Some (record x { progress = p })) ≡ true
    by_progress (Enlisted b) e = absurd (true≢false (sym e))
    by_progress (Blocked b) e = absurd (true≢false (sym e))
    by_progress _ e = e

-- whose call sleeps is held in it
held-from_sleeps : (o : Option Call) → sleeps o ≡ true → is_held o ≡ true
held-from_sleeps None h = h
held-from_sleeps (Some c) h = rw h refl

-- any mutex, whether it is robust or not; or a robust one
abbrev pub Any : Bool → Type 0
Any robust = Unit {0}

abbrev pub Robust : Bool → Type 0
Robust robust = robust ≡ true

module _ (Which : Bool → Type 0) (P : ℕ → Type 0) where
  -- all that own such a mutex, wait for one or are held in their calls are among some threads
  pub record Confined (w : World) : Type 0 where
    pub owners : (m : ℕ) → Which (mutex_at w m).robust → owner_of w m ≢ 0 → P (owner_of w m)
    pub waiters : (t m : ℕ) → is_among w.waiters t m ≡ true → P t
    pub calls : (t : ℕ) → is_held (call_of w t) ≡ true → P t

  -- CHANGES

  -- if no part of the state changes that matters
  pub confined_same : {w v : World} → Confined w → v.threads ≡ w.threads → v.mutexes ≡ w.mutexes → v.waiters ≡ w.waiters → Confined v
  confined_same h e f g = record {
    owners = rw f h.owners;
    waiters = rw g h.waiters;
    calls = rw e h.calls;
  }

  -- one of them is written
  pub confined_thread : {w : World} → Confined w → (t : ℕ) (x : Thread) → P t → Confined (with_thread t x w)
  confined_thread {w} h t x mine = record {
    owners = h.owners;
    waiters = h.waiters;
    calls = λ u. go u (cases_eq u t);
  }
    where
      go : (u : ℕ) → (u ≡ t) ⊎ (u ≡ t → ⊥) → is_held (call_of (with_thread t x w) u) ≡ true → P u
      go u (inl e) k = subst P (sym e) mine
      go u (inr d) k = h.calls u (ap is_held (sym (call-with_thread_other w t x u d)) ∙ k)

  -- another is written, and its call stays
  confined_recorded : {w : World} → Confined w → (t : ℕ) (x : Thread) → x.call ≡ call_of w t → Confined (with_thread t x w)
  confined_recorded {w} h t x same = record {
    owners = h.owners;
    waiters = h.waiters;
    calls = λ u k. h.calls u (ap is_held (sym (kept_at (λ (y : Thread). y.call) w.threads t x nobody same u)) ∙ k);
  }

  -- the call of one of them changes
  pub confined_call : {w : World} → Confined w → (t : ℕ) (f : Option Call → Option Call) → P t → Confined (with_call_by t f w)
  confined_call {w} h t f mine = confined_thread h t (record (thread_at w t) { call = f (thread_at w t).call }) mine

  confined_progress : {w : World} → Confined w → (t : ℕ) (p : Progress) → P t → Confined (with_progress t p w)
  confined_progress h t p mine = confined_call h t (at_progress p) mine

  -- a mutex gets an owner among them, or none
  confined_mutex : {w : World} → Confined w → (m : ℕ) (z : Mutex) → (Which z.robust → z.owner ≢ 0 → P z.owner)
      → Confined (with_mutex m z w)
  confined_mutex {w} h m z mine = record {
    owners = λ n. go n (cases_eq n m) (cases_lt m (length w.mutexes));
    waiters = h.waiters;
    calls = h.calls;
  }
    where
      Fine : Mutex → Type 0
      Fine y = Which y.robust → y.owner ≢ 0 → P y.owner

      go : (n : ℕ) → (n ≡ m) ⊎ (n ≡ m → ⊥) → (m < length w.mutexes) ⊎ (length w.mutexes ≤ m) → Fine (mutex_at (with_mutex m z w) n)
      go n (inl e) (inl l) =
          subst Fine (sym (ap (mutex_at (with_mutex m z w)) e ∙ get_or-set_same w.mutexes m z no_mutex l)) mine
      go n (inl e) (inr l) = subst Fine (sym (ap (λ ms. get_or ms n no_mutex) (set_past w.mutexes m z l))) (h.owners n)
      go n (inr d) l = subst Fine (sym (get_or-set_other w.mutexes m n z no_mutex d)) (h.owners n)

  -- a mutex keeps its owner
  confined_kept : {w : World} → Confined w → (m : ℕ) (z : Mutex) → z.owner ≡ owner_of w m → z.robust ≡ (mutex_at w m).robust
      → Confined (with_mutex m z w)
  confined_kept h m z same alike = confined_mutex h m z
      (λ k. subst (λ o. o ≢ 0 → P o) (sym same) (h.owners m (subst Which alike k)))

  -- one of them joins the waiters
  confined_joined : {w : World} → Confined w → (t m : ℕ) → P t → Confined (record w { waiters = w.waiters ++ (t, m) ∷ [] })
  confined_joined {w} h t m mine = record {
    owners = h.owners;
    waiters = λ u n k. go u n (is_among_push w.waiters t m u n k);
    calls = h.calls;
  }
    where
      go : (u n : ℕ) → (is_among w.waiters u n ≡ true) ⊎ ((t ≡ u) × (m ≡ n)) → P u
      go u n (inl y) = h.waiters u n y
      go u n (inr e) = subst P e.0 mine

  -- somebody leaves them
  confined_left : {w : World} → Confined w → (t : ℕ) → Confined (record w { waiters = without w.waiters t })
  confined_left {w} h t = record {
    owners = h.owners;
    waiters = λ u n k. h.waiters u n (is_among-without w.waiters t u n k).0;
    calls = h.calls;
  }

  -- one of them takes a mutex
  confined_taken : {w : World} → Confined w → (t m : ℕ) → P t → Confined (taken t m w)
  confined_taken {w} h t m mine =
      confined_progress (confined_mutex h m (record (mutex_at w m) { owner = t; count = 1 }) (λ k n. mine)) t
      (on_taking (mutex_at w m).health) mine

  -- one of them comes to a result, behind a change of a mutex that keeps its owner
  confined_after : {w : World} → Confined w → (t : ℕ) (p : Progress) → P t → (m : ℕ) (z : Mutex) → z.owner ≡ owner_of w m
      → z.robust ≡ (mutex_at w m).robust → Confined (with_progress t p (with_mutex m z w))
  confined_after h t p mine m z same alike = confined_progress (confined_kept h m z same alike) t p mine

  -- a mutex passes on
  confined_Passes : {w : World} → Confined w → {m : ℕ} {v : World} → Passes m w v → Confined v
  confined_Passes {w} h {m} (to_nobody none e) = rw e (confined_mutex h m (record (mutex_at w m) { owner = 0; count = 1 }) (λ k n. absurd (n refl)))
  confined_Passes {w} h {m} (to_next u next some e) =
      rw e (confined_taken (confined_left h u) u m (h.waiters u m (next_is_among _ w.waiters m u next some)))

  -- these are unblocked, who are among them
  confined_unblocked : {w : World} → Confined w → (us : List ℕ) → ((u : ℕ) → list_any (λ x. x == u) us ≡ true → P u)
      → Confined (all_unblocked us w)
  unfolding all_unblocked
  confined_unblocked h [] mine = h
  confined_unblocked h (u ∷ us) mine =
      confined_unblocked (confined_call h u after_unblocking (mine u (rw (eq-eqb u u refl) refl))) us
      (λ x k. mine x (later x k (u == x)))
    where
      later : (x : ℕ) → list_any (λ y. y == x) us ≡ true → (b : Bool) → (b || list_any (λ y. y == x) us) ≡ true
      later x k true = refl
      later x k false = k

  -- a variable is used
  confined_used : {w : World} → Confined w → (c : ℕ) → Confined (used c w)
  confined_used {w} h c = record {
    owners = h.owners;
    waiters = h.waiters;
    calls = λ u k. h.calls u (before (thread_at w u) (ap (λ (y : Thread). is_held y.call) (sym (get_or-map (after_use c) w.threads u nobody)) ∙ k));
  }
    where
      before : (x : Thread) → is_held (after_use c x).call ≡ true → is_held x.call ≡ true
      before x = by_test (λ b. is_held (if b then record x { call = after_unblocking x.call } else x).call ≡ true → is_held x.call ≡ true)
          (is_newly_blocked c x.call) (λ _. held-from_unblocked x.call) (λ _ k. k)

  -- EFFECTS
  module _ {w : World} (h : Confined w) {t : ℕ} (mine : P t) where
    confined_LocksAgain : {m : ℕ} {v : World} → LocksAgain t m w v → Confined v
    confined_LocksAgain {m} (rises few e) =
        rw e (confined_after h t (Has 0) mine m (record (mutex_at w m) { count = (mutex_at w m).count + 1 }) refl refl)
    confined_LocksAgain (at_limit full e) = rw e (confined_progress h t (Has 11) mine)

    confined_Locks : {m : ℕ} {v : World} → Locks t m w v → Confined v
    confined_Locks (own_normal own kind e) = rw e (confined_progress h t Stuck mine)
    confined_Locks (own_errorcheck own kind e) = rw e (confined_progress h t (Has 35) mine)
    confined_Locks (lock_own_recursive own kind e) = confined_LocksAgain e
    confined_Locks {m} (lock_free other free e) = rw e (confined_taken h t m mine)
    confined_Locks (lock_orphaned orphaned e) = rw e (confined_progress h t Stuck mine)
    confined_Locks (cycle owned leads e) = rw e (confined_progress h t (Has 35) mine)
    confined_Locks {m} (joins owned leads e) = rw e (confined_progress (confined_joined h t m mine) t Waiting mine)

    confined_TriesToLock : {m : ℕ} {v : World} → TriesToLock t m w v → Confined v
    confined_TriesToLock (try_own_recursive own kind e) = confined_LocksAgain e
    confined_TriesToLock (try_busy owned kind e) = rw e (confined_progress h t (Has 16) mine)
    confined_TriesToLock {m} (try_free free e) = rw e (confined_taken h t m mine)

    confined_Unlocks : {m : ℕ} {v : World} → Unlocks t m w v → Confined v
    confined_Unlocks (not_owner other e) = rw e (confined_progress h t (Has 1) mine)
    confined_Unlocks {m} (falls own more e) =
        rw e (confined_after h t (Has 0) mine m (record (mutex_at w m) { count = (mutex_at w m).count - 1 }) refl refl)
    confined_Unlocks {m} (becomes_unusable own once health e) =
        rw e (confined_kept h m (record (mutex_at w m) { health = Health.Unusable }) refl refl)
    confined_Unlocks (released own once health passes) = confined_Passes (confined_progress h t (Has 0) mine) passes

    confined_MakesConsistent : {m : ℕ} {v : World} → MakesConsistent t m w v → Confined v
    confined_MakesConsistent (not_robust kind e) = rw e (confined_progress h t (Has 22) mine)
    confined_MakesConsistent (consistent_not_owner other e) = rw e (confined_progress h t (Has 1) mine)
    confined_MakesConsistent (not_inconsistent own health e) = rw e (confined_progress h t (Has 22) mine)
    confined_MakesConsistent {m} (made_fine own health e) =
        rw e (confined_after h t (Has 0) mine m (record (mutex_at w m) { health = Health.Fine }) refl refl)

    confined_SetsPriority : {u p : ℕ} {v : World} → SetsPriority t u p w v → Confined v
    confined_SetsPriority (no_priority bad e) = rw e (confined_progress h t (Has 22) mine)
    confined_SetsPriority (not_living good gone e) = rw e (confined_progress h t (Has 3) mine)
    confined_SetsPriority {u} {p} (changed good lives e) =
        rw e (confined_progress (confined_recorded h u (record (thread_at w u) { base = p }) refl) t (Has 0) mine)

    confined_ChecksWait : {c m : ℕ} {v : World} → ChecksWait t c m w v → Confined v
    confined_ChecksWait (other_mutex bound e) = rw e (confined_progress h t (Has 22) mine)
    confined_ChecksWait (wait_not_owner bound other e) = rw e (confined_progress h t (Has 1) mine)
    confined_ChecksWait (held_more bound own more e) = rw e (confined_progress h t (Has 22) mine)
    confined_ChecksWait (checked bound own once e) = rw e (confined_progress h t Checked mine)

    confined_GivesUp : {m : ℕ} {v : World} (still : Bool) → GivesUp t m still w v → Confined v
    confined_GivesUp {m} still (wait_unusable own health e) =
        rw e (confined_kept h m (record (mutex_at w m) { health = Health.Unusable }) refl refl)
    confined_GivesUp still (wait_released own health passes) =
        confined_Passes (confined_progress h t (on_release still) mine) passes

    confined_Uses : {c : ℕ} {v : World} → Uses t c w v → Confined v
    confined_Uses (use_at_limit full e) = rw e (confined_progress h t (Has 75) mine)
    confined_Uses {c} (use_counts some e) = rw e (confined_progress (confined_used h c) t Used mine)

    confined_Chooses : {q : Request} {v : World} → Chooses t q w v → Confined v
    confined_Chooses (one c u s blocked greatest e) =
        rw e (confined_call (confined_progress h t (Has 0) mine) u after_unblocking
        (h.calls u (held-from_blocked c (call_of w u) blocked)))
    confined_Chooses (no_one c s none e) = rw e (confined_progress h t (Has 0) mine)
    confined_Chooses (all c us s blocked among e) =
        rw e (confined_unblocked (confined_progress h t (Has 0) mine) us
        (λ u k. h.calls u (held-from_blocked c (call_of w u) (blocked u k))))

    confined_Effect : {v : World} → Effect t w v → Confined v
    confined_Effect (lock m before e) = confined_Locks e
    confined_Effect (try_lock m before e) = confined_TriesToLock e
    confined_Effect (unlock m before e) = confined_Unlocks e
    confined_Effect (consistent m before e) = confined_MakesConsistent e
    confined_Effect (set_prio u p before e) = confined_SetsPriority e
    confined_Effect (check_wait c m before e) = confined_ChecksWait e
    confined_Effect (enlist c m before e) = rw e (confined_progress h t (Enlisted true) mine)
    confined_Effect (give_up c m still before e) = confined_GivesUp still e
    confined_Effect (lock_again c m before e) = confined_Locks e
    confined_Effect (use_variable q before is_used e) = confined_Uses e
    confined_Effect (choose q before e) = confined_Chooses e
    confined_Effect (leave q before passes) = confined_Passes (confined_progress h t (Has 131) mine) passes

    confined_Expires : {v : World} → Expires t w v → Confined v
    confined_Expires (lock_expires m p before e) = rw e (confined_progress (confined_left h t) t (Has 110) mine)
    confined_Expires (wait_expires c m p before e) = rw e (confined_progress (confined_thread h t _ mine) t Reacquiring mine)

  -- the effects of one Go
  confined_Effects : {t : ℕ} {first w v : World} → Confined first → P t → Confined w → Effects t first w v → Confined v
  confined_Effects f mine h (no_effect e) = rw e h
  confined_Effects f mine h (effect_then e more) = confined_Effects f mine (confined_Effect h mine e) more
  confined_Effects {first = first} f mine h (effect_owed b c m blocked before e more) =
      confined_Effects f mine (confined_Locks h (f.calls b (held-from_blocked c (call_of first b) blocked)) e) more

  pub confined_Moves : {t : ℕ} {w v : World} → Confined w → P t → Moves t w v → Confined v
  confined_Moves h mine (call_expires due e) = confined_Expires h mine e
  confined_Moves h mine (acts due e) = confined_Effects h mine h e

  -- what passes on at the end of a thread
  pub confined_Releases : {t : ℕ} {w v : World} → Confined w → Releases t w v → Confined v
  confined_Releases h (none_left none e) = rw e h
  confined_Releases {w = w} h (one_more m own robust passes more) =
      confined_Releases (confined_Passes (confined_kept h m (record (mutex_at w m) { health = _ }) refl refl) passes) more

  -- ENTRIES

  -- who ends is held in no call
  pub confined_dead : {w : World} → Confined w → (t : ℕ) → Confined (after_end t w)
  confined_dead {w} h t = record {
    owners = h.owners;
    waiters = λ u m k. h.waiters u m (is_among-without w.waiters t u m k).0;
    calls = λ u. go u (cases_eq u t);
  }
    where
      x : Thread
      x = record (thread_at w t) { living = false; call = None }

      go : (u : ℕ) → (u ≡ t) ⊎ (u ≡ t → ⊥) → is_held (call_of (with_thread t x w) u) ≡ true → P u
      go u (inl e) k = absurd (true≢false (sym k ∙ ap is_held
          (ap (call_of (with_thread t x w)) e ∙ written_at (λ (y : Thread). y.call) w.threads t x nobody (λ l. refl))))
      go u (inr d) k = h.calls u (ap is_held (sym (call-with_thread_other w t x u d)) ∙ k)

  -- a thread or a mutex is added
  pub confined_thread_added : {w : World} → Confined w → (p : ℕ) → Confined (record w { threads = w.threads ++ new_thread p ∷ [] })
  confined_thread_added {w} h p = record {
    owners = h.owners;
    waiters = h.waiters;
    calls = λ u k. h.calls u (ap is_held (sym (push_same (λ (y : Thread). y.call) w.threads (new_thread p) nobody u refl)) ∙ k);
  }

  pub confined_mutex_added : {w : World} → Confined w → (k : Kind) (r : Bool)
      → Confined (record w { mutexes = w.mutexes ++ new_mutex k r ∷ [] })
  confined_mutex_added {w} h k r = record {
    owners = λ m which some. by_place m (cases_eq m (length w.mutexes)) which some;
    waiters = h.waiters;
    calls = h.calls;
  }
    where
      v : World
      v = record w { mutexes = w.mutexes ++ new_mutex k r ∷ [] }

      by_place : (m : ℕ) → (m ≡ length w.mutexes) ⊎ (m ≡ length w.mutexes → ⊥) → Which (mutex_at v m).robust → owner_of v m ≢ 0
          → P (owner_of v m)
      by_place m (inl e) which some =
          absurd (some (ap (λ (y : Mutex). y.owner) (get_or_push w.mutexes (new_mutex k r) no_mutex m (sym e))))
      by_place m (inr d) which some =
          let same = push_other w.mutexes (new_mutex k r) no_mutex m d in
          subst P (sym (ap (λ (y : Mutex). y.owner) same))
          (h.owners m (subst Which (ap (λ (y : Mutex). y.robust) same) which) (λ e. some (ap (λ (y : Mutex). y.owner) same ∙ e)))

  -- an entry at which nobody but one of them begins a call or goes on
  pub confined_step : (l : Bounds) {w : World} (e : Entry) {v : World} → Confined w
      → ((t : ℕ) (q : Request) (x : Seen) → e ≡ Happened (Begin t q) x → P t) → ((t : ℕ) (x : Seen) → e ≡ Happened (Go t) x → P t)
      → Step l w e v → Confined v
  confined_step l e h begin go (thread_added t p same is_next room low high after) = rw after (confined_thread_added h p)
  confined_step l e h begin go (mutex_added m k r same is_next room after) = rw after (confined_mutex_added h k r)
  confined_step l e h begin go (cond_added c m same known is_next room after) = rw after (confined_same h refl refl refl)
  confined_step l e h begin go (refused x r same why after) = rw after h
  confined_step l e h begin go (begun t q same allowed after) = rw after (confined_thread h t _ (begin t q _ same))
  confined_step l e h begin go (went t same g runs) = confined_Moves h (go t _ same) g.moves
  confined_step l e h begin go (waits t u same g after resting) =
      rw after (confined_call (confined_Moves h (go t _ same) g.moves) t after_waits (go t _ same))
  confined_step l e h begin go (answered t a q u same g before after runs) =
      rw after (confined_call (confined_Moves h (go t _ same) g.moves) t without_call (go t _ same))
  confined_step l e h begin go (ended t same x) = confined_Releases (confined_dead h t) x.releases
  confined_step l e h begin go (ticked n same allowed after) = rw after (confined_same h refl refl refl)

  -- an entry of one of them
  pub confined_entry : (l : Bounds) {w : World} (e : Entry) {v : World} → Confined w → (p : ℕ) → P p → IsEntryOf p e → Step l w e v
      → Confined v
  confined_entry l e h p mine o step = confined_step l e h (by_begin o) (by_go o) step
    where
      by_begin : IsEntryOf p e → (t : ℕ) (q : Request) (x : Seen) → e ≡ Happened (Begin t q) x → P t
      by_begin (begins r y k) t q x j = let z : p ≡ t = (let y = sym k ∙ j in cc) in subst P z mine
      by_begin (goes y k) t q x j = absurd (let z = sym k ∙ j in cc)

      by_go : IsEntryOf p e → (t : ℕ) (x : Seen) → e ≡ Happened (Go t) x → P t
      by_go (begins r y k) t x j = absurd (let z = sym k ∙ j in cc)
      by_go (goes y k) t x j = let z : p ≡ t = (let y = sym k ∙ j in cc) in subst P z mine

  -- who is among all waiters, or sleeps in its call, is one of them
  pub resting_is_among : {w : World} → Confined w → (t : ℕ) → rests w t ≡ true → P t
  resting_is_among {w} h t resting = go (cases_Bool (sleeps (call_of w t)))
    where
      go : (sleeps (call_of w t) ≡ true) ⊎ (sleeps (call_of w t) ≡ false) → P t
      go (inl y) = h.calls t (held-from_sleeps (call_of w t) y)
      go (inr n) = let k = pair-from_named w.waiters t (rw n at resting) in h.waiters t k.0 k.1

  -- an entry beside
  pub confined_beside : (l : Bounds) {w : World} (e : Entry) {v : World} → Confined w → IsBeside w e → Step l w e v → Confined v
  confined_beside l {w} e h o step = confined_step l e h (by_begin o) (by_go o) step
    where
      by_begin : IsBeside w e → (t : ℕ) (q : Request) (x : Seen) → e ≡ Happened (Begin t q) x → P t
      by_begin (ticks n y k) t q x j = absurd (let z = sym k ∙ j in cc)
      by_begin (expires u y resting k) t q x j = absurd (let z = sym k ∙ j in cc)
      by_begin (ends u y k) t q x j = absurd (let z = sym k ∙ j in cc)
      by_begin (adds_thread u p k) t q x j = absurd (let z = sym k ∙ j in cc)
      by_begin (adds_mutex m y r k) t q x j = absurd (let z = sym k ∙ j in cc)
      by_begin (adds_cond c m k) t q x j = absurd (let z = sym k ∙ j in cc)

      by_go : IsBeside w e → (t : ℕ) (x : Seen) → e ≡ Happened (Go t) x → P t
      by_go (ticks n y k) t x j = absurd (let z = sym k ∙ j in cc)
      by_go (expires u y resting k) t x j =
          let z : u ≡ t = (let y = sym k ∙ j in cc) in subst P z (resting_is_among h u resting)
      by_go (ends u y k) t x j = absurd (let z = sym k ∙ j in cc)
      by_go (adds_thread u p k) t x j = absurd (let z = sym k ∙ j in cc)
      by_go (adds_mutex m y r k) t x j = absurd (let z = sym k ∙ j in cc)
      by_go (adds_cond c m k) t x j = absurd (let z = sym k ∙ j in cc)

-- others confine a state if these do, and are among them
pub confined_more : (Which : Bool → Type 0) (P Q : ℕ → Type 0) {w : World} → ((t : ℕ) → P t → Q t) → Confined Which P w → Confined Which Q w
confined_more Which P Q f h = record {
  owners = λ m k n. f _ (h.owners m k n);
  waiters = λ t m k. f t (h.waiters t m k);
  calls = λ t k. f t (h.calls t k);
}

-- an open call that is blocked is so on the variable that it names
pub blocked-from_call : (w : World) (t : ℕ) (x : Call) → call_of w t ≡ Some x → is_blocked x.progress ≡ true
    → is_blocked_on w (variable_of x.request) t ≡ true
blocked-from_call w t x e b =
    ap (is_call_blocked (variable_of x.request)) e
    ∙ ap (λ k. if k then variable_of x.request == variable_of x.request else false) b ∙ eq-eqb (variable_of x.request) (variable_of x.request) refl

-- who is held in its call is engaged
engaged-from_held : (w : World) (t : ℕ) → is_held (call_of w t) ≡ true → IsEngaged w t
engaged-from_held w t = by_call (call_of w t) refl
  where
    by_progress : (x : Call) → call_of w t ≡ Some x → (p : Progress) → x.progress ≡ p → is_held (Some (record x { progress = p })) ≡ true
        → IsEngaged w t
    by_progress x e Stuck f h = waits_for_good x.request (e ∙ ap (λ p. Some (record x { progress = p })) f)
    by_progress x e (Enlisted true) f h = waits_on_variable (variable_of x.request) (blocked-from_call w t x e (ap is_blocked f))
    by_progress x e (Blocked b) f h = waits_on_variable (variable_of x.request) (blocked-from_call w t x e (ap is_blocked f))
    by_progress x e _ f h = absurd (true≢false (sym h))

    by_call : (o : Option Call) → call_of w t ≡ o → is_held o ≡ true → IsEngaged w t
    by_call None e h = absurd (true≢false (sym h))
    by_call (Some x) e h = by_progress x e x.progress refl h

-- those that are engaged confine a state
pub engaged_confine : (w : World) → Confined Any (IsEngaged w) w
engaged_confine w = record {
  owners = λ m k n. owns m n refl;
  waiters = λ t m. waits_for_mutex m;
  calls = λ t. engaged-from_held w t;
}
