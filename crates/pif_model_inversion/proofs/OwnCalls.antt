-- A lock of a mutex that nobody owns, a consistent of an inconsistent one, and an unlock for which nobody waits, each
-- by one thread alone: what holds at each step of it, and what it is answered.
use Rattle.std.proofs.Common.{◌≡◌, ◌≢◌, ◌⊎◌, ◌<◌, ℕ, true, false, List, length, Option, Some, None, refl, sym, ap, ◌∙◌, subst, inl, inr, arith, true≢false}
use Rattle.std.proofs.lemmas.Bool.{cases_eq}
use Rattle.std.proofs.lemmas.List.{length-set}
use Rattle.pif_types.specs.declared.requests.Request.{Request}
use Rattle.pif_types.specs.declared.requests.Request.TheVariants.{Lock, Unlock, Consistent, Wait}
use Rattle.pif_model.specs.Graph.{without, has_waiter}
use Rattle.pif_model.specs.Posix.{Health, Progress, Call, Mutex, World, HasCome, thread_at, mutex_at, is_living, counts_now, sleeps, after_waits, without_call, with_call_by, with_mutex, with_progress, at_progress, on_taking, taken, Locks, Passes, Unlocks, MakesConsistent, Effect}
use Rattle.pif_model.specs.World.Health.{Fine, Inconsistent, Unusable}
use Rattle.pif_model.specs.World.Progress.{Fresh, Leaving, Has, Reacquiring}
use Rattle.pif_model.specs.Posix.Locks.{own_normal, own_errorcheck, own_recursive, free, orphaned, cycle, joins}
use Rattle.pif_model.specs.Posix.Passes.{to_nobody, to_next}
use Rattle.pif_model.specs.Posix.Unlocks.{not_owner, falls, becomes_unusable, released}
use Rattle.pif_model.specs.Posix.MakesConsistent.{not_robust, not_owner as consistent_not_owner, not_inconsistent, made_fine}
use Rattle.pif_model_lemmas.proofs.Among.{is_among, next_is_among}
use Rattle.pif_model_lemmas.proofs.Waiting.{names, has_waiter-from_pair, named-from_pair, named-without_other}
use Rattle.pif_model_simulation.proofs.runs.Holding.{same_progress}
use Rattle.pif_model_simulation.proofs.runs.Worlds.{call_of, call-with_progress, call-with_thread_other, living-with_thread, mutex-with_mutex}
use Rattle.pif_model_inversion.specs.Recovery.{answer_of_free}
use Rattle.pif_model_inversion.proofs.Alone.{NobodyWoken, MayGo, Guides, effect_of}

-- t's call, once it has come further
come_further : (w : World) (t : ℕ) (q : Request) (a b : Progress) → HasCome w t q a → HasCome (with_progress t b w) t q b
come_further w t q a b come = call-with_progress w t b ∙ ap (at_progress b) come

-- if only t's call comes further nobody is woken
woken_by_progress : (w : World) (t : ℕ) (b : Progress) → NobodyWoken t w (with_progress t b w)
woken_by_progress w t b u c m other come = sym (call-with_thread_other w t _ u other) ∙ come

-- who is taken off the waiters of m, with m, isn't woken, and that is another than t, which waits for nothing
taker_is_other : (ws : List (ℕ × ℕ)) (t u m : ℕ) → names t ws ≡ false → is_among ws u m ≡ true → t ≢ u
taker_is_other ws t u m none among e =
    true≢false (sym (named-from_pair ws u m among) ∙ ap (λ k. names k ws) (sym e) ∙ none)

-- a result of taking is no need to lock again
taking_is_done : (h : Health) → on_taking h ≢ Reacquiring
taking_is_done Fine = λ e. absurd (cc)
taking_is_done Inconsistent = λ e. absurd (cc)
taking_is_done Unusable = λ e. absurd (cc)

-- who has come so far by taking hasn't had to lock again
came_otherwise : (o : Option Call) (q : Request) (h : Health) → at_progress (on_taking h) o ≡ Some (record { request = q; progress = Reacquiring }) → ⊥
came_otherwise None q h e = absurd (cc)
came_otherwise (Some c) q h e = taking_is_done h (same_progress {o = Some (record c { progress = on_taking h })} refl e)

module _ (t m : ℕ) (ws : List (ℕ × ℕ)) where
  -- m is y, which was added, these wait, and t lives
  pub record Stays (y : Mutex) (w : World) : Type 0 where
    pub mutex : mutex_at w m ≡ y
    pub waiters : w.waiters ≡ ws
    pub room : m < length w.mutexes
    pub living : is_living w t ≡ true

  stays_called : {y : Mutex} {w : World} (f : Option Call → Option Call) → Stays y w → Stays y (with_call_by t f w)
  stays_called {y} {w} f h = record {
    mutex = h.mutex;
    waiters = h.waiters;
    room = h.room;
    living = living-with_thread w t (record (thread_at w t) { call = f (thread_at w t).call }) refl t ∙ h.living;
  }

  stays_progress : {y : Mutex} {w : World} (p : Progress) → Stays y w → Stays y (with_progress t p w)
  stays_progress p h = stays_called (at_progress p) h

  -- m is written
  stays_written : {y : Mutex} {w : World} (z : Mutex) → Stays y w → Stays z (with_mutex m z w)
  stays_written {y} {w} z h = record {
    mutex = mutex-with_mutex w m z h.room;
    waiters = h.waiters;
    room = subst (λ n. m < n) (sym (length-set w.mutexes m z)) h.room;
    living = h.living;
  }

module _ (t m : ℕ) (x : Mutex) (ws : List (ℕ × ℕ)) where
  -- how far a lock of m has come
  pub data LockAt (w : World) : Type 0 where
    fresh : HasCome w t (Lock m) Fresh → Stays t m ws x w → LockAt w
    has_taken : HasCome w t (Lock m) (on_taking x.health) → Stays t m ws (record x { owner = t; count = 1 }) w → LockAt w
    has_left : HasCome w t (Lock m) (Has 131) → x.health ≡ Unusable → names t w.waiters ≡ false → LockAt w

  -- t owns m, unless that is unusable
  abbrev pub LockDone : World → Type 0
  LockDone w = x.health ≢ Unusable → Stays t m ws (record x { owner = t; count = 1 }) w

  -- how far a consistent has come
  pub data RepairAt (w : World) : Type 0 where
    fresh : HasCome w t (Consistent m) Fresh → Stays t m ws x w → RepairAt w
    is_repaired : HasCome w t (Consistent m) (Has 0) → Stays t m ws (record x { health = Fine }) w → RepairAt w

  -- how far an unlock has come
  pub data UnlockAt (w : World) : Type 0 where
    fresh : HasCome w t (Unlock m) Fresh → Stays t m ws x w → UnlockAt w
    is_released : HasCome w t (Unlock m) (Has 0) → Stays t m ws (record x { owner = 0; count = 1 }) w → UnlockAt w

module _ (t m : ℕ) (x : Mutex) (ws : List (ℕ × ℕ)) (unnamed : names t ws ≡ false) where
  unqueued : {y : Mutex} {w : World} → Stays t m ws y w → names t w.waiters ≡ false
  unqueued h = ap (names t) h.waiters ∙ unnamed

  -- LOCK

  undue_taking : (h : Health) → counts_now (Lock m) (on_taking h) ≡ false
  undue_taking Fine = refl
  undue_taking Inconsistent = refl
  undue_taking Unusable = refl

  awake_taking : (h : Health) → sleeps (after_waits (Some (record { request = Lock m; progress = on_taking h }))) ≡ false
  awake_taking Fine = refl
  awake_taking Inconsistent = refl
  awake_taking Unusable = refl

  not_fresh : (h : Health) → on_taking h ≢ Fresh
  not_fresh Fine = λ e. absurd (cc)
  not_fresh Inconsistent = λ e. absurd (cc)
  not_fresh Unusable = λ e. absurd (cc)

  leaving_is_unusable : (h : Health) → on_taking h ≡ Leaving → h ≡ Unusable
  leaving_is_unusable Fine e = absurd (cc)
  leaving_is_unusable Inconsistent e = absurd (cc)
  leaving_is_unusable Unusable e = refl

  result_of_taking : (h : Health) (a : ℕ) → on_taking h ≡ Has a → (a ≡ answer_of_free h) × (h ≢ Unusable)
  result_of_taking Fine a e = (cc, λ k. absurd (cc))
  result_of_taking Inconsistent a e = (cc, λ k. absurd (cc))
  result_of_taking Unusable a e = absurd (cc)

  module _ (unowned : x.owner ≡ 0) (some : t ≢ 0) where
    lock_takes : {w v : World} → HasCome w t (Lock m) Fresh → Stays t m ws x w → Locks t m w v → LockAt t m x ws v × NobodyWoken t w v
    lock_takes come h (own_normal own kind e) = absurd (some (sym own ∙ ap (λ (y : Mutex). y.owner) h.mutex ∙ unowned))
    lock_takes come h (own_errorcheck own kind e) = absurd (some (sym own ∙ ap (λ (y : Mutex). y.owner) h.mutex ∙ unowned))
    lock_takes come h (own_recursive own kind e) = absurd (some (sym own ∙ ap (λ (y : Mutex). y.owner) h.mutex ∙ unowned))
    lock_takes {w} come h (free other none e) = rw e (
      has_taken
          (come_further (with_mutex m (record (mutex_at w m) { owner = t; count = 1 }) w) t (Lock m) Fresh (on_taking (mutex_at w m).health) come
          ∙ ap (λ (y : Mutex). Some (record { request = Lock m; progress = on_taking y.health })) h.mutex)
          (stays_progress t m ws (on_taking (mutex_at w m).health)
          (subst (λ (y : Mutex). Stays t m ws (record y { owner = t; count = 1 }) (with_mutex m (record (mutex_at w m) { owner = t; count = 1 }) w)) h.mutex
          (stays_written t m ws (record (mutex_at w m) { owner = t; count = 1 }) h))),
      woken_by_progress (with_mutex m (record (mutex_at w m) { owner = t; count = 1 }) w) t (on_taking (mutex_at w m).health),
    )
    lock_takes come h (orphaned k e) = absurd (k.1 (ap (λ (y : Mutex). y.owner) h.mutex ∙ unowned))
    lock_takes come h (cycle k leads e) = absurd (k.1 (ap (λ (y : Mutex). y.owner) h.mutex ∙ unowned))
    lock_takes come h (joins k leads e) = absurd (k.1 (ap (λ (y : Mutex). y.owner) h.mutex ∙ unowned))

    -- an unusable mutex is given up again
    lock_leaves : (w v : World) → HasCome w t (Lock m) (on_taking x.health) → x.health ≡ Unusable → names t w.waiters ≡ false
        → Passes m (with_progress t (Has 131) w) v → LockAt t m x ws v × NobodyWoken t w v
    lock_leaves w v come bad none (to_nobody nobody e) = rw e (
      has_left (come_further w t (Lock m) (on_taking x.health) (Has 131) come) bad none,
      woken_by_progress w t (Has 131),
    )
    lock_leaves w v come bad none (to_next u next is_some e) = rw e (
      has_left (call-with_thread_other left u _ t other ∙ come_further w t (Lock m) (on_taking x.health) (Has 131) come) bad
          (named-without_other w.waiters u t other ∙ none),
      λ b c k d y. by_taker b c k d y (cases_eq b u),
    )
      where
        left : World
        left = with_progress t (Has 131) w

        other : t ≢ u
        other = taker_is_other w.waiters t u m none (next_is_among _ w.waiters m u next is_some)

        after : World
        after = taken u m (record left { waiters = without left.waiters u })

        by_taker : (b c k : ℕ) → b ≢ t → HasCome after b (Wait c k) Reacquiring → (b ≡ u) ⊎ (b ≡ u → ⊥)
            → HasCome w b (Wait c k) Reacquiring
        by_taker b c k d y (inl same) =
            absurd (came_otherwise (call_of left u) (Wait c k) (mutex_at w m).health
            (sym (call-with_progress (record left { mutexes = after.mutexes; waiters = after.waiters }) u (on_taking (mutex_at w m).health))
            ∙ ap (call_of after) (sym same) ∙ y))
        by_taker b c k d y (inr apart) = woken_by_progress w t (Has 131) b c k d (sym (call-with_thread_other left u _ b apart) ∙ y)

    lock_stays : {w v : World} → LockAt t m x ws w → Effect t w v → LockAt t m x ws v × NobodyWoken t w v
    lock_stays {w} {v} (fresh come h) e = by_effect (effect_of (Lock m) Fresh refl come e)
      where
        by_effect : ((Fresh ≡ Fresh) × Locks t m w v) ⊎ ((Fresh ≡ Leaving) × Passes m (with_progress t (Has 131) w) v)
            → LockAt t m x ws v × NobodyWoken t w v
        by_effect (inl k) = lock_takes come h k.1
        by_effect (inr k) = let z = k.0 in absurd (cc)
    lock_stays {w} {v} (has_taken come h) e = by_effect (effect_of (Lock m) (on_taking x.health) refl come e)
      where
        by_effect : ((on_taking x.health ≡ Fresh) × Locks t m w v)
            ⊎ ((on_taking x.health ≡ Leaving) × Passes m (with_progress t (Has 131) w) v) → LockAt t m x ws v × NobodyWoken t w v
        by_effect (inl k) = absurd (not_fresh x.health k.0)
        by_effect (inr k) = lock_leaves w v come (leaving_is_unusable x.health k.0) (unqueued h) k.1
    lock_stays {w} {v} (has_left come bad none) e = by_effect (effect_of (Lock m) (Has 131) refl come e)
      where
        by_effect : ((Has 131 ≡ Fresh) × Locks t m w v) ⊎ ((Has 131 ≡ Leaving) × Passes m (with_progress t (Has 131) w) v)
            → LockAt t m x ws v × NobodyWoken t w v
        by_effect (inl k) = let z = k.0 in absurd (cc)
        by_effect (inr k) = let z = k.0 in absurd (cc)

    lock_goes : {w : World} → LockAt t m x ws w → MayGo w t (Lock m)
    lock_goes (fresh come h) = record { progress = Fresh; come = come; undue = refl; awake = refl; unqueued = unqueued h }
    lock_goes (has_taken come h) = record {
      progress = on_taking x.health;
      come = come;
      undue = undue_taking x.health;
      awake = awake_taking x.health;
      unqueued = unqueued h;
    }
    lock_goes (has_left come bad none) =
        record { progress = Has 131; come = come; undue = refl; awake = refl; unqueued = none }

    lock_ends : {w : World} (a : ℕ) → LockAt t m x ws w → HasCome w t (Lock m) (Has a)
        → (a ≡ answer_of_free x.health) × LockDone t m x ws (with_call_by t without_call w)
    lock_ends a (fresh come h) is_done = absurd (let z = same_progress come is_done in cc)
    lock_ends a (has_taken come h) is_done =
        let k = result_of_taking x.health a (same_progress come is_done) in
        (k.0, λ fine. stays_called t m ws without_call h)
    lock_ends a (has_left come bad none) is_done =
        let z = same_progress come is_done in (let y : a ≡ 131 = cc in y ∙ ap answer_of_free (sym bad), λ fine. absurd (fine bad))

    pub lock_guided : Guides t (Lock m) (answer_of_free x.health) (LockAt t m x ws) (LockDone t m x ws)
    lock_guided = record { own = refl; reports = λ late a. refl; goes = lock_goes; stays = lock_stays; ends = lock_ends }

  -- CONSISTENT

  module _ (own : x.owner ≡ t) (robust : x.robust ≡ true) (bad : x.health ≡ Inconsistent) where
    repair_makes : {w v : World} → HasCome w t (Consistent m) Fresh → Stays t m ws x w → MakesConsistent t m w v → RepairAt t m x ws v × NobodyWoken t w v
    repair_makes come h (not_robust isnt e) =
        absurd (true≢false (sym robust ∙ ap (λ (y : Mutex). y.robust) (sym h.mutex) ∙ isnt))
    repair_makes come h (consistent_not_owner isnt e) = absurd (isnt.1 (ap (λ (y : Mutex). y.owner) h.mutex ∙ own))
    repair_makes come h (not_inconsistent mine isnt e) = absurd (isnt (ap (λ (y : Mutex). y.health) h.mutex ∙ bad))
    repair_makes {w} come h (made_fine mine was e) = rw e (
      is_repaired
          (come_further (with_mutex m (record (mutex_at w m) { health = Fine }) w) t (Consistent m) Fresh (Has 0) come)
          (stays_progress t m ws (Has 0)
          (subst (λ (y : Mutex). Stays t m ws (record y { health = Fine }) (with_mutex m (record (mutex_at w m) { health = Fine }) w)) h.mutex
          (stays_written t m ws (record (mutex_at w m) { health = Fine }) h))),
      woken_by_progress (with_mutex m (record (mutex_at w m) { health = Fine }) w) t (Has 0),
    )

    repair_stays : {w v : World} → RepairAt t m x ws w → Effect t w v → RepairAt t m x ws v × NobodyWoken t w v
    repair_stays {w} {v} (fresh come h) e = by_effect (effect_of (Consistent m) Fresh refl come e)
      where
        by_effect : ((Fresh ≡ Fresh) × MakesConsistent t m w v) ⊎ ((Fresh ≡ Leaving) × Passes m (with_progress t (Has 131) w) v)
            → RepairAt t m x ws v × NobodyWoken t w v
        by_effect (inl k) = repair_makes come h k.1
        by_effect (inr k) = let z = k.0 in absurd (cc)
    repair_stays {w} {v} (is_repaired come h) e = by_effect (effect_of (Consistent m) (Has 0) refl come e)
      where
        by_effect : ((Has 0 ≡ Fresh) × MakesConsistent t m w v) ⊎ ((Has 0 ≡ Leaving) × Passes m (with_progress t (Has 131) w) v)
            → RepairAt t m x ws v × NobodyWoken t w v
        by_effect (inl k) = let z = k.0 in absurd (cc)
        by_effect (inr k) = let z = k.0 in absurd (cc)

    repair_goes : {w : World} → RepairAt t m x ws w → MayGo w t (Consistent m)
    repair_goes (fresh come h) = record { progress = Fresh; come = come; undue = refl; awake = refl; unqueued = unqueued h }
    repair_goes (is_repaired come h) =
        record { progress = Has 0; come = come; undue = refl; awake = refl; unqueued = unqueued h }

    repair_ends : {w : World} (a : ℕ) → RepairAt t m x ws w → HasCome w t (Consistent m) (Has a)
        → (a ≡ 0) × Stays t m ws (record x { health = Fine }) (with_call_by t without_call w)
    repair_ends a (fresh come h) is_done = absurd (let z = same_progress come is_done in cc)
    repair_ends a (is_repaired come h) is_done =
        let z = same_progress come is_done in (cc, stays_called t m ws without_call h)

    pub repair_guided : Guides t (Consistent m) 0 (RepairAt t m x ws) (Stays t m ws (record x { health = Fine }))
    repair_guided =
        record { own = refl; reports = λ late a. refl; goes = repair_goes; stays = repair_stays; ends = repair_ends }

  -- UNLOCK

  module _ (own : x.owner ≡ t) (once : x.count ≡ 1) (fine : x.health ≡ Fine) (unwanted : has_waiter ws m ≡ false) where
    unlock_passes : {w v : World} → HasCome w t (Unlock m) Fresh → Stays t m ws x w → Passes m (with_progress t (Has 0) w) v
        → UnlockAt t m x ws v × NobodyWoken t w v
    unlock_passes {w} come h (to_nobody none e) = rw e (
      is_released (come_further w t (Unlock m) Fresh (Has 0) come)
          (subst (λ (y : Mutex). Stays t m ws (record y { owner = 0; count = 1 }) (with_mutex m (record (mutex_at w m) { owner = 0; count = 1 }) (with_progress t (Has 0) w))) h.mutex
          (stays_written t m ws (record (mutex_at w m) { owner = 0; count = 1 }) (stays_progress t m ws (Has 0) h))),
      woken_by_progress w t (Has 0),
    )
    unlock_passes {w} come h (to_next u next is_some e) =
        absurd (true≢false (sym (has_waiter-from_pair w.waiters u m (next_is_among _ w.waiters m u next is_some))
        ∙ ap (λ l. has_waiter l m) h.waiters ∙ unwanted))

    unlock_gives : {w v : World} → HasCome w t (Unlock m) Fresh → Stays t m ws x w → Unlocks t m w v → UnlockAt t m x ws v × NobodyWoken t w v
    unlock_gives come h (not_owner isnt e) = absurd (isnt (ap (λ (y : Mutex). y.owner) h.mutex ∙ own))
    unlock_gives come h (falls mine more e) = absurd (omega (arith, more, ap (λ (y : Mutex). y.count) h.mutex, once))
    unlock_gives come h (becomes_unusable mine k was e) =
        absurd (let z = sym was ∙ ap (λ (y : Mutex). y.health) h.mutex ∙ fine in cc)
    unlock_gives come h (released mine k good passes) = unlock_passes come h passes

    unlock_stays : {w v : World} → UnlockAt t m x ws w → Effect t w v → UnlockAt t m x ws v × NobodyWoken t w v
    unlock_stays {w} {v} (fresh come h) e = by_effect (effect_of (Unlock m) Fresh refl come e)
      where
        by_effect : ((Fresh ≡ Fresh) × Unlocks t m w v) ⊎ ((Fresh ≡ Leaving) × Passes m (with_progress t (Has 131) w) v)
            → UnlockAt t m x ws v × NobodyWoken t w v
        by_effect (inl k) = unlock_gives come h k.1
        by_effect (inr k) = let z = k.0 in absurd (cc)
    unlock_stays {w} {v} (is_released come h) e = by_effect (effect_of (Unlock m) (Has 0) refl come e)
      where
        by_effect : ((Has 0 ≡ Fresh) × Unlocks t m w v) ⊎ ((Has 0 ≡ Leaving) × Passes m (with_progress t (Has 131) w) v)
            → UnlockAt t m x ws v × NobodyWoken t w v
        by_effect (inl k) = let z = k.0 in absurd (cc)
        by_effect (inr k) = let z = k.0 in absurd (cc)

    unlock_goes : {w : World} → UnlockAt t m x ws w → MayGo w t (Unlock m)
    unlock_goes (fresh come h) = record { progress = Fresh; come = come; undue = refl; awake = refl; unqueued = unqueued h }
    unlock_goes (is_released come h) =
        record { progress = Has 0; come = come; undue = refl; awake = refl; unqueued = unqueued h }

    unlock_ends : {w : World} (a : ℕ) → UnlockAt t m x ws w → HasCome w t (Unlock m) (Has a)
        → (a ≡ 0) × Stays t m ws (record x { owner = 0; count = 1 }) (with_call_by t without_call w)
    unlock_ends a (fresh come h) is_done = absurd (let z = same_progress come is_done in cc)
    unlock_ends a (is_released come h) is_done =
        let z = same_progress come is_done in (cc, stays_called t m ws without_call h)

    pub unlock_guided : Guides t (Unlock m) 0 (UnlockAt t m x ws) (Stays t m ws (record x { owner = 0; count = 1 }))
    unlock_guided =
        record { own = refl; reports = λ late a. refl; goes = unlock_goes; stays = unlock_stays; ends = unlock_ends }
