-- A step of a call that is due expires it, and is an entry of the POSIX machine that keeps the invariant: a lock that
-- is queued, one that is stopped, and a wait that is parked.
use Rattle.std.proofs.Common.{◌≡◌, ◌≢◌, ◌⊎◌, inl, inr, ℕ, ◌<◌, Bool, true, false, length, None, refl, sym, ap, ◌∙◌, subst, if◌then◌else◌, true≢false, get_or}
use Rattle.std.proofs.lemmas.List.{length-set, set-set, get_or-set_same}
use Rattle.pif_types.specs.declared.requests.Request.{Request}
use Rattle.pif_types.specs.declared.requests.Request.TheVariants.{Lock, Wait}
use Rattle.pif_model.specs.declared.events.Event.TheVariants.{Go}
use Rattle.pif_model.specs.declared.events.Seen.TheVariants.{Went, Answered}
use Rattle.pif_model.specs.declared.events.Entry.TheVariants.{Step as Happened}
use Rattle.pif_model.specs.declared.lines.Line.TheVariants.{Idle, At}
use Rattle.pif_model.specs.declared.lines.Place.{Place}
use Rattle.pif_model.specs.declared.lines.Place.TheVariants.{Load, Exchange, StayQueued, StayStopped, Clear, StayParked}
use Rattle.pif_model.specs.declared.lines.Footing.TheVariants.{Unowned, HadStopped}
use Rattle.pif_model.specs.declared.lines.Status.{Status}
use Rattle.pif_model.specs.declared.lines.Status.TheVariants.{Ready, Queued, Parked, Stopped, Ended}
use Rattle.pif_model.specs.declared.lines.Timer.{Timer}
use Rattle.pif_model.specs.Deadlines.{ran_out}
use Rattle.pif_model.specs.Graph.{without}
use Rattle.pif_model.specs.Word.{word_at, health_word_at}
use Rattle.pif_model.specs.Posix.{Progress, Thread, World, Expires, thread_at, with_thread, with_progress, at_progress, after_timeout, with_call_by, without_call, is_due, is_call_blocked}
use Rattle.pif_model.specs.Posix.Expires.{lock as lock_expires, wait as wait_expires}
use Rattle.pif_model.specs.Posix.Moves.{expires}
use Rattle.pif_model.specs.World.Progress.{Has, Reacquiring}
use Rattle.pif_model.specs.Posix.Step.{went, answered}
use Rattle.pif_model.specs.PiKernel.{Kernel, seat_at, state_at, is_ready, is_parked, is_living, queued_on, waits_for, IsKernel, kernel_after_expire}
use Rattle.pif_model.specs.RobustList.{robust_at}
use Rattle.pif_model.specs.Table.{Table, has_mutex, bound_to, uses_of, status_at, timer_at, library_at, with_line, with_timer, has_cond, new_mutex}
use Rattle.pif_model.specs.Lines.{counts_at, is_due_in, expired_in, expires_at, Outcome}
use Rattle.pif_model.specs.Projection.{HistoryVariables, Agrees, health_at, progress_at, world_of}
use Rattle.pif_model.specs.Soundness.{is_unsettled, IsSound, ThreadIsSound, waited_in, is_handed}
use Rattle.pif_types.specs.declared.requests.Kind.TheVariants.{Normal}
use Rattle.pif_model_lemmas.proofs.kernel.Expired.{waiters-expired}
use Rattle.pif_model_lemmas.proofs.kernel.Facts.{waits_for-other, has_state-from_queued, waiter-from_state, no_waiter-0, waited-status}
use Rattle.pif_model_lemmas.proofs.kernel.Left.{mutex_left}
use Rattle.pif_model_lemmas.proofs.kernel.LineCases.{ends_by_cases}
use Rattle.pif_model_lemmas.proofs.Waiting.{without-unnamed, names, unnamed-from_0}
use Rattle.pif_model_simulation.proofs.Agreement.{Frames, framed, quiet, was_not}
use Rattle.pif_model_simulation.proofs.Called.{IsOneCall, called_sound, called_known, called_frames, called_shown}
use Rattle.pif_model_simulation.proofs.deadlines.Due.{due_seen}
use Rattle.pif_model_simulation.proofs.deadlines.Expired.{status_then, expired_one, expired_table}
use Rattle.pif_model_simulation.proofs.WeakenedInvariant.{each_thread}
use Rattle.pif_model_simulation.proofs.Named.{second}
use Rattle.pif_model_simulation.proofs.Lined.{lined_sound, lined_frames, lined_call, lined_shown}
use Rattle.pif_model_simulation.proofs.Local.{lists_after, going_cell, going_list, going_settled}
use Rattle.pif_model_simulation.proofs.LocalLines.{stalled_lists, row_same, row_other, settled_so_far}
use Rattle.pif_model_simulation.proofs.Shown.{timer_seen, thread_changed, thread_changed_twice, closed_progressed, call_progressed}
use Rattle.pif_model_simulation.proofs.Steps.{Keeps, Going, going_named, going_allowed, going_called, going_lined, going_below, progress_of, rests_ready, asked_at, going_own_handed, going_stopped, going_unstopped}
use Rattle.pif_model_simulation.proofs.deadlines.Timers.{timer_sound, timer_frames, timer_shown}
use Rattle.pif_model_simulation.proofs.Written.{no_call, written, same_library}
use Rattle.pif_model_lemmas.proofs.Numbers.{above_0}

-- A STEP THAT EXPIRES

-- a step of t that expires its call, and what it leaves, follow s
abbrev pub GoExpires : Table → ℕ → Outcome → Type 0
GoExpires s t o = Keeps s (Happened (Go t) o.seen) o.after

-- who is at another place of another line than this
line_request : {q r : Request} {p b : Place} → At q p ≡ At r b → r ≡ q
line_request e = ap (λ l. asked_at l) (sym e)

other_place : {m c n : ℕ} → At (Lock m) StayQueued ≡ At (Wait c n) StayParked → ⊥
other_place e = cc

-- what passes a test turned round doesn't pass it
not_ready : (b : Bool) → (if b then false else true) ≡ true → b ≡ false
not_ready true e = absurd (true≢false (sym e))
not_ready false e = refl

-- who is queued on nothing is not among the waiters
unnamed-from_unqueued : (k : Kernel) → IsKernel k → (t : ℕ) → queued_on (seat_at k t).status ≡ 0
    → names t k.waiters ≡ false
unnamed-from_unqueued k h t e = unnamed-from_0 k.waiters t (no_waiter-0 k h) (waited-status k h t ∙ e)

module _ {s : Table} {t : ℕ} {q : Request} {p : Place} (g : Going s t q p) (due : is_due_in s t ≡ true) where
  -- the call is due in the world
  going_due : (x : HistoryVariables) → is_due (world_of s x) t ≡ true
  going_due x = due_seen g.sound x t g.known ∙ due

  -- the step follows with this expiry, after which t may run
  expires_with : (v : Table) → IsSound v → v.limits ≡ s.limits → is_living v.kernel t ≡ true
      → is_ready (status_at v t) ≡ true → ((x : HistoryVariables) → Agrees s x → Agrees v x)
      → ((x : HistoryVariables) → Expires t (world_of s x) (world_of v x))
      → Keeps s (Happened (Go t) Went) v
  expires_with v sound limits known ready fits expiry = record {
    sound = sound;
    limits = limits;
    shows = λ x a. (
      x,
      fits x a,
      went t refl (record { allowed = going_allowed g x; moves = expires (going_due x) (expiry x) })
          (rests_ready sound x t known ready),
    );
  }

-- A LOCK THAT IS STALLED IS CLOSED

module _ {s : Table} {t m : ℕ} {b : Place} (g : Going s t (Lock m) b) (ready : is_ready (status_at s t) ≡ true)
    (stalled : (library_at s m).robust ≡ false) (settled : is_unsettled b ≡ false) where
  abbrev last : Table
  last = with_line t Idle s

  closed_sound : IsSound last
  closed_sound = lined_sound s t Idle g.sound g.known s.kernel g.sound.kernel
      (no_call (λ j. j ≡ t) (bound_to s) s.kernel 0) refl ready ready
      (lists_after s s t m (At (Lock m) b) Idle refl tt (going_named g) (λ j. refl) (λ j. refl) (λ j d. refl)
      (going_list g (going_named g))
      (stalled_lists g (going_named g) tt stalled stalled ((going_cell g (going_named g)).stalled stalled)))
      (λ j e o away. going_settled g (going_named g) j e o
      (λ x. away (x ∙ ap (λ y. if y then m else 0) settled)))

  closed_frames : Frames s last
  closed_frames = lined_frames s t Idle g.sound g.known s.kernel (λ j. refl) (quiet refl refl)
      (λ e. was_not s last t (λ c. ap (is_call_blocked c) (lined_call s t Idle g.sound g.known s.kernel)))

  closed_shown : (y : HistoryVariables) → world_of last y
      ≡ with_thread t (record (thread_at (world_of s y) t) { call = None }) (world_of s y)
  closed_shown y = lined_shown s t Idle g.sound g.known y closed_sound None refl

-- A LOCK EXPIRES

-- t has left the waiters, and its lock has this result
abbrev expired_world : ℕ → Progress → World → World
expired_world t a w = record (with_progress t a w) { waiters = without w.waiters t }

-- a closed call's result doesn't show
closed_alike : (w : World) (t : ℕ) (a b : Progress) → t < length w.threads
    → with_call_by t without_call (with_progress t a w) ≡ with_call_by t without_call (with_progress t b w)
closed_alike w t a b e = closed_progressed w t a e ∙ sym (closed_progressed w t b e)

module _ {s : Table} {t m : ℕ} {p : Place} (g : Going s t (Lock m) p) (due : is_due_in s t ≡ true)
    (left : (mutex_left t s.kernel ≡ m) ⊎ (mutex_left t s.kernel ≡ 0)) where
  named : has_mutex s m ≡ true
  named = going_named g

  abbrev k : Kernel
  k = kernel_after_expire t s.kernel

  -- the table in which the call goes on at a place over that kernel
  abbrev gone : Place → Table
  gone b = written t m (At (Lock m) b) (robust_at s.lists t) (word_at s.words m) (health_word_at s.words m)
      (library_at s m).count k s

  -- to go on at a place of this progress is a call in which only t changes
  abbrev Goes : Place → Type 0
  Goes b = IsOneCall s t (Lock m) p b (word_at s.words m) k

  -- the progress there, whatever is read of the health and the uses
  abbrev progress_then : Place → Progress
  progress_then b = progress_at (Lock m) b (seat_at k t).status (health_at s m) (uses_of s 0)

  -- t has left the waiters then
  gone_shown : (b : Place) (a : Progress) → Goes b → progress_then b ≡ a → (y : HistoryVariables)
      → world_of (gone b) y ≡ expired_world t a (world_of s y)
  gone_shown b a one has y = called_shown g named b (word_at s.words m) k one y a refl has
      ∙ (λ i. record (with_progress t a (world_of s y)) { waiters = waiters-expired t s.kernel i })

  -- a robust one goes on at a place at which it has its result
  expires_robust : (b : Place) → Goes b → progress_then b ≡ Has 110
      → Keeps s (Happened (Go t) Went) (with_line t (At (Lock m) b) (expired_in t s))
  expires_robust b one has = subst (Keeps s (Happened (Go t) Went)) (expired_table g named left b)
      (expires_with g due (gone b) (called_sound g named b (word_at s.words m) k one) refl
      (called_known g named b (word_at s.words m) k one) (ap is_ready (status_then g named left))
      (framed (called_frames g named b (word_at s.words m) k one))
      (λ y. lock_expires m p' (going_called g y) (gone_shown b (Has 110) one has y)))
    where
      p' : Progress
      p' = progress_of s t (Lock m) p

  -- a stalled one is closed
  expires_stalled : (b : Place) → Goes b → is_unsettled b ≡ false → (library_at s m).robust ≡ false
      → Keeps s (Happened (Go t) (Answered 110)) (with_line t Idle (expired_in t s))
  expires_stalled b one settled stalled = subst (Keeps s (Happened (Go t) (Answered 110))) closes (record {
    sound = closed_sound there ready same_kind settled;
    limits = refl;
    shows = λ y a. (
      y,
      framed (closed_frames there ready same_kind settled) y
          (framed (called_frames g named b (word_at s.words m) k one) y a),
      answered t 110 (Lock m) (expired_world t (Has 110) (world_of s y)) refl
          (record {
            allowed = going_allowed g y;
            moves = expires (going_due g due y) (lock_expires m (progress_of s t (Lock m) p) (going_called g y) refl);
          })
          (call_progressed (world_of s y) t (Has 110) _ (going_below g y) (going_called g y)) (shown y)
          (rests_ready (closed_sound there ready same_kind settled) y t there.known ready),
    );
  })
    where
      there : Going (gone b) t (Lock m) b
      there = record {
        sound = called_sound g named b (word_at s.words m) k one;
        known = called_known g named b (word_at s.words m) k one;
        line = get_or-set_same s.lines t (At (Lock m) b) Idle (going_lined g);
      }

      ready : is_ready (status_at (gone b) t) ≡ true
      ready = ap is_ready (status_then g named left)

      same_kind : (library_at (gone b) m).robust ≡ false
      same_kind = ap (λ ls. (get_or ls m (new_mutex Normal false)).robust) (same_library s m) ∙ stalled

      -- the line between is written over
      closes : with_line t Idle (gone b) ≡ with_line t Idle (expired_in t s)
      closes = ap (with_line t Idle) (expired_table g named left b)
          ∙ (λ i. record (expired_in t s) { lines = set-set (expired_in t s).lines t (At (Lock m) b) Idle i })

      shown : (y : HistoryVariables)
          → world_of (with_line t Idle (gone b)) y ≡ with_call_by t without_call (expired_world t (Has 110) (world_of s y))
      shown y =
          closed_shown there ready same_kind settled y
          ∙ ap (with_call_by t without_call) (gone_shown b (progress_then b) one refl y)
          ∙ closed_alike (record (world_of s y) { waiters = without s.kernel.waiters t }) t (progress_then b) (Has 110)
          (going_below g y)

-- A LOCK THAT IS QUEUED

module _ {s : Table} {t m : ℕ} (g : Going s t (Lock m) StayQueued) (due : is_due_in s t ≡ true)
    (unready : is_ready (status_at s t) ≡ false) where
  -- it is queued on its mutex
  on_mutex : mutex_left t s.kernel ≡ m
  on_mutex = go (status_at s t) refl
    where
      thread : ThreadIsSound s t
      thread = each_thread g.sound t g.known

      go : (x : Status) → status_at s t ≡ x → queued_on x ≡ m
      go (Ready w) e = absurd (true≢false (sym (ap is_ready e) ∙ unready))
      go (Queued j) e = (let on = thread.queue j e in
          sym on.waits ∙ ap waited_in (line_request (sym g.line ∙ on.line)))
      go (Parked c) e = absurd (other_place (sym g.line ∙ (thread.parked c e).line))
      go Stopped e = absurd ((going_unstopped g).0 e)
      go Ended e = absurd ((going_unstopped g).1 e)

  -- somebody waits for it, and so its owner is another
  other : (word_at s.words m).number ≢ t
  other own = waits_for-other s.kernel g.sound.kernel t some (owner_state ∙ own)
    where
      has_state : state_at s.kernel m ≢ 0
      has_state = has_state-from_queued s.kernel g.sound.kernel t m
          (above_0 m (length s.mutexes) (going_named g)) on_mutex

      owner_state : waits_for s.kernel t ≡ (word_at s.words m).number
      owner_state = ap (state_at s.kernel) on_mutex ∙ (going_cell g (going_named g)).state
          ∙ ap (λ b. if b then (word_at s.words m).number else 0)
          (waiter-from_state s.kernel g.sound.kernel m has_state)

      some : waits_for s.kernel t ≢ 0
      some z = has_state (sym (ap (state_at s.kernel) on_mutex) ∙ z)

  -- a stalled one is answered, and a robust one clears its pending field
  pub queued_expires : GoExpires s t (expires_at (Lock m) StayQueued t s)
  unfolding expires_at expired_in
  queued_expires = ends_by_cases (GoExpires s t) (Lock m) (Clear Unowned 110) 110 t m (expired_in t s)
      (λ robust. expires_robust g due (inl on_mutex) (Clear Unowned 110)
      (expired_one g (going_named g) (inl on_mutex) (Clear Unowned 110) refl (quiet refl refl) (refl, (other, (robust, tt))) refl
      (λ r. row_other g (going_named g) r refl refl other other)) refl)
      (λ stalled. expires_stalled g due (inl on_mutex) Exchange
      (expired_one g (going_named g) (inl on_mutex) Exchange refl (quiet refl refl) (refl, (other, tt)) refl
      (λ r. absurd (true≢false (sym r ∙ stalled)))) refl stalled)

-- A LOCK THAT IS STOPPED

module _ {s : Table} {t m : ℕ} (g : Going s t (Lock m) StayStopped) (due : is_due_in s t ≡ true) where
  -- it is queued on nothing
  on_nothing : mutex_left t s.kernel ≡ 0
  on_nothing = ap queued_on (going_stopped g)

  pub stopped_expires : GoExpires s t (expires_at (Lock m) StayStopped t s)
  unfolding expires_at expired_in
  stopped_expires = ends_by_cases (GoExpires s t) (Lock m) (Clear HadStopped 110) 110 t m (expired_in t s)
      (λ robust. expires_robust g due (inr on_nothing) (Clear HadStopped 110)
      (expired_one g (going_named g) (inr on_nothing) (Clear HadStopped 110) refl (quiet refl refl) (refl, (robust, tt)) refl
      (λ r. row_same g (going_named g) r refl refl refl (λ o u. settled_so_far g (going_named g) refl o))) refl)
      (λ stalled. expires_stalled g due (inr on_nothing) Load
      (expired_one g (going_named g) (inr on_nothing) Load refl (quiet refl refl) (refl, tt) refl
      (λ r. absurd (true≢false (sym r ∙ stalled)))) refl stalled)

-- A WAIT THAT IS PARKED

-- who is parked is queued on nothing, and was not handed its mutex
parked_on_nothing : (x : Status) → is_parked x ≡ true → queued_on x ≡ 0
parked_on_nothing (Ready w) e = refl
parked_on_nothing (Queued m) e = absurd (true≢false (sym e))
parked_on_nothing (Parked c) e = refl
parked_on_nothing Stopped e = refl
parked_on_nothing Ended e = refl

parked_not_handed : (x : Status) → is_parked x ≡ true → is_handed x ≡ false
parked_not_handed (Ready w) e = absurd (true≢false (sym e))
parked_not_handed (Queued m) e = refl
parked_not_handed (Parked c) e = refl
parked_not_handed Stopped e = refl
parked_not_handed Ended e = refl

-- a thread gets a timer before its call goes on, or after
late_alike : (w : World) (t : ℕ) (a : Progress) (x : Timer) → t < length w.threads
    → let v : World = with_progress t a w in let u : World = with_thread t (record (thread_at w t) { timer = x }) w in
    with_thread t (record (thread_at v t) { timer = x }) v ≡ with_progress t a u
late_alike w t a x e =
    (λ i. with_thread t (record (thread_changed w t y e i) { timer = x }) (with_progress t a w))
    ∙ thread_changed_twice w t y z
    ∙ sym ((λ i. with_thread t (record (thread_changed w t l e i)
    { call = at_progress a (thread_changed w t l e i).call }) (with_thread t l w))
    ∙ thread_changed_twice w t l z)
  where
    y : Thread
    y = record (thread_at w t) { call = at_progress a (thread_at w t).call }

    l : Thread
    l = record (thread_at w t) { timer = x }

    z : Thread
    z = record (thread_at w t) { call = at_progress a (thread_at w t).call; timer = x }

module _ {s : Table} {t c m : ℕ} (g : Going s t (Wait c m) StayParked) (due : is_due_in s t ≡ true)
    (parked : is_parked (status_at s t) ≡ true) where
  wait_named : has_mutex s m ≡ true
  wait_named = second (has_cond s c) (has_mutex s m) (going_named g)

  unqueued : mutex_left t s.kernel ≡ 0
  unqueued = parked_on_nothing (status_at s t) parked

  -- its mutex is another's
  wait_other : (word_at s.words m).number ≢ t
  wait_other = (going_own_handed g).1 (parked_not_handed (status_at s t) parked)

  abbrev late : Kernel
  late = kernel_after_expire t s.kernel

  -- it goes on to lock its mutex
  one : IsOneCall s t (Wait c m) StayParked Exchange (word_at s.words m) late
  one = expired_one g wait_named (inr unqueued) Exchange refl (quiet refl refl) (refl, (wait_other, tt)) refl
      (λ r. row_other g wait_named r refl refl wait_other wait_other)

  abbrev between : Table
  between = written t m (At (Wait c m) Exchange) (robust_at s.lists t) (word_at s.words m)
      (health_word_at s.words m) (library_at s m).count late s

  between_sound : IsSound between
  between_sound = called_sound g wait_named Exchange (word_at s.words m) late one

  -- it was not among the waiters
  not_among : without s.kernel.waiters t ≡ s.kernel.waiters
  not_among = without-unnamed s.kernel.waiters t (unnamed-from_unqueued s.kernel g.sound.kernel t unqueued)

  between_shown : (y : HistoryVariables) → world_of between y ≡ with_progress t Reacquiring (world_of s y)
  between_shown y = called_shown g wait_named Exchange (word_at s.words m) late one y Reacquiring refl refl
      ∙ (λ i. record (with_progress t Reacquiring (world_of s y)) { waiters = (waiters-expired t s.kernel ∙ not_among) i })

  abbrev x : Timer
  x = ran_out (timer_at s t)

  expired_shown : (y : HistoryVariables)
      → world_of (with_timer t x between) y ≡ with_progress t Reacquiring (after_timeout t (world_of s y))
  expired_shown y =
      timer_shown between t x between_sound y
      (subst (λ n. t < n) (sym (length-set s.lines t (At (Wait c m) Exchange))) (going_lined g))
      ∙ ap (λ w. with_thread t (record (thread_at w t) { timer = x }) w) (between_shown y)
      ∙ late_alike (world_of s y) t Reacquiring x (going_below g y)
      ∙ ap (λ z. with_progress t Reacquiring (with_thread t (record (thread_at (world_of s y) t) { timer = ran_out z })
      (world_of s y))) (sym (timer_seen g.sound.all.shape y t))

  pub parked_expires : GoExpires s t (expires_at (Wait c m) StayParked t s)
  unfolding expires_at expired_in
  parked_expires = subst (Keeps s (Happened (Go t) Went))
      (ap (with_timer t x) (expired_table g wait_named (inr unqueued) Exchange))
      (expires_with g due (with_timer t x between) (timer_sound between t x between_sound) refl
      (called_known g wait_named Exchange (word_at s.words m) late one)
      (ap is_ready (status_then g wait_named (inr unqueued)))
      (λ y a. framed (timer_frames between t x between_sound) y
      (framed (called_frames g wait_named Exchange (word_at s.words m) late one) y a))
      (λ y. wait_expires c m (progress_of s t (Wait c m) StayParked) (going_called g y) (expired_shown y)))

-- A CALL THAT IS DUE

-- a call that is due at its place expires
pub due_kept : {s : Table} {t : ℕ} (q : Request) (p : Place) → Going s t q p → is_due_in s t ≡ true
    → counts_at q p (status_at s t) ≡ true → GoExpires s t (expires_at q p t s)
due_kept (Lock m) StayQueued g due e = queued_expires g due (not_ready (is_ready _) e)
due_kept (Lock m) StayStopped g due e = stopped_expires g due
due_kept (Lock m) _ g due e = absurd (true≢false (sym e))
due_kept (Wait c m) StayParked g due e = parked_expires g due e
due_kept (Wait c m) _ g due e = absurd (true≢false (sym e))
due_kept _ _ g due e = absurd (true≢false (sym e))
