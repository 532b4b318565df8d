-- The POSIX machine of mutexes and condition variables: what the calls on them, pthread_setschedprio and the end of a
-- thread do, by POSIX.1-2017 (the pages pthread_mutex_lock, pthread_mutex_trylock, pthread_mutex_timedlock,
-- pthread_mutex_unlock, pthread_mutex_consistent, pthread_cond_wait, pthread_cond_timedwait, pthread_cond_signal,
-- pthread_cond_broadcast, pthread_mutexattr_settype, pthread_mutexattr_setprotocol, pthread_mutexattr_setrobust and
-- pthread_setschedprio).
-- It knows no words, no kernel and no chain walks. A call has effects, each of which happens at one moment between its
-- beginning and its answer. Threads, mutexes and variables are numbered from 1; place 0 of each list stands for nobody.
-- What its state is made of stands in World.antt, and is passed on here.
-- Each rule says whose it is: a page of POSIX with what it says, or 'this project's choice' if POSIX leaves it open.
use Rattle.std.specs.Prelude.{ℕ, zero, suc, ◌≡◌, ◌≢◌, ◌≤◌, ◌<◌, ◌+◌, ◌-◌, Bool, true, false, ◌==◌, List, [], ◌∷◌, ◌++◌, length, set, map, Option, Some, None, is_some, unwrap_or, if◌then◌else◌}
use Rattle.std.specs.List.{list_any}
use Rattle.pif_types.specs.Bounds.{Bounds}
use Rattle.pif_types.specs.declared.errors.Refusal.{Refusal}
use Rattle.pif_types.specs.declared.requests.Kind.{Kind}
use Rattle.pif_model.specs.declared.lines.Relock.{Relock}
use Rattle.pif_model.specs.declared.lines.Relock.TheVariants.{Deadlocks, Answers, Counts}
use Rattle.pif_model.specs.Kinds.{relock_of}
use Rattle.pif_types.specs.declared.requests.Request.{Request}
use Rattle.pif_types.specs.declared.requests.Request.TheVariants.{Lock, TryLock, Unlock, Consistent, Wait, Signal, Broadcast, SetPrio}
use Rattle.pif_types.specs.Shapes.{Shape, shape_of, uses, names_of}
use Rattle.pif_types.specs.Shapes.Shape.{Awaits, Wakes}
use Rattle.pif_model.specs.NamedNumbers.{EPERM, ESRCH, EAGAIN, EBUSY, EINVAL, EDEADLK, EOVERFLOW, ETIMEDOUT, EOWNERDEAD, ENOTRECOVERABLE, most_holds}
use Rattle.pif_model.specs.declared.events.Event.{Event}
use Rattle.pif_model.specs.declared.events.Event.TheVariants.{Begin, Go, End, Tick}
use Rattle.pif_model.specs.declared.events.Seen.TheVariants.{Begun, Went, Waits, Answered, Ended, Ticked, Refused}
use Rattle.pif_model.specs.declared.events.Entry.{Entry}
use Rattle.pif_model.specs.declared.events.Entry.TheVariants.{Thread as AddThread, Mutex as AddMutex, Cond as AddCond, Step as Happened}
use Rattle.pif_model.specs.Graph.{is_priority, without}
use Rattle.pif_model.specs.Refusals.{begin_refused, go_refused, end_refused, tick_refused}
use Rattle.pif_model.specs.Deadlines.{plain, no_timer, timer_of, ran_out, is_reached, reported_result}
pub use Rattle.pif_model.specs.World.{Health, Progress, Call, Memory, Thread, Mutex, Variable, World, no_memory, nobody, no_mutex, no_variable, empty_world, thread_at, mutex_at, variable_at, is_thread, is_living, is_mutex, is_variable, with_thread, with_mutex, with_call_by, at_progress, with_progress, WaitsFor, waits_for, effective_of, next_of, leads_to, is_orphaned, is_idle, sleeps, rests, is_blocked, variable_of, is_call_blocked, is_blocked_on, is_found, is_still_blocked}
use Rattle.pif_model.specs.World.Health.{Fine, Inconsistent, Unusable}
use Rattle.pif_model.specs.World.Progress.{Fresh, Waiting, Stuck, Leaving, Has, Checked, Enlisted, Blocked, Reacquiring, Used}

-- THE PREMISES AND RESULTS OF RULES

-- t's open call is q, and has come this far
abbrev pub HasCome : World → ℕ → Request → Progress → Type 0
HasCome w t q p = (thread_at w t).call ≡ Some (record { request = q; progress = p })

-- t's open call is q, and has had no effect yet
abbrev pub IsCalling : World → ℕ → Request → Type 0
IsCalling w t q = HasCome w t q Fresh

-- t is the owner of m, or isn't
abbrev pub IsOwner : World → ℕ → ℕ → Type 0
IsOwner w t m = (mutex_at w m).owner ≡ t

abbrev pub IsNotOwner : World → ℕ → ℕ → Type 0
IsNotOwner w t m = (mutex_at w m).owner ≢ t

-- m has no owner; or it has one, which may have ended
abbrev pub IsFree : World → ℕ → Type 0
IsFree w m = (mutex_at w m).owner ≡ 0

abbrev pub IsOwned : World → ℕ → Type 0
IsOwned w m = (mutex_at w m).owner ≢ 0

-- another thread than t owns m, and m is orphaned; or another thread owns it, and it isn't orphaned
abbrev pub IsOrphanedByAnother : World → ℕ → ℕ → Type 0
IsOrphanedByAnother w t m = IsNotOwner w t m × IsOwned w m × (is_orphaned w m ≡ true)

abbrev pub IsHeldByAnother : World → ℕ → ℕ → Type 0
IsHeldByAnother w t m = IsNotOwner w t m × IsOwned w m × (is_orphaned w m ≡ false)

-- to wait for m would close a cycle: m's owner waits for t through some chain; or it would close none
abbrev pub ClosesCycle : World → ℕ → ℕ → Type 0
ClosesCycle w t m = leads_to w (mutex_at w m).owner t ≡ true

abbrev pub ClosesNoCycle : World → ℕ → ℕ → Type 0
ClosesNoCycle w t m = leads_to w (mutex_at w m).owner t ≡ false

-- a lock of m by its owner does this
abbrev pub Relocks : World → ℕ → Relock → Type 0
Relocks w m x = relock_of (mutex_at w m).kind ≡ x

-- m is held once by its owner, or more than once
abbrev pub IsHeldOnce : World → ℕ → Type 0
IsHeldOnce w m = (mutex_at w m).count ≡ 1

abbrev pub IsHeldMore : World → ℕ → Type 0
IsHeldMore w m = 1 < (mutex_at w m).count

-- m is held less often than it may be, or as often
abbrev pub MayBeHeldMore : World → ℕ → Type 0
MayBeHeldMore w m = (mutex_at w m).count < most_holds

abbrev pub IsHeldMost : World → ℕ → Type 0
IsHeldMost w m = (mutex_at w m).count ≡ most_holds

-- m is stalled, or robust; robust and owned by t, or not owned by t; and t owns no robust mutex
abbrev pub IsStalled : World → ℕ → Type 0
IsStalled w m = (mutex_at w m).robust ≡ false

abbrev pub IsNotStalled : World → ℕ → Type 0
IsNotStalled w m = (mutex_at w m).robust ≡ true

abbrev pub OwnsRobust : World → ℕ → ℕ → Type 0
OwnsRobust w t m = IsNotStalled w m × IsOwner w t m

abbrev pub OwnsNotRobust : World → ℕ → ℕ → Type 0
OwnsNotRobust w t m = IsNotStalled w m × IsNotOwner w t m

abbrev pub OwnsNoneRobust : World → ℕ → Type 0
OwnsNoneRobust w t = (m : ℕ) → IsOwner w t m → IsStalled w m

-- m is Inconsistent, or Fine or Unusable
abbrev pub IsInconsistent : World → ℕ → Type 0
IsInconsistent w m = (mutex_at w m).health ≡ Inconsistent

abbrev pub IsNotInconsistent : World → ℕ → Type 0
IsNotInconsistent w m = (mutex_at w m).health ≢ Inconsistent

-- t doesn't own m, or no lock by the owner counts
abbrev pub MayNotRelock : World → ℕ → ℕ → Type 0
MayNotRelock w t m = IsOwner w t m → relock_of (mutex_at w m).kind ≢ Counts

-- c was used as often as it may be, or less often
abbrev pub IsUsedUp : World → ℕ → Type 0
IsUsedUp w c = (variable_at w c).uses ≡ w.signals

abbrev pub IsNotUsedUp : World → ℕ → Type 0
IsNotUsedUp w c = (variable_at w c).uses ≢ w.signals

-- c is bound to m, or to another mutex
abbrev pub IsBoundTo : World → ℕ → ℕ → Type 0
IsBoundTo w c m = (variable_at w c).mutex ≡ m

abbrev pub IsBoundElsewhere : World → ℕ → ℕ → Type 0
IsBoundElsewhere w c m = (variable_at w c).mutex ≢ m

-- p is a priority, or isn't
abbrev pub IsPriority : ℕ → Type 0
IsPriority p = is_priority p ≡ true

abbrev pub IsNoPriority : ℕ → Type 0
IsNoPriority p = is_priority p ≡ false

-- t lives, or doesn't
abbrev pub Lives : World → ℕ → Type 0
Lives w t = is_living w t ≡ true

abbrev pub LivesNot : World → ℕ → Type 0
LivesNot w t = is_living w t ≡ false

-- t rests, or doesn't
abbrev pub IsResting : World → ℕ → Type 0
IsResting w t = rests w t ≡ true

abbrev pub IsNotResting : World → ℕ → Type 0
IsNotResting w t = rests w t ≡ false

-- u is blocked on c, and so are all of these threads
abbrev pub IsBlocked : World → ℕ → ℕ → Type 0
IsBlocked w c u = is_blocked_on w c u ≡ true

abbrev pub AreBlocked : World → ℕ → List ℕ → Type 0
AreBlocked w c us = (u : ℕ) → list_any (λ x. x == u) us ≡ true → IsBlocked w c u

-- of those that were blocked on c when t's signal or broadcast of c began, and still are by the same wait: none has a
-- greater effective priority than u; none is left; all are among these threads
abbrev pub NoneFoundIsAbove : World → (t c u : ℕ) → Type 0
NoneFoundIsAbove w t c u = (b : ℕ) → is_still_blocked w t c b ≡ true → effective_of w b ≤ effective_of w u

abbrev pub NoneFoundIsLeft : World → (t c : ℕ) → Type 0
NoneFoundIsLeft w t c = (b : ℕ) → is_still_blocked w t c b ≡ false

abbrev pub AllFoundAreAmong : World → (t c : ℕ) → List ℕ → Type 0
AllFoundAreAmong w t c us = (b : ℕ) → is_still_blocked w t c b ≡ true → list_any (λ x. x == b) us ≡ true

-- from w to v t's call has come this far, and nothing else has changed
abbrev pub Comes : ℕ → Progress → World → World → Type 0
Comes t p w v = v ≡ with_progress t p w

-- from w to v t's call has come to this result, and nothing else has changed
abbrev pub HasResult : ℕ → ℕ → World → World → Type 0
HasResult t a w v = Comes t (Has a) w v

-- t at the end of the waiters, for m
abbrev pub with_waiter : ℕ → ℕ → World → World
with_waiter t m w = record w { waiters = w.waiters ++ (t, m) ∷ [] }

-- t not among the waiters
abbrev pub without_waiter : ℕ → World → World
without_waiter t w = record w { waiters = without w.waiters t }

-- m owned by nobody, which holds it once
abbrev pub with_no_owner : ℕ → World → World
with_no_owner m w = with_mutex m (record (mutex_at w m) { owner = 0; count = 1 }) w

-- EFFECTS

-- what taking a mutex leads to, by its health: 0; EOWNERDEAD (pthread_mutex_lock: the lock is acquired, and it is up to
-- the new owner to make the state consistent); or leaving, since nobody locks an Unusable mutex (ENOTRECOVERABLE)
abbrev pub on_taking : Health → Progress
on_taking Fine = Has 0
on_taking Inconsistent = Has EOWNERDEAD
on_taking Unusable = Leaving

-- t takes m: it owns m with count 1, also after an owner that held it more often when it ended (this project's choice)
abbrev pub taken : ℕ → ℕ → World → World
taken t m w =
    with_progress t (on_taking (mutex_at w m).health) (with_mutex m (record (mutex_at w m) { owner = t; count = 1 }) w)

-- what m protects is in this state of health
abbrev pub with_health : ℕ → Health → World → World
with_health m x w = with_mutex m (record (mutex_at w m) { health = x }) w

-- m is held this often by its owner
abbrev pub with_hold_count : ℕ → ℕ → World → World
with_hold_count m n w = with_mutex m (record (mutex_at w m) { count = n }) w

-- m is held once more, or once less, by its owner
abbrev pub with_one_hold_more : ℕ → World → World
with_one_hold_more m w = with_hold_count m ((mutex_at w m).count + 1) w

abbrev pub with_one_hold_less : ℕ → World → World
with_one_hold_less m w = with_hold_count m ((mutex_at w m).count - 1) w

-- the owner t of a RECURSIVE mutex m locks it again, by lock or trylock
pub data LocksAgain (t m : ℕ) (w v : World) : Type 0 where
  -- it holds m once more (pthread_mutex_lock: the lock count is incremented by one)
  rises : MayBeHeldMore w m → HasResult t 0 (with_one_hold_more m w) v → LocksAgain t m w v
  -- it holds m as often as it may: EAGAIN (pthread_mutex_lock: the maximum number of recursive locks has been exceeded;
  -- that it is 255 is this project's choice)
  at_limit : IsHeldMost w m → HasResult t EAGAIN w v → LocksAgain t m w v

-- the mutex that a request names; 0 if it names none
abbrev pub named_by : Request → ℕ
named_by q = unwrap_or (names_of q).mutex 0

-- whether a request signals or broadcasts a variable
abbrev pub is_use : Request → Bool
is_use q = is_some (uses (shape_of q))

-- pthread_mutex_lock by t on m, if no effect has happened yet; or the lock by which a wait of t reacquires m
pub data Locks (t m : ℕ) (w v : World) : Type 0 where
  -- the owner locks it again, and stops (NORMAL): it waits for good (pthread_mutex_lock, table of relocking: deadlock)
  own_normal : IsOwner w t m → Relocks w m Deadlocks → Comes t Stuck w v → Locks t m w v
  -- the owner locks it again, and is answered (ERRORCHECK): EDEADLK (the same table: an error is returned)
  own_errorcheck : IsOwner w t m → Relocks w m Answers → HasResult t EDEADLK w v → Locks t m w v
  -- the owner locks it again, and that counts (RECURSIVE; the same table: recursive)
  own_recursive : IsOwner w t m → Relocks w m Counts → LocksAgain t m w v → Locks t m w v
  -- nobody owns it: t takes it (pthread_mutex_lock: it returns with the mutex locked and the caller as its owner)
  free : IsNotOwner w t m → IsFree w m → v ≡ taken t m w → Locks t m w v
  -- it is orphaned: t waits for good (pthread_mutexattr_setrobust, PTHREAD_MUTEX_STALLED: this can lead to deadlocks)
  orphaned : IsOrphanedByAnother w t m → Comes t Stuck w v → Locks t m w v
  -- its owner waits for t through some chain: EDEADLK (pthread_mutex_lock may report that a deadlock was detected; that
  -- it always does, for every kind, is this project's choice)
  cycle : IsHeldByAnother w t m → ClosesCycle w t m → HasResult t EDEADLK w v → Locks t m w v
  -- else t joins the end of its waiters (pthread_mutex_lock: the caller blocks until the mutex becomes available)
  joins : IsHeldByAnother w t m → ClosesNoCycle w t m → Comes t Waiting (with_waiter t m w) v → Locks t m w v

-- pthread_mutex_trylock by t on m, if no effect has happened yet
pub data TriesToLock (t m : ℕ) (w v : World) : Type 0 where
  -- the owner locks it again, and that counts (pthread_mutex_trylock: the lock count is incremented, and it succeeds)
  own_recursive : IsOwner w t m → Relocks w m Counts → LocksAgain t m w v → TriesToLock t m w v
  -- it is owned otherwise, or orphaned: EBUSY (pthread_mutex_trylock: it was already locked, by any thread)
  busy : IsOwned w m → MayNotRelock w t m → HasResult t EBUSY w v → TriesToLock t m w v
  -- nobody owns it: t takes it (pthread_mutex_trylock: as pthread_mutex_lock, but for a mutex that is locked)
  free : IsFree w m → v ≡ taken t m w → TriesToLock t m w v

-- m passes on: to nobody, which holds it once, or to its next waiter, which takes it (pthread_mutex_unlock: if threads
-- are blocked on it, the scheduling policy determines which acquires it)
pub data Passes (m : ℕ) (w v : World) : Type 0 where
  to_nobody : next_of w m ≡ 0 → v ≡ with_no_owner m w → Passes m w v
  to_next : (u : ℕ) → next_of w m ≡ u → u ≢ 0 → v ≡ taken u m (without_waiter u w) → Passes m w v

-- pthread_mutex_unlock by t on m, if no effect has happened yet
pub data Unlocks (t m : ℕ) (w v : World) : Type 0 where
  -- t isn't the owner: EPERM (pthread_mutex_unlock, for ERRORCHECK, RECURSIVE and robust mutexes; for a stalled NORMAL
  -- one POSIX leaves it undefined, and this is this project's choice)
  not_owner : IsNotOwner w t m → HasResult t EPERM w v → Unlocks t m w v
  -- the owner holds it more than once: it holds it once less, and the result is 0 (pthread_mutex_lock: each time a
  -- RECURSIVE mutex is unlocked the lock count is decremented by one)
  falls : IsOwner w t m → IsHeldMore w m → HasResult t 0 (with_one_hold_less m w) v → Unlocks t m w v
  -- the owner, who holds it once, gives it up Inconsistent: it becomes Unusable, and the unlock goes on from there
  -- (pthread_mutex_consistent: unlocked without having been made consistent it is permanently unusable)
  becomes_unusable : IsOwner w t m → IsHeldOnce w m → IsInconsistent w m
      → v ≡ with_health m Unusable w → Unlocks t m w v
  -- the owner, who holds it once, gives it up otherwise: it passes on, and the result is 0 (pthread_mutex_unlock)
  released : IsOwner w t m → IsHeldOnce w m → IsNotInconsistent w m
      → Passes m (with_progress t (Has 0) w) v → Unlocks t m w v

-- pthread_mutex_consistent by t on m, if no effect has happened yet
pub data MakesConsistent (t m : ℕ) (w v : World) : Type 0 where
  -- it isn't robust: EINVAL (pthread_mutex_consistent: not robust, or doesn't protect an inconsistent state)
  not_robust : IsStalled w m → HasResult t EINVAL w v → MakesConsistent t m w v
  -- t isn't the owner: EPERM (this project's choice, as is its place between the two others; POSIX names no error)
  not_owner : OwnsNotRobust w t m → HasResult t EPERM w v → MakesConsistent t m w v
  -- it isn't Inconsistent: EINVAL (the same sentence)
  not_inconsistent : OwnsRobust w t m → IsNotInconsistent w m → HasResult t EINVAL w v → MakesConsistent t m w v
  -- it is Fine from now on (pthread_mutex_consistent: the state is marked consistent, and is used as before)
  made_fine : OwnsRobust w t m → IsInconsistent w m → HasResult t 0 (with_health m Fine w) v → MakesConsistent t m w v

-- t with this base priority
abbrev pub with_base : ℕ → ℕ → World → World
with_base t p w = with_thread t (record (thread_at w t) { base = p }) w

-- pthread_setschedprio by t, of the priority p for u, if no effect has happened yet
pub data SetsPriority (t u p : ℕ) (w v : World) : Type 0 where
  -- p is no priority: EINVAL (pthread_setschedprio: invalid for the scheduling policy of the thread, here SCHED_FIFO's
  -- 1 to 99)
  no_priority : IsNoPriority p → HasResult t EINVAL w v → SetsPriority t u p w v
  -- u is not living: ESRCH (pthread_setschedprio recommends it for an ID after the end of its thread's lifetime; that
  -- it comes behind EINVAL is this project's choice)
  not_living : IsPriority p → LivesNot w u → HasResult t ESRCH w v → SetsPriority t u p w v
  -- u's base priority is p; who waits for what, and since when, stays (pthread_setschedprio; the last is this project's
  -- choice)
  changed : IsPriority p → Lives w u → HasResult t 0 (with_base u p w) v → SetsPriority t u p w v

-- pthread_cond_wait by t on c with m, if no effect has happened yet
pub data ChecksWait (t c m : ℕ) (w v : World) : Type 0 where
  -- c is bound to another mutex: EINVAL (pthread_cond_wait leaves other mutexes than the bound one undefined; the
  -- error, and that a variable is bound when it is added and stays so, are this project's choice)
  other_mutex : IsBoundElsewhere w c m → HasResult t EINVAL w v → ChecksWait t c m w v
  -- t isn't the owner: EPERM (pthread_cond_wait, for ERRORCHECK and robust mutexes; for the others this project's
  -- choice)
  not_owner : IsBoundTo w c m → IsNotOwner w t m → HasResult t EPERM w v → ChecksWait t c m w v
  -- the owner holds it more than once: EINVAL (this project's choice; POSIX advises against waiting with a RECURSIVE
  -- one)
  held_more : IsBoundTo w c m → IsOwner w t m → IsHeldMore w m → HasResult t EINVAL w v → ChecksWait t c m w v
  -- the owner holds it once (pthread_cond_wait: it is called with the mutex locked by the calling thread)
  checked : IsBoundTo w c m → IsOwner w t m → IsHeldOnce w m → Comes t Checked w v → ChecksWait t c m w v

-- how far a wait has come once it has given the mutex up, by whether it is blocked still
abbrev pub on_release : Bool → Progress
on_release still = if still then Blocked false else Reacquiring

-- a wait of t, which has joined the blocked threads, gives m up (pthread_cond_wait: it releases the mutex and blocks,
-- atomically with respect to another thread that takes the mutex and then uses the variable)
pub data GivesUp (t m : ℕ) (still : Bool) (w v : World) : Type 0 where
  -- an Inconsistent mutex becomes Unusable first, and the wait goes on from there (pthread_mutex_consistent, as for an
  -- unlock)
  becomes_unusable : IsOwner w t m → IsInconsistent w m → v ≡ with_health m Unusable w → GivesUp t m still w v
  -- another passes on
  released : IsOwner w t m → IsNotInconsistent w m
      → Passes m (with_progress t (on_release still) w) v → GivesUp t m still w v

-- how far a blocked call has come once it is unblocked
abbrev pub on_unblocking : Progress → Progress
on_unblocking (Enlisted still) = Enlisted false
on_unblocking (Blocked noted) = Reacquiring
on_unblocking p = p

-- an open call once it is unblocked
abbrev pub after_unblocking : Option Call → Option Call
after_unblocking None = None
after_unblocking (Some x) = Some (record x { progress = on_unblocking x.progress })

-- whether an open call is blocked on c and was not answered Waits yet
abbrev pub is_newly_blocked : ℕ → Option Call → Bool
is_newly_blocked c None = false
is_newly_blocked c (Some x) = if is_idle x.progress then false else is_call_blocked c (Some x)

-- a thread once c is used: a wait on c that was not answered Waits yet is unblocked
abbrev pub after_use : ℕ → Thread → Thread
after_use c x = if is_newly_blocked c x.call then record x { call = after_unblocking x.call } else x

-- c is used once more
abbrev pub used : ℕ → World → World
used c w = record w {
  threads = map (after_use c) w.threads;
  variables = set w.variables c (record (variable_at w c) { uses = (variable_at w c).uses + 1 });
}

-- pthread_cond_signal or pthread_cond_broadcast by t on c, if no effect has happened yet
pub data Uses (t c : ℕ) (w v : World) : Type 0 where
  -- c was used as often as it may be: EOVERFLOW (this project's choice; POSIX knows no such limit)
  at_limit : IsUsedUp w c → HasResult t EOVERFLOW w v → Uses t c w v
  -- it is used once more, and each thread that is blocked on it and was not answered Waits yet is unblocked
  -- (pthread_cond_wait: spurious wakeups may occur; that a use wakes all of these is this project's choice)
  counts : IsNotUsedUp w c → Comes t Used (used c w) v → Uses t c w v

-- each of these threads is unblocked
unfoldable pub all_unblocked : List ℕ → World → World
all_unblocked [] w = w
all_unblocked (u ∷ us) w = all_unblocked us (with_call_by u after_unblocking w)

-- a signal or a broadcast by t, which has used its variable, chooses whom it wakes, and the result is 0 (POSIX,
-- pthread_cond_signal: at least one of the threads that are blocked; pthread_cond_broadcast: all of them)
pub data Chooses (t : ℕ) (q : Request) (w v : World) : Type 0 where
  -- a signal wakes one thread that is blocked (POSIX allows for more; that it is just one, and one of greatest
  -- effective priority, is this project's choice), if none of those that were blocked when the signal began, and
  -- still are by the same wait, has a greater effective priority
  one : (c u : ℕ) → q ≡ Signal c → IsBlocked w c u → NoneFoundIsAbove w t c u
      → v ≡ with_call_by u after_unblocking (with_progress t (Has 0) w) → Chooses t q w v
  -- or nobody, if none of those is left (pthread_cond_signal: no effect if no threads are blocked; that a thread which
  -- blocked later need not be woken is this project's choice)
  no_one : (c : ℕ) → q ≡ Signal c → NoneFoundIsLeft w t c → HasResult t 0 w v → Chooses t q w v
  -- a broadcast wakes some threads that are blocked, among which are all that were blocked when the broadcast began and
  -- still are by the same wait (pthread_cond_broadcast: it unblocks all threads that are blocked; that it may also wake
  -- threads that blocked later is this project's choice, as spurious wakeups may occur)
  all : (c : ℕ) (us : List ℕ) → q ≡ Broadcast c → AreBlocked w c us → AllFoundAreAmong w t c us
      → v ≡ all_unblocked us (with_progress t (Has 0) w) → Chooses t q w v

-- one effect of t's open call
pub data Effect (t : ℕ) (w v : World) : Type 0 where
  lock : (m : ℕ) → IsCalling w t (Lock m) → Locks t m w v → Effect t w v
  try_lock : (m : ℕ) → IsCalling w t (TryLock m) → TriesToLock t m w v → Effect t w v
  unlock : (m : ℕ) → IsCalling w t (Unlock m) → Unlocks t m w v → Effect t w v
  consistent : (m : ℕ) → IsCalling w t (Consistent m) → MakesConsistent t m w v → Effect t w v
  set_prio : (u p : ℕ) → IsCalling w t (SetPrio u p) → SetsPriority t u p w v → Effect t w v
  check_wait : (c m : ℕ) → IsCalling w t (Wait c m) → ChecksWait t c m w v → Effect t w v
  -- a wait joins the blocked threads of its variable; it still owns the mutex (pthread_cond_wait: who takes the mutex
  -- after the wait released it finds the thread blocked; that it is so before it releases is this project's choice)
  enlist : (c m : ℕ) → HasCome w t (Wait c m) Checked → Comes t (Enlisted true) w v → Effect t w v
  give_up : (c m : ℕ) (still : Bool) → HasCome w t (Wait c m) (Enlisted still) → GivesUp t m still w v → Effect t w v
  -- a wait that was unblocked locks its mutex (pthread_cond_wait: on return the calling thread has locked it)
  lock_again : (c m : ℕ) → HasCome w t (Wait c m) Reacquiring → Locks t m w v → Effect t w v
  -- a signal or a broadcast uses its variable, and then chooses whom it wakes
  use_variable : (q : Request) → IsCalling w t q → is_use q ≡ true → Uses t (variable_of q) w v → Effect t w v
  choose : (q : Request) → HasCome w t q Used → Chooses t q w v → Effect t w v
  -- a call that took an Unusable mutex gives it up again: ENOTRECOVERABLE (pthread_mutex_lock: the state is not
  -- recoverable; that the thread owns the mutex until then is this project's choice)
  leave : (q : Request) → HasCome w t q Leaving
      → Passes (named_by q) (with_progress t (Has ENOTRECOVERABLE) w) v → Effect t w v

-- some effects of t's open call in order, or none, from the state `first` on. A thread that one of them unblocks may
-- also do the lock that it must do again
pub data Effects (t : ℕ) (first : World) : World → World → Type 0 where
  none : {w v : World} → v ≡ w → Effects t first w v
  then : {w u v : World} → Effect t w u → Effects t first u v → Effects t first w v
  -- b, which was blocked in the first state and must reacquire its mutex now, locks it (pthread_cond_signal: an
  -- unblocked thread contends for the mutex as if it had called pthread_mutex_lock; that it may do so at the Go that
  -- unblocks it is this project's choice)
  owed : {w u v : World} (b c m : ℕ) → IsBlocked first c b → HasCome w b (Wait c m) Reacquiring → Locks b m w u
      → Effects t first u v → Effects t first w v

-- DEADLINES

-- whether a call that has come this far has a deadline that counts, if it has one. A lock: while its thread is among
-- the waiters or waits for good (pthread_mutex_timedlock: the wait for another thread's unlock ends, and there is no
-- timeout if the mutex can be locked at once; that waiting for good ends too is this project's choice). A wait: while
-- it is blocked, from when it was answered Waits on (pthread_cond_timedwait: the time passes before the variable is
-- signaled or broadcast; that it counts only once its thread was told to wait is this project's choice)
abbrev pub counts_now : Request → Progress → Bool
counts_now (Lock m) Waiting = true
counts_now (Lock m) Stuck = true
counts_now (Wait c m) (Blocked noted) = noted
counts_now _ _ = false

-- whether the deadline of an open call counts
abbrev pub is_counting : Option Call → Bool
is_counting None = false
is_counting (Some x) = counts_now x.request x.progress

-- whether t's open call is due: its deadline counts, and is reached
abbrev pub is_due : World → ℕ → Bool
is_due w t = if is_reached (thread_at w t).timer.deadline w.time then is_counting (thread_at w t).call else false

-- t's call has run out of time
abbrev pub after_timeout : ℕ → World → World
after_timeout t w = with_thread t (record (thread_at w t) { timer = ran_out (thread_at w t).timer }) w

-- t's open call, which is due, expires
pub data Expires (t : ℕ) (w v : World) : Type 0 where
  -- a lock leaves the waiters, or waits for good no more, and its result is ETIMEDOUT (pthread_mutex_timedlock)
  lock : (m : ℕ) (p : Progress) → HasCome w t (Lock m) p → HasResult t ETIMEDOUT (without_waiter t w) v → Expires t w v
  -- a wait is blocked no more, and must reacquire its mutex; it has run out of time (pthread_cond_timedwait)
  wait : (c m : ℕ) (p : Progress) → HasCome w t (Wait c m) p → Comes t Reacquiring (after_timeout t w) v → Expires t w v

-- what t's open call does at a Go, from w to u: one that is due expires, and does nothing else; another has some
-- effects in order, or none (POSIX gives a call no steps: that an expiry comes at the next Go of its own thread, and
-- alone, is this project's choice)
pub data Moves (t : ℕ) (w u : World) : Type 0 where
  expires : is_due w t ≡ true → Expires t w u → Moves t w u
  acts : is_due w t ≡ false → Effects t w w u → Moves t w u

-- the threads below n that are blocked on c, each with the number of its wait
unfoldable pub blocked_below : World → ℕ → ℕ → List (ℕ × ℕ)
blocked_below w c zero = []
blocked_below w c (suc n) =
    if is_blocked_on w c n then (n, (thread_at w n).memory.waits) ∷ blocked_below w c n else blocked_below w c n

-- what is remembered of a thread once a call of this shape begins: a wait has the next number; a signal or broadcast
-- finds those that are blocked on its variable
abbrev pub memory_by : World → Shape → Memory → Memory
memory_by w (Awaits c m d) x = record x { waits = x.waits + 1 }
memory_by w (Wakes r c) x = record x { found = blocked_below w c (length w.threads) }
memory_by w _ x = x

abbrev pub begun_memory : World → Request → Memory → Memory
begun_memory w q x = memory_by w (shape_of q) x

-- a thread that begins this call: a timed one is its plain request, with a timer
abbrev pub begun_thread : World → Request → Thread → Thread
begun_thread w q x = record x {
  call = Some (record { request = plain q; progress = Fresh });
  timer = timer_of q;
  memory = begun_memory w (plain q) x.memory;
}

-- a call that was answered Waits: if it is blocked, it is noted
abbrev pub after_waits : Option Call → Option Call
after_waits None = None
after_waits (Some x) = Some (record x { progress = elim x.progress [ Blocked b ↦ Blocked true | p ↦ p ] })

-- no open call any more
abbrev pub without_call : Option Call → Option Call
without_call x = None

-- THE END OF A THREAD

-- t has ended: its call is gone, so that it is blocked no more, and it has left the waiters
abbrev pub after_end : ℕ → World → World
after_end t w = record (with_thread t (record (thread_at w t) { living = false; call = None }) w) {
  waiters = without w.waiters t;
}

-- the health of a mutex once its owner has ended: Inconsistent, unless it was given up for good
abbrev pub on_death : Health → Health
on_death Fine = Inconsistent
on_death Inconsistent = Inconsistent
on_death Unusable = Unusable

-- m once its owner has ended
abbrev pub after_owner_death : ℕ → World → World
after_owner_death m w = with_health m (on_death (mutex_at w m).health) w

-- the robust mutexes that t owned pass on, one after another in any order, until it owns none (POSIX,
-- pthread_mutexattr_setrobust; futex(2), robust futexes). A stalled one keeps its owner
pub data Releases (t : ℕ) : World → World → Type 0 where
  none_left : {w v : World} → OwnsNoneRobust w t → v ≡ w → Releases t w v
  one_more : {w u v : World} (m : ℕ) → IsOwner w t m → IsNotStalled w m → Passes m (after_owner_death m w) u
      → Releases t u v → Releases t w v

-- ONE ENTRY OF A HISTORY

-- whether a mutex and a variable are known, each if there is one
abbrev pub are_known : (ℕ → Bool) → (ℕ → Bool) → Option ℕ → Option ℕ → Bool
are_known mutex variable (Some m) (Some c) = if variable c then mutex m else false
are_known mutex variable (Some m) None = mutex m
are_known mutex variable None (Some c) = variable c
are_known mutex variable None None = true

-- whether the mutex and the variable that a request names are known, as far as it names any
abbrev pub names_known : (ℕ → Bool) → (ℕ → Bool) → Request → Bool
names_known mutex variable q = are_known mutex variable (names_of q).mutex (names_of q).cond

-- why an event is refused, if it is
abbrev pub refusal_of : World → Event → Option Refusal
refusal_of w (Begin t q) =
    begin_refused (is_thread w t) (is_living w t) (is_some (thread_at w t).call)
    (names_known (is_mutex w) (is_variable w) q)
refusal_of w (Go t) = go_refused (is_thread w t) (is_living w t) (is_some (thread_at w t).call)
refusal_of w (End t) = end_refused (is_thread w t) (is_living w t)
refusal_of w (Tick n) = tick_refused w.time n

-- an event is refused for this reason, or isn't refused
abbrev pub IsRefused : World → Event → Refusal → Type 0
IsRefused w x r = refusal_of w x ≡ Some r

abbrev pub IsAllowed : World → Event → Type 0
IsAllowed w x = refusal_of w x ≡ None

-- a Go of t from w to u: it is not refused, and t's open call expires or has some effects
pub record Goes (t : ℕ) (w u : World) : Type 0 where
  pub allowed : IsAllowed w (Go t)
  pub moves : Moves t w u

-- t ends: it leaves all, and then its robust mutexes pass on (pthread_mutexattr_setrobust, PTHREAD_MUTEX_ROBUST: the
-- next owner is notified that the owner ended; that leaving comes first, and that all of it happens at one moment, is
-- this project's choice)
pub record Ends (t : ℕ) (w v : World) : Type 0 where
  pub allowed : IsAllowed w (End t)
  pub releases : Releases t (after_end t w) v

-- a new thread of this base priority, with no call open
abbrev pub new_thread : ℕ → Thread
new_thread p = record { base = p; living = true; call = None; timer = no_timer; memory = no_memory }

-- a new mutex that nobody owns, and a new variable
abbrev pub new_mutex : Kind → Bool → Mutex
new_mutex k r = record { kind = k; robust = r; owner = 0; count = 1; health = Fine }

abbrev pub new_variable : ℕ → Variable
new_variable m = record { mutex = m; uses = 0 }

-- one entry of a history, from w to v, under the limits l. (POSIX speaks of calls alone. That threads, mutexes and
-- variables are numbered and limited, that a call goes on by events of its thread, what each event is answered, and
-- which events are refused, is this project's choice; what a call does in between is told above)
pub data Step (l : Bounds) (w : World) (e : Entry) (v : World) : Type 0 where
  -- the next number, within the limit, and a priority within 1 to 99
  thread_added : (t p : ℕ) → e ≡ AddThread t p → t ≡ length w.threads → t ≤ l.threads → 1 ≤ p → p ≤ 99
      → v ≡ record w { threads = w.threads ++ new_thread p ∷ [] } → Step l w e v
  -- the next number, within the limit
  mutex_added : (m : ℕ) (k : Kind) (r : Bool) → e ≡ AddMutex m k r → m ≡ length w.mutexes → m ≤ l.mutexes
      → v ≡ record w { mutexes = w.mutexes ++ new_mutex k r ∷ [] } → Step l w e v
  -- the next number, within the limit, bound to a mutex that exists
  cond_added : (c m : ℕ) → e ≡ AddCond c m → is_mutex w m ≡ true → c ≡ length w.variables → c ≤ l.conds
      → v ≡ record w { variables = w.variables ++ new_variable m ∷ [] } → Step l w e v
  -- a refused event changes nothing
  refused : (x : Event) (r : Refusal) → e ≡ Happened x (Refused r) → IsRefused w x r → v ≡ w → Step l w e v
  -- the call is open
  begun : (t : ℕ) (q : Request) → e ≡ Happened (Begin t q) Begun → IsAllowed w (Begin t q)
      → v ≡ with_thread t (begun_thread w q (thread_at w t)) w → Step l w e v
  -- the call goes on, and its thread doesn't rest (this project's choice: POSIX gives a call no steps)
  went : (t : ℕ) → e ≡ Happened (Go t) Went → Goes t w v → IsNotResting v t → Step l w e v
  -- its thread rests: it waits for a mutex or a variable, or for good (pthread_mutex_lock and pthread_cond_wait: the
  -- calling thread blocks; that it is told so is this project's choice)
  waits : (t : ℕ) (u : World) → e ≡ Happened (Go t) Waits → Goes t w u → v ≡ with_call_by t after_waits u
      → IsResting v t → Step l w e v
  -- the call has this result and closes, and its thread doesn't rest (each page: it returns zero, or an error number).
  -- A wait that ran out of time is answered ETIMEDOUT in place of 0 (pthread_cond_timedwait: an error is returned if
  -- the time passes; that other errors come before it is this project's choice)
  answered : (t a : ℕ) (q : Request) (u : World)
      → e ≡ Happened (Go t) (Answered (reported_result q (thread_at w t).timer.expired a)) → Goes t w u → HasCome u t q (Has a)
      → v ≡ with_call_by t without_call u → IsNotResting v t → Step l w e v
  -- its thread has ended
  ended : (t : ℕ) → e ≡ Happened (End t) Ended → Ends t w v → Step l w e v
  -- the time is the one that was handed in
  ticked : (n : ℕ) → e ≡ Happened (Tick n) Ticked → IsAllowed w (Tick n) → v ≡ record w { time = n }
      → Step l w e v

-- A run: the entries of a history, newest first, the states before each of them, newest first, and the last state.
pub data IsRun (l : Bounds) : List Entry → List World → World → Type 0 where
  start : {w : World} → w ≡ empty_world l.signals → IsRun l [] [] w
  next : {h : List Entry} {r : List World} {e : Entry} {w v : World} → IsRun l h r w → Step l w e v → IsRun l (e ∷ h) (w ∷ r) v

-- a history, newest entry first, is legal: some run from the empty state gives it, entry by entry
pub record IsLegal (l : Bounds) (h : List Entry) : Type 0 where
  pub states : List World
  pub last : World
  pub run : IsRun l h states last
