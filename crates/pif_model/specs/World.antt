-- The state of the POSIX machine: its threads, mutexes and condition variables, how far each call has come, who waits
-- for whom, and who is blocked. `Posix.antt` has the rules.
use Rattle.std.specs.Prelude.{ℕ, ◌≡◌, ◌≢◌, Bool, true, false, ◌==◌, nat_lt, List, [], ◌∷◌, length, get_or, set, Option, Some, None, unwrap_or, if◌then◌else◌}
use Rattle.std.specs.List.{list_any}
use Rattle.pif_types.specs.declared.requests.Kind.{Kind}
use Rattle.pif_types.specs.declared.requests.Kind.TheVariants.{Normal}
use Rattle.pif_types.specs.declared.requests.Request.{Request}
use Rattle.pif_types.specs.Shapes.{names_of}
use Rattle.pif_model.specs.Graph.{effective_among, next_waiter, reaches_within, waited_by}
use Rattle.pif_model.specs.declared.lines.Timer.{Timer}
use Rattle.pif_model.specs.Deadlines.{no_timer}

-- what a robust mutex protects is in order, may be in disorder since an owner ended, or was given up for good
pub data Health : Type 0 where
  Fine Inconsistent Unusable : Health

-- how far an open call has come
pub data Progress : Type 0 where
  -- it has had no effect yet
  Fresh : Progress
  -- its thread is among the waiters of a mutex
  Waiting : Progress
  -- its thread waits for good
  Stuck : Progress
  -- it owns an Unusable mutex and has to give it up
  Leaving : Progress
  -- it has this result
  Has : ℕ → Progress
  -- a wait whose thread owns the mutex and holds it once
  Checked : Progress
  -- a wait that has joined the variable's blocked threads, whose thread owns the mutex yet. Is it blocked still?
  Enlisted : Bool → Progress
  -- a wait that has given the mutex up and is blocked. Was it answered Waits?
  Blocked : Bool → Progress
  -- a wait that has given the mutex up and is unblocked: it has to lock the mutex
  Reacquiring : Progress
  -- a signal or broadcast that has used the variable, and has to choose whom it wakes
  Used : Progress

-- an open call; its request is a plain one
pub record Call : Type 0 where
  pub request : Request
  pub progress : Progress

-- what tells the waits of a thread apart, and who was blocked when its signal or broadcast began
pub record Memory : Type 0 where
  -- how many waits it has begun
  pub waits : ℕ
  -- who was blocked on the variable when its last signal or broadcast began, each with the number of that wait
  pub found : List (ℕ × ℕ)

-- a thread
pub record Thread : Type 0 where
  -- its base priority
  pub base : ℕ
  -- it has not ended
  pub living : Bool
  pub call : Option Call
  -- what its last call has of its deadline
  pub timer : Timer
  pub memory : Memory

-- a mutex
pub record Mutex : Type 0 where
  pub kind : Kind
  pub robust : Bool
  -- the owner's number, also of an owner that ended; 0 if there is none
  pub owner : ℕ
  -- how often the owner holds it
  pub count : ℕ
  pub health : Health

-- a condition variable
pub record Variable : Type 0 where
  -- the mutex to which it is bound
  pub mutex : ℕ
  -- how often it was signalled or broadcast
  pub uses : ℕ

-- the state of the POSIX machine
pub record World : Type 0 where
  pub threads : List Thread
  pub mutexes : List Mutex
  pub variables : List Variable
  -- pairs of a waiting thread and the mutex for which it waits, in order of arrival
  pub waiters : List (ℕ × ℕ)
  -- how often a variable may be signalled or broadcast
  pub signals : ℕ
  -- the time that was handed in last, 0 at first
  pub time : ℕ

-- the memory of a thread that has begun no call
abbrev pub no_memory : Memory
no_memory = record { waits = 0; found = [] }

-- what stands at place 0 of the threads
abbrev pub nobody : Thread
nobody = record { base = 0; living = false; call = None; timer = no_timer; memory = no_memory }

-- what stands at place 0 of the mutexes
abbrev pub no_mutex : Mutex
no_mutex = record { kind = Normal; robust = false; owner = 0; count = 1; health = Fine }

-- what stands at place 0 of the variables
abbrev pub no_variable : Variable
no_variable = record { mutex = 0; uses = 0 }

-- the state in which nothing was added yet, of variables that may be used this often
abbrev pub empty_world : ℕ → World
empty_world n = record {
  threads = nobody ∷ [];
  mutexes = no_mutex ∷ [];
  variables = no_variable ∷ [];
  waiters = [];
  signals = n;
  time = 0;
}

abbrev pub thread_at : World → ℕ → Thread
thread_at w t = get_or w.threads t nobody

abbrev pub mutex_at : World → ℕ → Mutex
mutex_at w m = get_or w.mutexes m no_mutex

abbrev pub variable_at : World → ℕ → Variable
variable_at w c = get_or w.variables c no_variable

-- whether t was added
abbrev pub is_thread : World → ℕ → Bool
is_thread w t = if t == 0 then false else nat_lt t (length w.threads)

-- whether t lives: it was added and has not ended
abbrev pub is_living : World → ℕ → Bool
is_living w t = (thread_at w t).living

-- whether m was added
abbrev pub is_mutex : World → ℕ → Bool
is_mutex w m = if m == 0 then false else nat_lt m (length w.mutexes)

-- whether c was added
abbrev pub is_variable : World → ℕ → Bool
is_variable w c = if c == 0 then false else nat_lt c (length w.variables)

-- t as x
abbrev pub with_thread : ℕ → Thread → World → World
with_thread t x w = record w { threads = set w.threads t x }

-- m as x
abbrev pub with_mutex : ℕ → Mutex → World → World
with_mutex m x w = record w { mutexes = set w.mutexes m x }

-- t's call as this makes it
abbrev pub with_call_by : ℕ → (Option Call → Option Call) → World → World
with_call_by t f w = with_thread t (record (thread_at w t) { call = f (thread_at w t).call }) w

-- an open call that has come this far
abbrev pub at_progress : Progress → Option Call → Option Call
at_progress p None = None
at_progress p (Some c) = Some (record c { progress = p })

-- t's call has come this far
abbrev pub with_progress : ℕ → Progress → World → World
with_progress t p w = with_call_by t (at_progress p) w

-- WAITING AND PRIORITY

-- u waits for t: u is among the waiters of a mutex that t owns
pub record WaitsFor (w : World) (u t : ℕ) : Type 0 where
  pub mutex : ℕ
  pub among : list_any (λ p. if p.0 == u then p.1 == mutex else false) w.waiters ≡ true
  pub owned : (mutex_at w mutex).owner ≡ t
  pub somebody : t ≢ 0

-- the thread for which u waits; 0 if u waits for nobody
abbrev pub waits_for : World → ℕ → ℕ
waits_for w u = (mutex_at w (waited_by w.waiters u)).owner

-- the effective priority of t: the greatest base priority of t and of all that wait for it through any chain (POSIX,
-- PTHREAD_PRIO_INHERIT; RT-mutex design)
abbrev pub effective_of : World → ℕ → ℕ
effective_of w t = effective_among (length w.threads) (waits_for w) (λ u. (thread_at w u).base) t

-- the waiter that gets m next: the first in arrival among those of greatest effective priority; 0 if none waits
-- (pthread_mutex_unlock: the scheduling policy determines which thread acquires the mutex; under SCHED_FIFO that is one
-- of greatest priority. Who comes first among equals, by arrival and also after a change of priority, is this project's
-- choice)
abbrev pub next_of : World → ℕ → ℕ
next_of w m = next_waiter (effective_of w) w.waiters m

-- whether a chain of waiting leads from u to t
abbrev pub leads_to : World → ℕ → ℕ → Bool
leads_to w u t = reaches_within (length w.threads) (waits_for w) u t

-- whether m is orphaned: stalled, and its owner has ended (pthread_mutexattr_setrobust, PTHREAD_MUTEX_STALLED: no
-- special action is taken if the owner ends)
abbrev pub is_orphaned : World → ℕ → Bool
is_orphaned w m =
    if (mutex_at w m).robust then false
    else (if (mutex_at w m).owner == 0 then false
    else (if is_living w (mutex_at w m).owner then false else true))

-- whether a call that has come this far waits for good, or is blocked and was answered Waits
abbrev pub is_idle : Progress → Bool
is_idle Stuck = true
is_idle (Blocked noted) = noted
is_idle _ = false

-- whether an open call is so
abbrev pub sleeps : Option Call → Bool
sleeps None = false
sleeps (Some c) = is_idle c.progress

-- whether t rests: it is among the waiters of a mutex, its call waits for good, or it is blocked and was answered Waits
abbrev pub rests : World → ℕ → Bool
rests w t = if sleeps (thread_at w t).call then true else list_any (λ p. p.0 == t) w.waiters

-- BLOCKED THREADS

-- whether a call that has come this far is blocked
abbrev pub is_blocked : Progress → Bool
is_blocked (Enlisted still) = still
is_blocked (Blocked noted) = true
is_blocked _ = false

-- the variable that a request names; 0 if it names none
abbrev pub variable_of : Request → ℕ
variable_of q = unwrap_or (names_of q).cond 0

-- whether an open call is blocked on c
abbrev pub is_call_blocked : ℕ → Option Call → Bool
is_call_blocked c None = false
is_call_blocked c (Some x) = if is_blocked x.progress then variable_of x.request == c else false

-- whether u is blocked on c
abbrev pub is_blocked_on : World → ℕ → ℕ → Bool
is_blocked_on w c u = is_call_blocked c (thread_at w u).call

-- whether t's signal or broadcast found u blocked when it began, by the wait that is u's last
abbrev pub is_found : World → ℕ → ℕ → Bool
is_found w t u =
    list_any (λ p. if p.0 == u then p.1 == (thread_at w u).memory.waits else false) (thread_at w t).memory.found

-- whether t's signal or broadcast of c found u blocked when it began, and u still is, by the same wait
abbrev pub is_still_blocked : World → ℕ → ℕ → ℕ → Bool
is_still_blocked w t c u = if is_blocked_on w c u then is_found w t u else false
