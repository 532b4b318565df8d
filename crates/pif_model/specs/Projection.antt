-- What a table shows of the POSIX machine: the state that it stands for, with history variables for what no table can
-- tell.
use Rattle.std.specs.Prelude.{ℕ, zero, suc, ◌≡◌, ◌≢◌, ◌≤◌, Bool, true, false, ◌==◌, List, [], ◌∷◌, ◌++◌, length, get_or, map, Option, Some, None, if◌then◌else◌}
use Rattle.std.specs.List.{list_any}
use Rattle.pif_types.specs.declared.requests.Request.{Request}
use Rattle.pif_types.specs.declared.requests.Request.TheVariants.{Wait}
use Rattle.pif_model.specs.NamedNumbers.{EOWNERDEAD}
use Rattle.pif_model.specs.declared.lines.Line.{Line}
use Rattle.pif_model.specs.declared.lines.Line.TheVariants.{Idle, At}
use Rattle.pif_model.specs.declared.lines.Place.{Place}
use Rattle.pif_model.specs.declared.lines.Place.TheVariants.{Load, Exchange, CallKernel, StayQueued, Stop, StayStopped, Take, Link, Give, Clear, LoadUses, Park, StayParked, Wake}
use Rattle.pif_model.specs.declared.lines.TakeStep.{TakeStep}
use Rattle.pif_model.specs.declared.lines.TakeStep.TheVariants.{LoadWord, LoadHealth, StoreInconsistent, ClearDied}
use Rattle.pif_model.specs.declared.lines.Purpose.{Purpose}
use Rattle.pif_model.specs.declared.lines.Purpose.TheVariants.{ToUnlock, ToPark, ToLeave}
use Rattle.pif_model.specs.declared.lines.WakeStep.{WakeStep}
use Rattle.pif_model.specs.declared.lines.WakeStep.TheVariants.{ReadUses, CountUse, Requeue, ReadAgain}
use Rattle.pif_model.specs.declared.lines.Status.{Status}
use Rattle.pif_model.specs.declared.lines.Status.TheVariants.{Ready, Queued, Parked}
use Rattle.pif_model.specs.declared.lines.Woken.TheVariants.{Again as WokenAgain}
use Rattle.pif_model.specs.Word.{word_at, health_word_at}
use Rattle.pif_model.specs.PiKernel.{seat_at, is_parked, is_living}
use Rattle.pif_model.specs.Posix.{Health, Progress, Call, Memory, Thread, Mutex, Variable, World, no_memory, named_by, variable_of, is_call_blocked, on_taking, on_release}
use Rattle.pif_model.specs.World.Health.{Fine, Inconsistent, Unusable}
use Rattle.pif_model.specs.World.Progress.{Fresh, Waiting, Stuck, Leaving, Has, Checked, Enlisted, Blocked, Reacquiring, Used}
use Rattle.pif_model.specs.Table.{Table, bound_to, uses_of, status_at, line_at, timer_at, library_at}

-- THE PROJECTION: the state of the POSIX machine that a table shows

-- what the POSIX machine knows and the table doesn't: what it remembers of each thread
pub record HistoryVariables : Type 0 where
  pub memories : List Memory

-- the history variables of a table to which nothing was added
abbrev pub no_history_variables : HistoryVariables
no_history_variables = record { memories = no_memory ∷ [] }

-- what is remembered of t
abbrev pub memory_at : HistoryVariables → ℕ → Memory
memory_at x t = get_or x.memories t no_memory

-- the health that a health word and OWNER_DIED show
abbrev pub health_of : ℕ → Bool → Health
health_of h died = if h == 2 then Unusable else (if h == 1 then Inconsistent else (if died then Inconsistent else Fine))

-- how far a call of a request has come before it has locked: a wait must reacquire its mutex
abbrev pub before_lock : Request → Progress
before_lock (Wait c m) = Reacquiring
before_lock _ = Fresh

-- how far a wait that is parked, or was, has come, by its thread's status and by the health of its mutex
abbrev pub progress_parked : Status → Health → Progress
progress_parked (Parked c) h = Blocked true
progress_parked (Queued m) h = Waiting
progress_parked (Ready WokenAgain) h = Reacquiring
progress_parked (Ready w) h = on_taking h
progress_parked _ h = Stuck

-- how far a call has come that takes its mutex over, by the mutex's health
abbrev pub progress_taking : TakeStep → Health → Progress
progress_taking LoadWord h = on_taking h
progress_taking (LoadHealth died) h = on_taking h
progress_taking StoreInconsistent h = Has EOWNERDEAD
progress_taking ClearDied h = Has EOWNERDEAD

-- how far a call has come that gives its mutex up, by how often the variable that it names was used: until it is
-- parked, a wait is blocked while that is as it read
abbrev pub progress_giving : Purpose → ℕ → Progress
progress_giving ToUnlock n = Fresh
progress_giving (ToPark v) n = Enlisted (v == n)
progress_giving ToLeave n = Leaving

-- how far a signal or a broadcast has come
abbrev pub progress_waking : WakeStep → Progress
progress_waking ReadUses = Fresh
progress_waking (CountUse v) = Fresh
progress_waking (Requeue v) = Used
progress_waking ReadAgain = Used

-- how far a call of a request at this place has come, by its thread's status, by the health of the mutex that it names,
-- and by how often the variable that it names was used
abbrev pub progress_at : Request → Place → Status → Health → ℕ → Progress
progress_at q Exchange x h n = before_lock q
progress_at q CallKernel x h n = before_lock q
progress_at q StayQueued (Queued m) h n = Waiting
progress_at q StayQueued (Ready w) h n = on_taking h
progress_at q StayQueued _ h n = Stuck
progress_at q Stop x h n = before_lock q
progress_at q StayStopped x h n = Stuck
progress_at q (Take y) x h n = progress_taking y h
progress_at q (Link y a) x h n = Has a
progress_at q (Give y z) x h n = progress_giving z n
progress_at q (Clear f a) x h n = Has a
progress_at q LoadUses x h n = Checked
progress_at q (Park v) x h n = on_release (v == n)
progress_at q StayParked x h n = progress_parked x h
progress_at q (Wake y) x h n = progress_waking y
progress_at q _ x h n = Fresh

-- the open call at a line, by the health of each mutex and the uses of each variable
abbrev pub call_at : (ℕ → Health) → (ℕ → ℕ) → Line → Status → Option Call
call_at health uses Idle x = None
call_at health uses (At q p) x =
    Some (record { request = q; progress = progress_at q p x (health (named_by q)) (uses (variable_of q)) })

-- the health of m
abbrev pub health_at : Table → ℕ → Health
health_at s m = health_of (health_word_at s.words m) (word_at s.words m).died

-- the open call of t
abbrev pub call_shown : Table → ℕ → Option Call
call_shown s t = call_at (health_at s) (uses_of s) (line_at s t) (status_at s t)

-- the thread t
abbrev pub thread_shown : Table → HistoryVariables → ℕ → Thread
thread_shown s x t = record {
  base = (seat_at s.kernel t).base;
  living = is_living s.kernel t;
  call = call_shown s t;
  timer = timer_at s t;
  memory = memory_at x t;
}

-- the mutex m
abbrev pub mutex_shown : Table → ℕ → Mutex
mutex_shown s m = record {
  kind = (library_at s m).kind;
  robust = (library_at s m).robust;
  owner = (word_at s.words m).number;
  count = (library_at s m).count;
  health = health_at s m;
}

-- the variable c
abbrev pub variable_shown : Table → ℕ → Variable
variable_shown s c = record { mutex = bound_to s c; uses = uses_of s c }

-- the numbers below n
unfoldable pub places : ℕ → List ℕ
places zero = []
places (suc n) = places n ++ n ∷ []

-- the state of the POSIX machine that a table shows with its history variables
abbrev pub world_of : Table → HistoryVariables → World
world_of s x = record {
  threads = map (thread_shown s x) (places (length s.lines));
  mutexes = map (mutex_shown s) (places (length s.mutexes));
  variables = map (variable_shown s) (places (length s.conds));
  waiters = s.kernel.waiters;
  signals = s.limits.signals;
  time = s.time;
}

-- WHAT JOINS HISTORY VARIABLES TO THEIR TABLE

-- whether the signal or broadcast of t found u blocked when it began, by the wait that is u's last
abbrev pub is_remembered : HistoryVariables → ℕ → ℕ → Bool
is_remembered x t u =
    list_any (λ p. if p.0 == u then p.1 == (memory_at x u).waits else false) (memory_at x t).found

-- whether this is a wait
abbrev pub is_wait : Request → Bool
is_wait (Wait c m) = true
is_wait _ = false

-- whether a wait at this line has not joined the blocked threads of its variable yet
abbrev pub may_enlist : Line → Bool
may_enlist (At q Load) = is_wait q
may_enlist (At q LoadUses) = true
may_enlist _ = false

-- the variable of a signal or a broadcast at this line that has used it, and has to choose whom it wakes; 0 else
abbrev pub chooses_on : Line → ℕ
chooses_on (At q (Wake (Requeue v))) = variable_of q
chooses_on (At q (Wake ReadAgain)) = variable_of q
chooses_on _ = 0

-- history variables fit their table
pub record Agrees (s : Table) (x : HistoryVariables) : Type 0 where
  -- something is remembered of each thread
  pub all : length x.memories ≡ length s.lines
  -- no wait was found that has not begun yet
  pub past : (t u n : ℕ) → list_any (λ p. if p.0 == u then p.1 == n else false) (memory_at x t).found ≡ true
      → n ≤ (memory_at x u).waits
  -- who was found blocked had joined the blocked threads
  pub joined : (t u : ℕ) → is_remembered x t u ≡ true → may_enlist (line_at s u) ≡ false
  -- whom a signal or broadcast that has used its variable found blocked, and who still is by the same wait, is parked
  pub parked : (t u c : ℕ) → chooses_on (line_at s t) ≡ c → c ≢ 0 → is_remembered x t u ≡ true
      → is_call_blocked c (call_shown s u) ≡ true → is_parked (status_at s u) ≡ true
