-- Calls: the table of them, and requests as calls with arguments.
use Rattle.std.specs.Prelude.{ℕ, ◌==◌, List, [], ◌∷◌, Option, Some, None, option_map, option_and_then, bytes_eq, codes, find}
use Rattle.pif_types.specs.declared.requests.Request.{Request}
use Rattle.pif_types.specs.declared.requests.Request.TheVariants as request
use Rattle.pif_types.specs.Shapes.{deadline, names_of, shape_of}
use Rattle.pif_text_model.specs.declared.calls.Arguments.{Arguments}
use Rattle.pif_text_model.specs.declared.calls.CallKind.{CallKind}
use Rattle.pif_text_model.specs.declared.calls.CallKind.TheVariants.{Lock, TryLock, Unlock, Consistent, Wait, Signal, Broadcast, SetPrio, TimedLock, TimedWait}
use Rattle.pif_text_model.specs.declared.calls.Parameter.{Parameter}
use Rattle.pif_text_model.specs.declared.calls.Parameter.TheVariants.{Thread, Mutex, Cond, Priority, Deadline}

infixl 10 ◌>>=◌
-- Goes on with a value, if there is one.
abbrev pub ◌>>=◌ : {A B : Type 0} → Option A → (A → Option B) → Option B
o >>= f = option_and_then f o

-- ---- the table

-- A row of the table: the word of a call, what stands behind the word in this order, and the number by which C knows
-- the call.
pub record CallRow : Type 0 where
  pub name : List ℕ
  pub parameters : List Parameter
  pub number : ℕ

abbrev row : List ℕ → List Parameter → ℕ → CallRow
row name parameters number = record { name = name; parameters = parameters; number = number }

-- The row of a call.
abbrev pub row_of : CallKind → CallRow
row_of Lock = row (codes "lock") (Mutex ∷ []) 1
row_of TryLock = row (codes "trylock") (Mutex ∷ []) 2
row_of Unlock = row (codes "unlock") (Mutex ∷ []) 3
row_of Consistent = row (codes "consistent") (Mutex ∷ []) 4
row_of TimedLock = row (codes "timedlock") (Mutex ∷ Deadline ∷ []) 5
row_of Wait = row (codes "wait") (Cond ∷ Mutex ∷ []) 6
row_of TimedWait = row (codes "timedwait") (Cond ∷ Mutex ∷ Deadline ∷ []) 7
row_of Signal = row (codes "signal") (Cond ∷ []) 8
row_of Broadcast = row (codes "broadcast") (Cond ∷ []) 9
row_of SetPrio = row (codes "setprio") (Thread ∷ Priority ∷ []) 10

-- All calls.
abbrev pub calls : List CallKind
calls =
    Lock ∷ TryLock ∷ Unlock ∷ Consistent ∷ Wait ∷ Signal ∷ Broadcast ∷ SetPrio ∷ TimedLock ∷ TimedWait ∷ []

-- The call that has this word, if one has it.
unfoldable pub call_named : List ℕ → Option CallKind
call_named word = find (λ k. bytes_eq word (row_of k).name) calls

-- The call that has this number in C, if one has it.
unfoldable pub call_numbered : ℕ → Option CallKind
call_numbered number = find (λ k. number == (row_of k).number) calls

-- ---- requests

-- No argument.
abbrev pub no_arguments : Arguments
no_arguments = record { thread = None; mutex = None; cond = None; priority = None; deadline = None }

-- The request of a call with these arguments, if none that the call takes is missing. Others don't count.
unfoldable pub request_with : CallKind → Arguments → Option Request
request_with Lock a = option_map request.Lock a.mutex
request_with TryLock a = option_map request.TryLock a.mutex
request_with Unlock a = option_map request.Unlock a.mutex
request_with Consistent a = option_map request.Consistent a.mutex
request_with Signal a = option_map request.Signal a.cond
request_with Broadcast a = option_map request.Broadcast a.cond
request_with Wait a = do
  c ← a.cond
  m ← a.mutex
  Some (request.Wait c m)
request_with SetPrio a = do
  t ← a.thread
  p ← a.priority
  Some (request.SetPrio t p)
request_with TimedLock a = do
  m ← a.mutex
  d ← a.deadline
  Some (request.TimedLock m d)
request_with TimedWait a = do
  c ← a.cond
  m ← a.mutex
  d ← a.deadline
  Some (request.TimedWait c m d)

-- The call of a request.
abbrev pub kind_of : Request → CallKind
kind_of (request.Lock m) = Lock
kind_of (request.TryLock m) = TryLock
kind_of (request.Unlock m) = Unlock
kind_of (request.Consistent m) = Consistent
kind_of (request.Wait c m) = Wait
kind_of (request.Signal c) = Signal
kind_of (request.Broadcast c) = Broadcast
kind_of (request.SetPrio t p) = SetPrio
kind_of (request.TimedLock m d) = TimedLock
kind_of (request.TimedWait c m d) = TimedWait

-- The priority that a request sets, if it sets one.
abbrev pub priority_of : Request → Option ℕ
priority_of (request.SetPrio t p) = Some p
priority_of q = None

-- The arguments of a request.
abbrev pub arguments_of : Request → Arguments
arguments_of q =
    let names = names_of q in
    record {
      thread = names.thread;
      mutex = names.mutex;
      cond = names.cond;
      priority = priority_of q;
      deadline = deadline (shape_of q);
    }
