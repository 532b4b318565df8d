-- What is known of open calls as the lines of a history are read, and which waits that refutes.
use Rattle.std.specs.Prelude.{ℕ, ◌≡◌, ◌≤◌, ◌<◌, ◌==◌, Bool, true, false, List, [], ◌∷◌, ◌++◌, length, map, reverse, take, Option, Some, slice_get, slice_set, if◌then◌else◌, ⊤}
use Rattle.std.specs.List.{list_any}
use Rattle.pif_types.specs.Bounds.{Bounds}
use Rattle.pif_types.specs.declared.requests.Request.{Request}
use Rattle.pif_types.specs.declared.requests.Request.TheVariants.{Wait, TimedWait, Signal, Broadcast}
use Rattle.pif_history_model.specs.declared.lines.Line.{Line}
use Rattle.pif_history_model.specs.declared.lines.Line.TheVariants.{Thread, Begin, Answer}
use Rattle.pif_history_model.specs.Shown.{IsShown}
use Rattle.pif_history_model.specs.Wakeups.{open_request, waited_variable, is_use_of, MayBeWoken}
use Rattle.pif_history_machine.specs.declared.wakeups.OpenCall.{OpenCall}
use Rattle.pif_history_machine.specs.declared.wakeups.OpenCall.TheVariants.{Unwoken, Use, Other}

-- OPEN CALLS

-- whether an open call signals or broadcasts c
abbrev pub is_use : ℕ → OpenCall → Bool
is_use c (Use d) = d == c
is_use c call = false

-- an open call, once c is used
abbrev pub once_used : ℕ → OpenCall → OpenCall
once_used c (Unwoken d) = if c == d then Other else Unwoken d
once_used c call = call

-- a wait for c that begins beside these open calls
abbrev pub wait_begun : List OpenCall → ℕ → OpenCall
wait_begun calls c = if list_any (is_use c) calls then Other else Unwoken c

-- a call of this request that begins beside these open calls
abbrev pub begun : List OpenCall → Request → OpenCall
begun calls (Wait c m) = wait_begun calls c
begun calls (TimedWait c m d) = wait_begun calls c
begun calls (Signal c) = Use c
begun calls (Broadcast c) = Use c
begun calls q = Other

-- these open calls, once a call of this request begins beside them
abbrev pub once_begun : Request → List OpenCall → List OpenCall
once_begun (Signal c) calls = map (once_used c) calls
once_begun (Broadcast c) calls = map (once_used c) calls
once_begun q calls = calls

-- these open calls, that of thread t at place t, behind one more line
abbrev pub heard : Line → List OpenCall → List OpenCall
heard (Thread p) calls = calls ++ Other ∷ []
heard (Begin t q) calls = slice_set (once_begun q calls) t (begun calls q)
heard (Answer t a) calls = slice_set calls t Other
heard x calls = calls

-- the thread that begins a call by the line, if one does, was added
abbrev pub WasAdded : List OpenCall → Line → Type 0
WasAdded calls (Begin t q) = t < length calls
WasAdded calls x = ⊤

-- WHAT IS REFUTED

-- whether an open call is a wait that nothing can have woken
abbrev pub is_unwoken : Option OpenCall → Bool
is_unwoken (Some (Unwoken c)) = true
is_unwoken call = false

-- whether a wait returns by this line that nothing can have woken
abbrev pub is_refuted : List OpenCall → Line → Bool
is_refuted calls (Answer t a) = if a == 0 then is_unwoken (slice_get calls t) else false
is_refuted calls x = false

-- t's open call by these lines is a wait for c, and nothing can have woken it
pub record IsUnwoken (t c : ℕ) (lines : List Line) : Type 0 where
  pub request : Request
  pub is_open : open_request t lines ≡ Some request
  pub waits : waited_variable request ≡ Some c
  pub unwoken : MayBeWoken t c lines → ⊥

-- these are the open calls by these lines, newest first: that of thread t at place t
pub record AreCalls (lines : List Line) (calls : List OpenCall) : Type 0 where
  -- nothing can have woken the waits of which it is said
  pub unwoken : (t c : ℕ) → slice_get calls t ≡ Some (Unwoken c) → IsUnwoken t c lines
  -- all uses are there
  pub uses : (t c : ℕ) (q : Request) → open_request t lines ≡ Some q → is_use_of c q ≡ true
      → slice_get calls t ≡ Some (Use c)

-- no run shows the first n of these lines
abbrev pub IsRefutedAt : List Line → ℕ → Type 0
IsRefutedAt lines n = (1 ≤ n) × (n ≤ length lines) × ((l : Bounds) → IsShown l (reverse (take n lines)) → ⊥)
