-- Who holds a mutex by the answers alone. It reads a history, newest entry first, and no machine.
use Rattle.std.specs.Prelude.{ℕ, ◌≡◌, ◌+◌, ◌-◌, Bool, true, false, ◌==◌, nat_lt, List, [], ◌∷◌, Option, Some, None, if◌then◌else◌}
use Rattle.pif_types.specs.declared.requests.Request.{Request}
use Rattle.pif_types.specs.declared.requests.Request.TheVariants.{Lock, TryLock, Unlock, Wait}
use Rattle.pif_model.specs.NamedNumbers.{EDEADLK, EOWNERDEAD, ENOTRECOVERABLE}
use Rattle.pif_model.specs.declared.events.Event.TheVariants.{Begin, Go, End}
use Rattle.pif_model.specs.declared.events.Seen.TheVariants.{Begun, Answered, Ended}
use Rattle.pif_model.specs.declared.events.Entry.{Entry}
use Rattle.pif_model.specs.declared.events.Entry.TheVariants.{Step as Happened}
use Rattle.pif_model.specs.Deadlines.{plain}

-- t's open call after one more entry; a timed one without its deadline, since ETIMEDOUT changes no hold count
abbrev pub open_after : ℕ → Entry → Option Request → Option Request
open_after t (Happened (Begin u q) Begun) before = if u == t then Some (plain q) else before
open_after t (Happened (Go u) (Answered a)) before = if u == t then None else before
open_after t (Happened (End u) Ended) before = if u == t then None else before
open_after t _ before = before

-- t's open call, by a history
abbrev pub open_call : ℕ → List Entry → Option Request
open_call t [] = None
open_call t (e ∷ h) = open_after t e (open_call t h)

-- the hold count after an answer to a lock or a trylock: 0 and EOWNERDEAD add 1
abbrev pub hold_count_locked : ℕ → ℕ → ℕ
hold_count_locked a count = if a == 0 then count + 1 else (if a == EOWNERDEAD then count + 1 else count)

-- the hold count after an answer to a wait: ENOTRECOVERABLE and EDEADLK make it 0, since the thread doesn't hold the
-- mutex then
abbrev pub hold_count_waited : ℕ → ℕ → ℕ
hold_count_waited a count = if a == ENOTRECOVERABLE then 0 else (if a == EDEADLK then 0 else count)

-- the hold count on m after an answer to this request: lock and trylock may add 1, unlock takes 1 away if it is
-- answered 0, and wait may make it 0
abbrev pub hold_count_after_answer : ℕ → Option Request → ℕ → ℕ → ℕ
hold_count_after_answer m None a count = count
hold_count_after_answer m (Some (Lock n)) a count = if n == m then hold_count_locked a count else count
hold_count_after_answer m (Some (TryLock n)) a count = if n == m then hold_count_locked a count else count
hold_count_after_answer m (Some (Unlock n)) a count = if n == m then (if a == 0 then count - 1 else count) else count
hold_count_after_answer m (Some (Wait c n)) a count = if n == m then hold_count_waited a count else count
hold_count_after_answer m (Some q) a count = count

-- the hold count of t on m after one more entry: an end of t makes it 0
abbrev pub hold_count_after : ℕ → ℕ → Option Request → Entry → ℕ → ℕ
hold_count_after t m call (Happened (Go u) (Answered a)) count =
    if u == t then hold_count_after_answer m call a count else count
hold_count_after t m call (Happened (End u) Ended) count = if u == t then 0 else count
hold_count_after t m call _ count = count

-- the hold count of t on m by a history: how often t holds m by the answers
abbrev pub hold_count : ℕ → ℕ → List Entry → ℕ
hold_count t m [] = 0
hold_count t m (e ∷ h) = hold_count_after t m (open_call t h) e (hold_count t m h)

-- 1 while an unlock of m is open
abbrev pub unlocking : ℕ → Option Request → ℕ
unlocking m None = 0
unlocking m (Some (Unlock n)) = if n == m then 1 else 0
unlocking m (Some q) = 0

-- whether a wait on m is open
abbrev pub waiting_with : ℕ → Option Request → Bool
waiting_with m None = false
waiting_with m (Some (Wait c n)) = n == m
waiting_with m (Some q) = false

-- whether t holds m by the answers: no wait of t on m is open, and its hold count, less 1 while an unlock of m by t is
-- open, is above 0
abbrev pub holds : ℕ → ℕ → List Entry → Bool
holds t m h =
    if waiting_with m (open_call t h) then false else nat_lt (unlocking m (open_call t h)) (hold_count t m h)

-- no mutex has two holders
abbrev pub HasOneHolder : List Entry → Type 0
HasOneHolder h = (t u m : ℕ) → holds t m h ≡ true → holds u m h ≡ true → t ≡ u

-- at no point of a history has a mutex two holders
abbrev pub AlwaysOneHolder : List Entry → Type 0
AlwaysOneHolder [] = HasOneHolder []
AlwaysOneHolder (e ∷ h) = HasOneHolder (e ∷ h) × AlwaysOneHolder h
