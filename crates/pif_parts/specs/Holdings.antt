-- How often threads hold mutexes by the answers, as a list that each line changes. It has no counts of 0.
use Rattle.std.specs.Prelude.{ℕ, ◌-◌, ◌==◌, Bool, false, not, List, [], ◌∷◌, ◌++◌, Option, Some, None, filter, if◌then◌else◌, ◌≢◌}
use Rattle.pif_types.specs.declared.requests.Request.{Request}
use Rattle.pif_types.specs.declared.requests.Request.TheVariants.{Lock, TryLock, Unlock, Wait}
use Rattle.pif_types.specs.Shapes.{names_of}
use Rattle.pif_model.specs.History.{hold_count_locked, hold_count_waited}
use Rattle.pif_history_model.specs.declared.lines.Line.{Line}
use Rattle.pif_history_model.specs.declared.lines.Line.TheVariants.{Answer, End}
use Rattle.pif_parts.specs.declared.calls.OpenCall.{OpenCall}
use Rattle.pif_parts.specs.declared.holdings.Holding.{Holding}
use Rattle.pif_parts.specs.Calls.{call_in}

-- whether it is t's holding of m
abbrev pub is_of : ℕ → ℕ → Holding → Bool
is_of t m x = if x.thread == t then x.mutex == m else false

-- how often t holds m by these
abbrev pub count_in : List Holding → ℕ → ℕ → ℕ
count_in [] t m = 0
count_in (x ∷ xs) t m = if is_of t m x then x.count else count_in xs t m

-- no count is 0
abbrev pub AreSome : List Holding → Type 0
AreSome [] = Unit {0}
AreSome (x ∷ xs) = (x.count ≢ 0) × AreSome xs

-- t holds m so often
abbrev pub held : ℕ → ℕ → ℕ → List Holding
held t m n = if n == 0 then [] else record { thread = t; mutex = m; count = n } ∷ []

-- without t's holding of m
abbrev pub without : ℕ → ℕ → List Holding → List Holding
without t m xs = filter (λ x. not (is_of t m x)) xs

abbrev pub with_count : ℕ → ℕ → ℕ → List Holding → List Holding
with_count t m n xs = without t m xs ++ held t m n

-- t holds nothing
abbrev pub without_thread : ℕ → List Holding → List Holding
without_thread t xs = filter (λ (x : Holding). not (x.thread == t)) xs

-- how often a mutex is held once a call that names it was answered, if it was held so often before
abbrev pub count_after : Request → ℕ → ℕ → ℕ
count_after (Lock m) a n = hold_count_locked a n
count_after (TryLock m) a n = hold_count_locked a n
count_after (Unlock m) a n = if a == 0 then n - 1 else n
count_after (Wait c m) a n = hold_count_waited a n
count_after q a n = n

-- what t holds once its call of this request, which names that mutex, was answered
abbrev pub held_of_mutex : ℕ → ℕ → Request → Option ℕ → List Holding → List Holding
held_of_mutex t a q None xs = xs
held_of_mutex t a q (Some m) xs = with_count t m (count_after q a (count_in xs t m)) xs

-- once t's call was answered, if one was open
abbrev pub held_of_call : ℕ → ℕ → Option Request → List Holding → List Holding
held_of_call t a None xs = xs
held_of_call t a (Some q) xs = held_of_mutex t a q (names_of q).mutex xs

-- behind one more line, if these calls were open before it
abbrev pub held_after : Line → List OpenCall → List Holding → List Holding
held_after (Answer t a) calls xs = held_of_call t a (call_in calls t) xs
held_after (End t) calls xs = without_thread t xs
held_after line calls xs = xs
