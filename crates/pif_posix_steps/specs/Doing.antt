-- What the calls of the POSIX machine do, as functions of the state: each effect, each move and each entry of a history
-- that a line shows. Posix.antt and Once.antt have the rules, and the pages of POSIX that they come from; the lemmas of
-- `proofs/` say that the functions give what the rules allow, and no more.
-- None: no rule fits. Several results: the rules leave a choice.
use Rattle.std.specs.Prelude.{ℕ, zero, suc, List, [], ◌∷◌, ◌++◌, ◌≡◌, ◌==◌, Bool, true, false, nat_lt, nat_le, map, length, Option, Some, None, is_some, option_to_list, if◌then◌else◌}
use Rattle.std.specs.List.{filter, flat_map, list_all}
use Rattle.pif_types.specs.Bounds.{Bounds}
use Rattle.pif_types.specs.declared.requests.Kind.{Kind}
use Rattle.pif_types.specs.declared.requests.Request.{Request}
use Rattle.pif_types.specs.declared.requests.Request.TheVariants.{Lock, TryLock, Unlock, Consistent, Wait, Signal, Broadcast, SetPrio}
use Rattle.pif_model.specs.declared.lines.Relock.{Relock}
use Rattle.pif_model.specs.declared.lines.Relock.TheVariants.{Deadlocks, Answers, Counts}
use Rattle.pif_model.specs.declared.events.Event.{Event}
use Rattle.pif_model.specs.declared.events.Event.TheVariants.{Begin, Go, End, Tick}
use Rattle.pif_model.specs.declared.events.Seen.{Seen}
use Rattle.pif_model.specs.declared.events.Seen.TheVariants.{Begun, Answered, Ended, Ticked}
use Rattle.pif_model.specs.declared.events.Entry.{Entry}
use Rattle.pif_model.specs.declared.events.Entry.TheVariants.{Thread as AddThread, Mutex as AddMutex, Cond as AddCond, Step as Happened}
use Rattle.pif_model.specs.Kinds.{relock_of}
use Rattle.pif_model.specs.Graph.{is_priority, waited_by}
use Rattle.pif_model.specs.Deadlines.{reported_result}
use Rattle.pif_model.specs.NamedNumbers.{EPERM, ESRCH, EAGAIN, EBUSY, EINVAL, EDEADLK, EOVERFLOW, ETIMEDOUT, ENOTRECOVERABLE, most_holds}
use Rattle.pif_model.specs.World.Health.{Fine, Inconsistent, Unusable}
use Rattle.pif_model.specs.World.Progress.{Fresh, Waiting, Stuck, Leaving, Has, Checked, Enlisted, Blocked, Reacquiring, Used}
use Rattle.pif_model.specs.Posix.{World, Call, Health, Progress, Thread, thread_at, mutex_at, variable_at, is_living, is_mutex, is_orphaned, leads_to, next_of, rests, effective_of, is_blocked_on, is_still_blocked, with_thread, with_call_by, with_progress, with_waiter, without_waiter, with_no_owner, with_health, with_one_hold_more, with_one_hold_less, with_base, taken, named_by, on_release, used, after_unblocking, all_unblocked, is_due, after_timeout, begun_thread, without_call, after_end, after_owner_death, refusal_of, new_thread, new_mutex, new_variable}

-- what a function that does this effect leaves: the state, if a rule fits; else the state before
pub data Does (old : World) (after : Option World) : Bool → World → Type 0 where
  did : {new : World} → after ≡ Some new → Does old after true new
  did_not : {new : World} → after ≡ None → new ≡ old → Does old after false new

-- the numbers below n that pass the test, the greatest first
abbrev pub passing : (ℕ → Bool) → ℕ → List ℕ
passing test zero = []
passing test (suc n) = if test n then n ∷ passing test n else passing test n

-- LOCKING

-- the owner locks a RECURSIVE mutex again
abbrev pub locked_more : ℕ → ℕ → World → Option World
locked_more t m w =
    if nat_lt (mutex_at w m).count most_holds then Some (with_progress t (Has 0) (with_one_hold_more m w))
    else (if (mutex_at w m).count == most_holds then Some (with_progress t (Has EAGAIN) w) else None)

-- the owner locks again, if that does this
abbrev pub relocked : Relock → ℕ → ℕ → World → Option World
relocked Deadlocks t m w = Some (with_progress t Stuck w)
relocked Answers t m w = Some (with_progress t (Has EDEADLK) w)
relocked Counts t m w = locked_more t m w

-- t locks m
abbrev pub locked : ℕ → ℕ → World → Option World
locked t m w =
    if (mutex_at w m).owner == t then relocked (relock_of (mutex_at w m).kind) t m w
    else (if (mutex_at w m).owner == 0 then Some (taken t m w)
    else (if is_orphaned w m then Some (with_progress t Stuck w)
    else (if leads_to w (mutex_at w m).owner t then Some (with_progress t (Has EDEADLK) w)
    else Some (with_progress t Waiting (with_waiter t m w)))))

-- the owner tries to lock again, if a lock by it does this
abbrev pub retried : Relock → ℕ → ℕ → World → Option World
retried Deadlocks t m w = Some (with_progress t (Has EBUSY) w)
retried Answers t m w = Some (with_progress t (Has EBUSY) w)
retried Counts t m w = locked_more t m w

-- t tries to lock m
abbrev pub tried : ℕ → ℕ → World → Option World
tried t m w =
    if (mutex_at w m).owner == 0 then Some (taken t m w)
    else (if (mutex_at w m).owner == t then retried (relock_of (mutex_at w m).kind) t m w
    else Some (with_progress t (Has EBUSY) w))

-- GIVING UP A MUTEX

-- m passes on
abbrev pub passed_on : ℕ → World → World
passed_on m w = if next_of w m == 0 then with_no_owner m w else taken (next_of w m) m (without_waiter (next_of w m) w)

-- t, who owns m and holds it once, gives it up, and its call has then come so far. An Inconsistent mutex becomes
-- Unusable first, and the call goes on from there; another passes on
abbrev pub released : Health → (t m : ℕ) → Progress → World → World
released Inconsistent t m p w = with_health m Unusable w
released Fine t m p w = passed_on m (with_progress t p w)
released Unusable t m p w = passed_on m (with_progress t p w)

-- t unlocks m
abbrev pub unlocked : ℕ → ℕ → World → Option World
unlocked t m w =
    if (mutex_at w m).owner == t
    then (if (mutex_at w m).count == 1 then Some (released (mutex_at w m).health t m (Has 0) w)
    else (if nat_lt 1 (mutex_at w m).count then Some (with_progress t (Has 0) (with_one_hold_less m w)) else None))
    else Some (with_progress t (Has EPERM) w)

-- a wait of t, which is enlisted and blocked still or not, gives m up
abbrev pub given_up : (t m : ℕ) → Bool → World → Option World
given_up t m still w =
    if (mutex_at w m).owner == t then Some (released (mutex_at w m).health t m (on_release still) w) else None

-- t's call of this request, which took an Unusable mutex, gives it up again
abbrev pub left : ℕ → Request → World → World
left t q w = passed_on (named_by q) (with_progress t (Has ENOTRECOVERABLE) w)

-- HEALTH AND PRIORITY

-- t, who owns the robust mutex m, which is in this health, makes it consistent
abbrev pub made_fine : Health → ℕ → ℕ → World → World
made_fine Inconsistent t m w = with_progress t (Has 0) (with_health m Fine w)
made_fine Fine t m w = with_progress t (Has EINVAL) w
made_fine Unusable t m w = with_progress t (Has EINVAL) w

-- t makes m consistent
abbrev pub made_consistent : ℕ → ℕ → World → World
made_consistent t m w =
    if (mutex_at w m).robust
    then (if (mutex_at w m).owner == t then made_fine (mutex_at w m).health t m w else with_progress t (Has EPERM) w)
    else with_progress t (Has EINVAL) w

-- t sets u's base priority to p
abbrev pub priority_set : (t u p : ℕ) → World → World
priority_set t u p w =
    if is_priority p
    then (if is_living w u then with_progress t (Has 0) (with_base u p w) else with_progress t (Has ESRCH) w)
    else with_progress t (Has EINVAL) w

-- WAITING FOR A VARIABLE

-- t's wait for c with m looks at both
abbrev pub wait_checked : (t c m : ℕ) → World → Option World
wait_checked t c m w =
    if (variable_at w c).mutex == m
    then (if (mutex_at w m).owner == t
    then (if (mutex_at w m).count == 1 then Some (with_progress t Checked w)
    else (if nat_lt 1 (mutex_at w m).count then Some (with_progress t (Has EINVAL) w) else None))
    else Some (with_progress t (Has EPERM) w))
    else Some (with_progress t (Has EINVAL) w)

-- t's wait, which has looked at both, joins the blocked threads
abbrev pub enlisted : ℕ → World → World
enlisted t w = with_progress t (Enlisted true) w

-- it is noted that t, whose wait is blocked, was told to wait
abbrev pub noted : ℕ → World → World
noted t w = with_progress t (Blocked true) w

-- USING A VARIABLE

-- t's signal or broadcast uses c
abbrev pub variable_used : ℕ → ℕ → World → World
variable_used t c w =
    if (variable_at w c).uses == w.signals then with_progress t (Has EOVERFLOW) w
    else with_progress t Used (used c w)

-- all threads that are blocked on c
abbrev pub all_blocked : World → ℕ → List ℕ
all_blocked w c = passing (is_blocked_on w c) (length w.threads)

-- those that t's signal or broadcast of c found blocked when it began, and that are blocked still by the same wait
abbrev pub found_left : World → (t c : ℕ) → List ℕ
found_left w t c = filter (is_still_blocked w t c) (all_blocked w c)

-- whether none of these has a greater effective priority than u
abbrev pub none_is_above : World → List ℕ → ℕ → Bool
none_is_above w us u = list_all (λ b. nat_le (effective_of w b) (effective_of w u)) us

-- those of whom t's signal of c may wake one
abbrev pub candidates : World → (t c : ℕ) → List ℕ
candidates w t c = filter (none_is_above w (found_left w t c)) (all_blocked w c)

-- t's signal wakes u
abbrev pub woken : ℕ → ℕ → World → World
woken t u w = with_call_by u after_unblocking (with_progress t (Has 0) w)

-- t's signal of c, which has used it, wakes a candidate; or nobody, if none whom it found is left
abbrev pub signalled : ℕ → ℕ → World → List World
signalled t c w =
    map (λ u. woken t u w) (candidates w t c)
    ++ (if length (found_left w t c) == 0 then with_progress t (Has 0) w ∷ [] else [])

-- the lists of some of these threads, in their order, among which are all that pass the test
abbrev pub selections : (ℕ → Bool) → List ℕ → List (List ℕ)
selections test [] = [] ∷ []
selections test (u ∷ us) =
    map (λ xs. u ∷ xs) (selections test us) ++ (if test u then [] else selections test us)

-- t's broadcast of c, which has used it, wakes some that are blocked, among which are all whom it found and are left
abbrev pub broadcast : ℕ → ℕ → World → List World
broadcast t c w =
    map (λ us. all_unblocked us (with_progress t (Has 0) w)) (selections (is_still_blocked w t c) (all_blocked w c))

-- t's call of this request, which has used its variable, chooses whom it wakes
abbrev pub chosen : ℕ → Request → World → List World
chosen t (Signal c) w = signalled t c w
chosen t (Broadcast c) w = broadcast t c w
chosen t q w = []

-- a thread that is unblocked
abbrev pub after_waking : Thread → Thread
after_waking x = record x { call = after_unblocking x.call }

-- the threads from a number on, each that passes the test unblocked
abbrev pub woken_from : (ℕ → Bool) → ℕ → List Thread → List Thread
woken_from test n [] = []
woken_from test n (x ∷ xs) = (if test n then after_waking x else x) ∷ woken_from test (suc n) xs

-- all threads that pass the test are unblocked
abbrev pub woken_where : (ℕ → Bool) → World → World
woken_where test w = record w { threads = woken_from test 0 w.threads }

-- DEADLINES

-- t's call of this request, which is due, expires
abbrev pub expired_by : Request → ℕ → World → Option World
expired_by (Lock m) t w = Some (with_progress t (Has ETIMEDOUT) (without_waiter t w))
expired_by (Wait c m) t w = Some (with_progress t Reacquiring (after_timeout t w))
expired_by q t w = None

-- t's open call, which is due, expires
abbrev pub expired_call : Option Call → ℕ → World → Option World
expired_call None t w = None
expired_call (Some x) t w = expired_by x.request t w

abbrev pub expired : ℕ → World → Option World
expired t w = expired_call (thread_at w t).call t w

-- MOVES

-- the first effect of t's call of this request, which has no deadline: all results
abbrev pub first_effects : Request → ℕ → World → List World
first_effects (Lock m) t w = option_to_list (locked t m w)
first_effects (TryLock m) t w = option_to_list (tried t m w)
first_effects (Unlock m) t w = option_to_list (unlocked t m w)
first_effects (Consistent m) t w = made_consistent t m w ∷ []
first_effects (SetPrio u p) t w = priority_set t u p w ∷ []
first_effects (Wait c m) t w = option_to_list (wait_checked t c m w)
first_effects (Signal c) t w = variable_used t c w ∷ []
first_effects (Broadcast c) t w = variable_used t c w ∷ []
first_effects q t w = []

-- the next effect of t's wait with m, which has come so far: all results
abbrev pub wait_effects : Progress → ℕ → ℕ → World → List World
wait_effects Checked t m w = enlisted t w ∷ []
wait_effects (Enlisted still) t m w = option_to_list (given_up t m still w)
wait_effects Reacquiring t m w = option_to_list (locked t m w)
wait_effects p t m w = []

-- the next effect of t's call of this request, which has come so far: all results
abbrev pub later_effects : Request → Progress → ℕ → World → List World
later_effects (Wait c m) p t w = wait_effects p t m w
later_effects q p t w = []

abbrev pub next_effects : Progress → Request → ℕ → World → List World
next_effects Fresh q t w = first_effects q t w
next_effects Leaving q t w = left t q w ∷ []
next_effects Used q t w = chosen t q w
next_effects p q t w = later_effects q p t w

-- the next effect of an open call of t: all results
abbrev pub call_effects : Option Call → ℕ → World → List World
call_effects None t w = []
call_effects (Some x) t w = next_effects x.progress x.request t w

abbrev pub effects : ℕ → World → List World
effects t w = call_effects (thread_at w t).call t w

-- whether an open call is a wait that is blocked, of which it isn't noted that its thread was told to wait
abbrev pub may_be_noted : Request → Progress → Bool
may_be_noted (Wait c m) (Blocked false) = true
may_be_noted q p = false

abbrev pub is_unnoted : Option Call → Bool
is_unnoted None = false
is_unnoted (Some x) = may_be_noted x.request x.progress

-- t's open call has one effect, or expires, or it is noted that t was told to wait: all results
abbrev pub acted : ℕ → World → List World
acted t w =
    effects t w ++ (if is_due w t then option_to_list (expired t w) else [])
    ++ (if is_unnoted (thread_at w t).call then noted t w ∷ [] else [])

-- whether an event is allowed
abbrev pub is_allowed : World → Event → Bool
is_allowed w x = if is_some (refusal_of w x) then false else true

-- t moves: all results
abbrev pub moved : ℕ → World → List World
moved t w = if is_allowed w (Go t) then acted t w else []

-- ENTRIES

-- the thread t of base priority p is added
abbrev pub thread_added : Bounds → (t p : ℕ) → World → Option World
thread_added l t p w =
    if t == length w.threads
    then (if nat_le t l.threads
    then (if is_priority p then Some (record w { threads = w.threads ++ new_thread p ∷ [] }) else None) else None)
    else None

-- the mutex m of this kind is added, robust or not
abbrev pub mutex_added : Bounds → ℕ → Kind → Bool → World → Option World
mutex_added l m k r w =
    if m == length w.mutexes
    then (if nat_le m l.mutexes then Some (record w { mutexes = w.mutexes ++ new_mutex k r ∷ [] }) else None)
    else None

-- the variable c is added, bound to m
abbrev pub variable_added : Bounds → (c m : ℕ) → World → Option World
variable_added l c m w =
    if is_mutex w m
    then (if c == length w.variables
    then (if nat_le c l.conds then Some (record w { variables = w.variables ++ new_variable m ∷ [] }) else None)
    else None)
    else None

-- t begins a call
abbrev pub begun : ℕ → Request → World → Option World
begun t q w =
    if is_allowed w (Begin t q) then Some (with_thread t (begun_thread w q (thread_at w t)) w) else None

-- the time is n
abbrev pub ticked : ℕ → World → Option World
ticked n w = if is_allowed w (Tick n) then Some (record w { time = n }) else None

-- whether a call of this request, which has come so far and has run out of time or not, is answered a
abbrev pub has_answer : Progress → Request → Bool → ℕ → Bool
has_answer (Has r) q expired a = a == reported_result q expired r
has_answer p q expired a = false

-- whether an open call, which has run out of time or not, is answered a
abbrev pub is_answered : Option Call → Bool → ℕ → Bool
is_answered None expired a = false
is_answered (Some x) expired a = has_answer x.progress x.request expired a

-- t's open call closes
abbrev pub closed : ℕ → World → World
closed t w = with_call_by t without_call w

-- t's open call is answered a
abbrev pub answered : (t a : ℕ) → World → Option World
answered t a w =
    if is_answered (thread_at w t).call (thread_at w t).timer.expired a
    then (if is_allowed w (Go t) then (if rests (closed t w) t then None else Some (closed t w)) else None)
    else None

-- whether t owns m, which is robust
abbrev pub owns_robust : World → ℕ → ℕ → Bool
owns_robust w t m = if (mutex_at w m).robust then (mutex_at w m).owner == t else false

-- all robust mutexes that t owns
abbrev pub robust_of : World → ℕ → List ℕ
robust_of w t = passing (owns_robust w t) (length w.mutexes)

-- m, whose owner has ended, passes on
abbrev pub passed_on_by_death : ℕ → World → World
passed_on_by_death m w = passed_on m (after_owner_death m w)

-- n robust mutexes that t owns pass on, one after another in any order: all results
abbrev pub inherited : ℕ → ℕ → World → List World
inherited zero t w = w ∷ []
inherited (suc n) t w = flat_map (λ m. inherited n t (passed_on_by_death m w)) (robust_of w t)

-- the robust mutexes of numbers below n that t owns pass on, the one of the greatest number first
abbrev pub inherited_below : ℕ → ℕ → World → World
inherited_below zero t w = w
inherited_below (suc n) t w = inherited_below n t (if owns_robust w t n then passed_on_by_death n w else w)

-- whether each waiter is among the waiters of one mutex alone, and place 0, which is no mutex, has no owner. Each state
-- of a run is so. Once a thread has left all waiters, the order in which its robust mutexes pass on doesn't matter then
abbrev pub is_orderly : World → Bool
is_orderly w =
    if (mutex_at w 0).owner == 0 then list_all (λ (x : ℕ × ℕ). waited_by w.waiters x.0 == x.1) w.waiters else false

-- all robust mutexes of t, which has left all waiters, pass on: all results
abbrev pub all_inherited : ℕ → World → List World
all_inherited t w =
    if is_orderly w then inherited_below (length w.mutexes) t w ∷ [] else inherited (length (robust_of w t)) t w

-- t ends: all results
abbrev pub ended : ℕ → World → List World
ended t w = if is_allowed w (End t) then all_inherited t (after_end t w) else []

-- an event happens, and this is seen: all results
abbrev pub happened : Event → Seen → World → List World
happened (Begin t q) Begun w = option_to_list (begun t q w)
happened (Go t) (Answered a) w = option_to_list (answered t a w)
happened (End t) Ended w = ended t w
happened (Tick n) Ticked w = option_to_list (ticked n w)
happened x seen w = []

-- an entry that a line shows: all results
abbrev pub entered : Bounds → World → Entry → List World
entered l w (AddThread t p) = option_to_list (thread_added l t p w)
entered l w (AddMutex m k r) = option_to_list (mutex_added l m k r w)
entered l w (AddCond c m) = option_to_list (variable_added l c m w)
entered l w (Happened x seen) = happened x seen w
