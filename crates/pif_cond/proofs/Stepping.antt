-- What the soundness of a table gives to the next step of a call on a condition variable, and which line that step is.
use Rattle.std.proofs.Common.{◌≡◌, ◌≢◌, ℕ, ◌<◌, Bool, true, false, ◌==◌, refl, ap, ◌∙◌, sym, subst, Result, Ok, Err, if◌then◌else◌, eqb-true, arith}
use Rattle.std.proofs.lemmas.Bool.{true≢false}
use Rattle.pif_types.specs.Numbers.{number_of}
use Rattle.pif_types.specs.declared.errors.Errno.{Errno}
use Rattle.pif_types.specs.declared.errors.Errno.TheVariants.{NotPermitted, NoSuchThread, Again, Fault, Busy, Invalid, Deadlock, Overflow, TimedOut, OwnerDead, NotRecoverable}
use Rattle.pif_types.specs.declared.requests.Request.{Request}
use Rattle.pif_types.specs.declared.requests.Request.TheVariants.{Wait, Signal, Broadcast}
use Rattle.pif_model.specs.NamedNumbers.{ETIMEDOUT}
use Rattle.pif_model.specs.declared.events.Seen.{Seen}
use Rattle.pif_model.specs.declared.events.Seen.TheVariants.{Answered}
use Rattle.pif_model.specs.declared.lines.Line.TheVariants.{At}
use Rattle.pif_model.specs.declared.lines.Place.{Place}
use Rattle.pif_model.specs.declared.lines.Place.TheVariants.{Load, Exchange, Give, LoadUses, Park, StayParked, Wake}
use Rattle.pif_model.specs.declared.lines.Status.{Status}
use Rattle.pif_model.specs.declared.lines.Status.TheVariants.{Parked}
use Rattle.pif_model.specs.declared.lines.WakeStep.TheVariants.{CountUse}
use Rattle.pif_model.specs.Deadlines.{is_reached, ran_out, reported_result, reported_seen}
use Rattle.pif_model.specs.PiKernel.{is_living, is_ready, is_parked, is_woken_again, wait_requeue_answer, kernel_after_wait_requeue}
use Rattle.pif_model.specs.Table.{Table, line_at, status_at, timer_at, with_kernel, with_timer}
use Rattle.pif_model.specs.Lines.{Outcome, goes_to, own_exchange, lock_queued, wait_load, wait_uses, wait_by, wait_park, wait_parked, line_of, counts_at, is_line_due, expired_in, expires_at, reported_outcome, go_outcome}
use Rattle.pif_model.specs.Soundness.{belongs, CallIsSound, LineIsSound, IsSound}
use Rattle.pif_model_lemmas.proofs.Waiting.{by_test}
use Rattle.pif_model_lemmas.proofs.kernel.LineCases.{wait_load_cases, wait_uses_cases}
use Rattle.pif_model_simulation.proofs.Facts.{call_limited}
use Rattle.pif_model_simulation.proofs.WeakenedInvariant.{each_thread}
use Rattle.pif_model_simulation.proofs.Undue.{goes_by_line, undue}
use Rattle.pif_mutex.specs.Mutexes.{is_on_mutex}

-- WHAT A STEP RESTS ON

-- the call of a living thread is sound
call_of : (s : Table) (t : ℕ) (q : Request) (p : Place) → IsSound s → is_living s.kernel t ≡ true
    → line_at s t ≡ At q p → CallIsSound s t q p
call_of s t q p h k e = subst (LineIsSound s t) e (each_thread h t k).line

-- its place is one of its request's
pub belongs_here : (s : Table) (t : ℕ) (q : Request) (p : Place) → IsSound s → is_living s.kernel t ≡ true
    → line_at s t ≡ At q p → belongs q p ≡ true
belongs_here s t q p h k e = (call_of s t q p h k e).belongs

-- the exchange of a signal or a broadcast expects less than the variable may be used
pub below_limit : (s : Table) (t : ℕ) (q : Request) (p : Place) → IsSound s → is_living s.kernel t ≡ true
    → line_at s t ≡ At q p → (v : ℕ) → p ≡ Wake (CountUse v) → v < s.limits.signals
below_limit s t q p h k e v at = call_limited (call_of s t q (Wake (CountUse v)) h k (e ∙ ap (At q) at))

-- a wait that takes no step on its variable takes one on its mutex
pub on_mutex : (p : Place) (c m : ℕ) → belongs (Wait c m) p ≡ true → p ≢ Load → p ≢ LoadUses
    → ((v : ℕ) → p ≢ Park v) → p ≢ StayParked → is_on_mutex p ≡ true
on_mutex Load c m b load uses park stay = absurd (load refl)
on_mutex LoadUses c m b load uses park stay = absurd (uses refl)
on_mutex (Give x y) c m b load uses park stay = refl
on_mutex (Park v) c m b load uses park stay = absurd (park v refl)
on_mutex StayParked c m b load uses park stay = absurd (stay refl)
on_mutex p c m b load uses park stay = b

-- WHICH LINE A STEP IS

-- a step of a signal, and of a broadcast, is its line
pub signal_goes : (c : ℕ) (p : Place) (t : ℕ) (s : Table) → go_outcome (At (Signal c) p) t s ≡ line_of (Signal c) p t s
signal_goes c p t s = goes_by_line (Signal c) p t s refl (λ expired a. refl)

pub broadcast_goes : (c : ℕ) (p : Place) (t : ℕ) (s : Table)
    → go_outcome (At (Broadcast c) p) t s ≡ line_of (Broadcast c) p t s
broadcast_goes c p t s = goes_by_line (Broadcast c) p t s refl (λ expired a. refl)

-- a test that fails either way
never : (b : Bool) → (if b then false else false) ≡ false
never true = refl
never false = refl

-- a wait that isn't answered 0 is told as it is
told_number : (c m : ℕ) (expired : Bool) (a : ℕ) → a ≢ 0 → reported_result (Wait c m) expired a ≡ a
told_number c m true a n =
    by_test (λ b. (if b then ETIMEDOUT else a) ≡ a) (a == 0) (λ e. absurd (n (eqb-true a 0 e))) (λ e. refl)
told_number c m false a n = refl

told_same : (c m : ℕ) (expired : Bool) (x : Seen) → x ≢ Answered 0 → reported_seen (Wait c m) expired x ≡ x
told_same c m expired (Answered a) n = ap Answered (told_number c m expired a (λ e. n (ap Answered e)))
told_same c m expired x n = refl

told_as_is : (c m : ℕ) (expired : Bool) (x : Outcome) → x.seen ≢ Answered 0 → reported_outcome (Wait c m) expired x ≡ x
told_as_is c m expired x n = ap (λ (y : Seen). record x { seen = y }) (told_same c m expired x.seen n)

-- so a step of a wait whose deadline doesn't count there, and which isn't answered 0, is its line
waits_by_line : (c m : ℕ) (p : Place) (t : ℕ) (s : Table) → counts_at (Wait c m) p (status_at s t) ≡ false
    → (line_of (Wait c m) p t s).seen ≢ Answered 0 → go_outcome (At (Wait c m) p) t s ≡ line_of (Wait c m) p t s
waits_by_line c m p t s lasts n =
    undue (Wait c m) p t s
    (ap (λ (b : Bool). if is_reached (timer_at s t).deadline s.time then b else false) lasts
    ∙ never (is_reached (timer_at s t).deadline s.time))
    ∙ told_as_is c m (timer_at s t).expired (line_of (Wait c m) p t s) n

-- the same answer has the same number
number_same : (a b : ℕ) → Answered a ≡ Answered b → a ≡ b
number_same a b e = cc

pub load_goes : (c m t : ℕ) (s : Table) → go_outcome (At (Wait c m) Load) t s ≡ wait_load c m t s
unfolding line_of
load_goes c m t s = waits_by_line c m Load t s refl
    (wait_load_cases (λ x. x.seen ≢ Answered 0) c m t s (λ d o n e. omega (arith, number_same 22 0 e)) (λ d o n e. cc)
    (λ d o e. omega (arith, number_same 1 0 e)) (λ d e. omega (arith, number_same 22 0 e)))

pub uses_goes : (c m t : ℕ) (s : Table) → go_outcome (At (Wait c m) LoadUses) t s ≡ wait_uses c m t s
unfolding line_of
uses_goes c m t s = waits_by_line c m LoadUses t s refl
    (wait_uses_cases (λ x. x.seen ≢ Answered 0) c m t s (λ r e. cc) (λ r e. cc))

-- no error of a kernel call is answered as 0
some_error : (e : Errno) → number_of e ≢ 0
some_error NotPermitted = λ d. omega (arith, d)
some_error NoSuchThread = λ d. omega (arith, d)
some_error Again = λ d. omega (arith, d)
some_error Fault = λ d. omega (arith, d)
some_error Busy = λ d. omega (arith, d)
some_error Invalid = λ d. omega (arith, d)
some_error Deadlock = λ d. omega (arith, d)
some_error Overflow = λ d. omega (arith, d)
some_error TimedOut = λ d. omega (arith, d)
some_error OwnerDead = λ d. omega (arith, d)
some_error NotRecoverable = λ d. omega (arith, d)

parks_not_0 : (r : Result (record {}) Errno) (c m t : ℕ) (s : Table) → (wait_by r c m t s).seen ≢ Answered 0
unfolding wait_by
parks_not_0 (Ok x) c m t s = λ e. cc
parks_not_0 (Err Again) c m t s = λ e. cc
parks_not_0 (Err x) c m t s = λ e. some_error x (number_same (number_of x) 0 e)

pub park_goes : (v c m t : ℕ) (s : Table) → go_outcome (At (Wait c m) (Park v)) t s ≡ wait_park v c m t s
unfolding line_of wait_park
park_goes v c m t s = waits_by_line c m (Park v) t s refl
    (parks_not_0 (wait_requeue_answer c v m s.words) c m t
    (with_kernel s.words (kernel_after_wait_requeue t c m (wait_requeue_answer c v m s.words) s.kernel) s))

-- A WAIT THAT WAS PARKED

-- one that is due is parked still
parked_if : (reached : Bool) (x : Status) → (if reached then is_parked x else false) ≡ true → is_ready x ≡ false
parked_if true (Parked c) h = refl
parked_if true x h = absurd (true≢false (sym h))
parked_if false x h = absurd (true≢false (sym h))

pub due_unready : (q : Request) (m t : ℕ) (s : Table) → (c : ℕ) × (q ≡ Wait c m)
    → is_line_due (At q StayParked) t s ≡ true → is_ready (status_at s t) ≡ false
due_unready q m t s (c, e) h =
    parked_if (is_reached (timer_at s t).deadline s.time) (status_at s t)
    (ap (λ (x : Request). is_line_due (At x StayParked) t s) (sym e) ∙ h)

-- and expires
pub due_goes : (q : Request) (m t : ℕ) (s : Table) → (c : ℕ) × (q ≡ Wait c m)
    → is_line_due (At q StayParked) t s ≡ true
    → go_outcome (At q StayParked) t s ≡ goes_to t q Exchange (with_timer t (ran_out (timer_at s t)) (expired_in t s))
unfolding go_outcome expires_at
due_goes q m t s (c, e) h =
    ap (λ (b : Bool). if b then expires_at q StayParked t s
    else reported_outcome q (timer_at s t).expired (line_of q StayParked t s)) h
    ∙ subst (λ (x : Request). expires_at x StayParked t s
    ≡ goes_to t x Exchange (with_timer t (ran_out (timer_at s t)) (expired_in t s))) (sym e) refl

-- one that isn't due goes on as it was parked
pub undue_goes : (q : Request) (m t : ℕ) (s : Table) → (c : ℕ) × (q ≡ Wait c m)
    → is_line_due (At q StayParked) t s ≡ false
    → go_outcome (At q StayParked) t s ≡ reported_outcome q (timer_at s t).expired
    (if is_woken_again (status_at s t) then own_exchange q t m s else lock_queued q t m s)
unfolding line_of wait_parked
undue_goes q m t s (c, e) h =
    undue q StayParked t s h
    ∙ subst (λ (x : Request). reported_outcome x (timer_at s t).expired (line_of x StayParked t s)
    ≡ reported_outcome x (timer_at s t).expired
    (if is_woken_again (status_at s t) then own_exchange x t m s else lock_queued x t m s)) (sym e) refl
