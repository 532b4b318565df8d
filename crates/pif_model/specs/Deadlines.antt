-- Deadlines, for both machines. A timed request is its plain request with a deadline, which a begin splits: locking and
-- waiting know nothing of time. (POSIX.1-2017, pthread_mutex_timedlock: 'If the mutex cannot be locked without waiting
-- for another thread to unlock the mutex, this wait shall be terminated when the specified timeout expires', with
-- ETIMEDOUT; pthread_cond_timedwait: 'shall be equivalent to pthread_cond_wait(), except that an error is returned if
-- the absolute time specified by abstime passes', when the mutex 'shall have been reacquired'.)
use Rattle.std.specs.Prelude.{ℕ, Bool, true, false, ◌==◌, nat_lt, Option, Some, None, if◌then◌else◌}
use Rattle.pif_types.specs.declared.requests.Request.{Request}
use Rattle.pif_types.specs.declared.requests.Request.TheVariants.{Lock, Wait, TimedLock, TimedWait}
use Rattle.pif_types.specs.Shapes.{shape_of, deadline}
use Rattle.pif_model.specs.NamedNumbers.{ETIMEDOUT}
use Rattle.pif_model.specs.declared.events.Seen.{Seen}
use Rattle.pif_model.specs.declared.events.Seen.TheVariants.{Answered}
use Rattle.pif_model.specs.declared.lines.Timer.{Timer}

-- SPLITTING A REQUEST

-- the request without its deadline
abbrev pub plain : Request → Request
plain (TimedLock m d) = Lock m
plain (TimedWait c m d) = Wait c m
plain q = q

-- the deadline of a request, if it has one
abbrev pub deadline_of : Request → Option ℕ
deadline_of q = deadline (shape_of q)

-- a plain request with this deadline
abbrev pub with_deadline : ℕ → Request → Request
with_deadline d (Lock m) = TimedLock m d
with_deadline d (Wait c m) = TimedWait c m d
with_deadline d q = q

-- a plain request as it was made, with the deadline that it had
abbrev pub with_deadline_if_any : Option ℕ → Request → Request
with_deadline_if_any None q = q
with_deadline_if_any (Some d) q = with_deadline d q

-- TIMERS

-- the timer of a call that was begun without a deadline, and of a thread that has begun none
abbrev pub no_timer : Timer
no_timer = record { deadline = None; expired = false }

-- the timer of a call of this request when it begins
abbrev pub timer_of : Request → Timer
timer_of q = record { deadline = deadline_of q; expired = false }

-- the timer of a wait that has expired
abbrev pub ran_out : Timer → Timer
ran_out x = record x { expired = true }

-- whether the deadline is reached at this time: there is one, and the time is at least it
abbrev pub is_reached : Option ℕ → ℕ → Bool
is_reached None now = false
is_reached (Some d) now = if nat_lt now d then false else true

-- TELLING A RESULT

-- what a call with this result is answered: a wait that has expired ETIMEDOUT in place of 0; else the result
abbrev pub reported_result : Request → Bool → ℕ → ℕ
reported_result (Wait c m) true a = if a == 0 then ETIMEDOUT else a
reported_result q expired a = a

-- what a step shows, if it would show this of a call with no deadline
abbrev pub reported_seen : Request → Bool → Seen → Seen
reported_seen q expired (Answered a) = Answered (reported_result q expired a)
reported_seen q expired seen = seen
