-- The same at a later time: each tick and each deadline is more by one number. Nothing else of a history is a time.
use Rattle.std.specs.Prelude.{ℕ, ◌+◌, map, Option, Some, None}
use Rattle.pif_types.specs.declared.requests.Request.{Request}
use Rattle.pif_types.specs.declared.requests.Request.TheVariants.{TimedLock, TimedWait}
use Rattle.pif_model.specs.Posix.{World, Thread}
use Rattle.pif_history_model.specs.declared.lines.Line.{Line}
use Rattle.pif_history_model.specs.declared.lines.Line.TheVariants.{Begin, Tick}
use Rattle.pif_history_model.specs.Plain.{PlainConfiguration}

-- a deadline, if there is one
abbrev pub later_deadline : ℕ → Option ℕ → Option ℕ
later_deadline n None = None
later_deadline n (Some d) = Some (d + n)

-- a request with its deadline, if it has one
abbrev pub later_request : ℕ → Request → Request
later_request n (TimedLock m d) = TimedLock m (d + n)
later_request n (TimedWait c m d) = TimedWait c m (d + n)
later_request n q = q

-- a line
abbrev pub later_line : ℕ → Line → Line
later_line n (Begin t q) = Begin t (later_request n q)
later_line n (Tick k) = Tick (k + n)
later_line n x = x

-- a thread, with the deadline of its call
abbrev pub later_thread : ℕ → Thread → Thread
later_thread n x =
    record x { timer = record { deadline = later_deadline n x.timer.deadline; expired = x.timer.expired } }

-- a state
abbrev pub later_world : ℕ → World → World
later_world n w = record w { threads = map (later_thread n) w.threads; time = w.time + n }

abbrev pub later : ℕ → PlainConfiguration → PlainConfiguration
later n s = record s { world = later_world n s.world }

-- the same state at this time, with the deadlines as they are
abbrev pub with_time : ℕ → PlainConfiguration → PlainConfiguration
with_time k s = record s { world = record s.world { time = k } }
