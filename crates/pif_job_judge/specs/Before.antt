-- What the lines of a history tell of whether the next one is refused, in one table for all threads.
use Rattle.std.specs.Prelude.{ℕ, ◌≡◌, ◌<◌, ◌≤◌, ◌-◌, ◌+◌, take, slice_get, Option, Some, None, ◌&&◌, ◌||◌, ◌==◌, Bool, true, false, not, nat_lt, List, [], ◌∷◌, ◌++◌, length, get_or, slice_set, if◌then◌else◌}
use Rattle.pif_types.specs.Bounds.{Bounds}
use Rattle.pif_model.specs.Graph.{is_priority}
use Rattle.pif_model.specs.Posix.{names_known}
use Rattle.pif_history_model.specs.declared.lines.Line.{Line}
use Rattle.pif_history_model.specs.declared.lines.Line.TheVariants.{Thread, Mutex, Cond, Begin, Answer, Dying, End, Tick, Rests, Prio, Process, Halted, Resumed, Asks}
use Rattle.pif_history_model.specs.Lines.{is_among, dying_by, halted_after, halted_by}
use Rattle.pif_history_model.specs.declared.refusals.LineRefusal.{LineRefusal}
use Rattle.pif_history_model.specs.Refused.{conds_in, is_gone, is_known, is_open, mutexes_in, threads_in, time_by}
use Rattle.pif_history_machine.specs.Verdicts.{IsRefusalThere}
use Rattle.pif_job_judge.specs.declared.before.Refused.{Refused}
use Rattle.pif_job_judge.specs.declared.before.Counts.{Counts}
use Rattle.pif_job_judge.specs.declared.before.Come.{Come}

-- nothing is told of a thread
abbrev pub nothing : Come
nothing = record { calling = false; gone = false; dying = false }

-- these lines, newest first, tell this of t
pub record HasCome (lines : List Line) (t : ℕ) (x : Come) : Type 0 where
  pub calling : x.calling ≡ is_open lines t
  pub gone : x.gone ≡ is_gone lines t
  pub dying : x.dying ≡ is_among (dying_by lines) t

-- they tell this of what was added, of the time, and of whether anything runs
pub record IsCounted (lines : List Line) (x : Counts) : Type 0 where
  pub halted : x.halted ≡ halted_by lines
  pub mutexes : x.mutexes ≡ mutexes_in lines
  pub conds : x.conds ≡ conds_in lines
  pub time : x.time ≡ time_by lines

-- they tell this of the threads, each at the place of its number
pub record HaveCome (lines : List Line) (threads : List Come) : Type 0 where
  pub count : length threads ≡ threads_in lines + 1
  pub nobody : get_or threads 0 nothing ≡ nothing
  pub each : (t : ℕ) → HasCome lines t (get_or threads t nothing)

-- what a line tells of its thread, if this was told before
abbrev pub come_after : Line → Come → Come
come_after (Begin t q) x = record x { calling = true }
come_after (Answer t a) x = record x { calling = false }
come_after (Dying t) x = record x { gone = true; dying = true }
come_after (End t) x = record x { gone = true; dying = false }
come_after line x = x

-- the threads after one line more
abbrev pub at_thread : Line → (t : ℕ) → List Come → List Come
at_thread line t threads = slice_set threads t (come_after line (get_or threads t nothing))

abbrev pub threads_after : Line → List Come → List Come
threads_after (Thread p) threads = threads ++ nothing ∷ []
threads_after (Begin t q) threads = at_thread (Begin t q) t threads
threads_after (Answer t a) threads = at_thread (Answer t a) t threads
threads_after (Dying t) threads = at_thread (Dying t) t threads
threads_after (End t) threads = at_thread (End t) t threads
threads_after line threads = threads

-- what is counted after it
abbrev pub counted_after : Line → Counts → Counts
counted_after (Mutex k r p) x = record x { mutexes = x.mutexes + 1 }
counted_after (Cond m) x = record x { conds = x.conds + 1 }
counted_after (Tick n) x = record x { time = n }
counted_after line x = record x { halted = halted_after line x.halted }

-- whether t was added
abbrev pub is_added : List Come → (t : ℕ) → Bool
is_added threads t = if t == 0 then false else nat_lt t (length threads)

-- whether t was added, and is neither dying nor has ended
abbrev pub lives : List Come → (t : ℕ) → Bool
lives threads t = is_added threads t && not (get_or threads t nothing).gone

-- whether a line may come behind lines that tell this, while threads run
abbrev pub is_taken : Bounds → List Come → Counts → Line → Bool
is_taken l threads x (Thread p) = is_priority p && nat_lt (length threads) (l.threads + 1)
is_taken l threads x (Mutex k r p) = nat_lt x.mutexes l.mutexes
is_taken l threads x (Cond m) = is_known x.mutexes m && nat_lt x.conds l.conds
is_taken l threads x (Begin t q) =
    lives threads t && (not (get_or threads t nothing).calling && names_known (is_known x.mutexes) (is_known x.conds) q)
is_taken l threads x (Answer t a) = lives threads t && (get_or threads t nothing).calling
is_taken l threads x (Dying t) = lives threads t
is_taken l threads x (End t) = (get_or threads t nothing).dying || lives threads t
is_taken l threads x (Tick n) = not (nat_lt n x.time)
is_taken l threads x (Rests t) = lives threads t
is_taken l threads x (Prio t p) = lives threads t
is_taken l threads x (Process t) = is_added threads t && not (get_or threads t nothing).dying
is_taken l threads x Halted = true
is_taken l threads x Resumed = true
is_taken l threads x (Asks f b) = true

-- the nth of these lines, oldest first, is refused for this reason
abbrev pub IsRefusedAt : Bounds → List Line → (n : ℕ) → LineRefusal → Type 0
IsRefusedAt l lines n why =
    (1 ≤ n) × (n ≤ length lines) × ((line : Line) × (slice_get lines (n - 1) ≡ Some line)
    × IsRefusalThere l (take (n - 1) lines) line (Some why))

-- none of the first n is refused
abbrev pub AreTaken : Bounds → List Line → (n : ℕ) → Type 0
AreTaken l lines n =
    (k : ℕ) → k < n → (line : Line) → slice_get lines k ≡ Some line → IsRefusalThere l (take k lines) line None

-- the first that is refused is this; or none is
abbrev pub IsFirstRefused : Bounds → List Line → Option Refused → Type 0
IsFirstRefused l lines None = AreTaken l lines (length lines)
IsFirstRefused l lines (Some x) = IsRefusedAt l lines x.count x.why × AreTaken l lines (x.count - 1)
