-- Answers that no page of POSIX.1-2017 has among the errors of the call, in a run. What POSIX leaves undefined is none.
use Rattle.std.specs.Prelude.{ℕ, ◌≡◌, ◌+◌, ◌==◌, ◌||◌, Bool, false, not, nat_lt, List, [], ◌∷◌, Option, Some, None, length, if◌then◌else◌}
use Rattle.pif_types.specs.Bounds.{Bounds}
use Rattle.pif_types.specs.declared.requests.Request.{Request}
use Rattle.pif_types.specs.declared.requests.Request.TheVariants.{Consistent, Wait, Signal, Broadcast}
use Rattle.pif_model.specs.NamedNumbers.{EPERM, EINVAL, EDEADLK, EOVERFLOW}
use Rattle.pif_model.specs.World.{Call, World, thread_at, variable_at}
use Rattle.pif_posix_steps.specs.Doing.{all_blocked}
use Rattle.pif_rules_model.specs.declared.rules.Rules.{Rules}
use Rattle.pif_history_model.specs.declared.labels.Label.{Label}
use Rattle.pif_history_model.specs.declared.labels.Label.TheVariants.{Shown}
use Rattle.pif_history_model.specs.declared.lines.Line.{Line}
use Rattle.pif_history_model.specs.declared.lines.Line.TheVariants.{Answer}
use Rattle.pif_history_model.specs.Searched.{Configuration, start_of}
use Rattle.pif_history_told.specs.Steps.{IsStepBy}
use Rattle.pif_history_told.specs.declared.unlisted.Sought.{Sought}
use Rattle.pif_history_told.specs.declared.unlisted.Unlisted.{Unlisted}

-- Whether a wait on c with m is one with another mutex than the bound one while a thread is blocked on c, which POSIX
-- leaves undefined (pthread_cond_wait).
abbrev pub is_torn : World → (c m : ℕ) → Bool
is_torn w c m = if (variable_at w c).mutex == m then false else nat_lt 0 (length (all_blocked w c))

-- Whether no page has this answer of a call, in the state in which it is given:   EPERM of consistent
-- (pthread_mutex_consistent has EINVAL alone)   EINVAL and EDEADLK of a wait, timed or not (pthread_cond_wait has
-- ENOTRECOVERABLE, EOWNERDEAD and EPERM, and ETIMEDOUT   and EINVAL of a wrong time)   EOVERFLOW of a signal or a
-- broadcast (pthread_cond_broadcast has none)
abbrev pub is_unlisted : World → Request → (a : ℕ) → Bool
is_unlisted w (Consistent m) a = a == EPERM
is_unlisted w (Wait c m) a = if a == EINVAL then not (is_torn w c m) else a == EDEADLK
is_unlisted w (Signal c) a = a == EOVERFLOW
is_unlisted w (Broadcast c) a = a == EOVERFLOW
is_unlisted w q a = false

-- The answer of an open call, at this line, if it is one of these.
abbrev pub unlisted_call : World → (a line : ℕ) → Option Call → Option Unlisted
unlisted_call w a line None = None
unlisted_call w a line (Some x) =
    if is_unlisted w x.request a then Some (record { line = line; request = x.request; answer = a }) else None

-- The answer that a line tells in w, if it is one of these. The line is this one of the run.
abbrev pub unlisted_at : World → Line → (line : ℕ) → Option Unlisted
unlisted_at w (Answer t a) line = unlisted_call w a line (thread_at w t).call
unlisted_at w other line = None

-- The first of two.
abbrev pub first_of : (one two : Option Unlisted) → Option Unlisted
first_of None two = two
first_of (Some x) two = Some x

-- How many lines a run has shown, and the first such answer, with a step more from w.
abbrev pub with_step : Label → World → Sought → Sought
with_step (Shown line) w u =
    record { lines = u.lines + 1; first = first_of u.first (unlisted_at w line (u.lines + 1)) }
with_step x w u = u

-- Before the first step.
abbrev pub nothing_sought : Sought
nothing_sought = record { lines = 0; first = None }

-- A run of these labels, newest first, which leads from the start to s, has shown so many lines, and this is the first
-- such answer that it shows. It may use these rules.
pub data HasFirst (r : Rules) (l : Bounds) : List Label → Configuration → Sought → Type 0 where
  start : HasFirst r l [] (start_of l) nothing_sought
  then : {xs : List Label} {s : Configuration} {u : Sought} (x : Label) (by : Rules) (n : Configuration) → HasFirst r l xs s u
      → IsStepBy r l s x by n → HasFirst r l (x ∷ xs) n (with_step x s.wide.world u)

-- The first such answer that some run of these labels shows.
abbrev pub IsFirstUnlisted : Rules → Bounds → List Label → Option Unlisted → Type 0
IsFirstUnlisted r l labels found = (last : Configuration) × (u : Sought) × HasFirst r l labels last u × (u.first ≡ found)

-- Whether an answer may be one of these, whatever the call is.
abbrev pub may_be_unlisted : (a : ℕ) → Bool
may_be_unlisted a = (a == EPERM) || ((a == EINVAL) || ((a == EDEADLK) || (a == EOVERFLOW)))

-- Whether a line, or what a step shows, is such an answer.
abbrev pub is_suspect_line : Line → Bool
is_suspect_line (Answer t a) = may_be_unlisted a
is_suspect_line other = false

abbrev pub is_suspect : Label → Bool
is_suspect (Shown line) = is_suspect_line line
is_suspect x = false
