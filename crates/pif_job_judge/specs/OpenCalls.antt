-- The calls that are open at the end of a legal history, and whether any of them can be answered yet.
use Rattle.std.specs.Prelude.{ℕ, ◌≡◌, ◌≤◌, ◌==◌, ◌&&◌, Bool, true, false, List, [], ◌∷◌, length, All}
use Rattle.std.specs.List.{list_any}
use Rattle.pif_types.specs.declared.requests.Request.{Request}
use Rattle.pif_types.specs.declared.requests.Request.TheVariants.{TimedLock, TimedWait}
use Rattle.pif_history_model.specs.declared.lines.Line.{Line}
use Rattle.pif_history_model.specs.declared.lines.Line.TheVariants.{Dying, End, Process}
use Rattle.pif_history_model.specs.Verdicts.{ArePossibleAnswers}
use Rattle.pif_history_text.specs.Histories.{Heard, limits_of}
use Rattle.pif_history_told.specs.declared.ends.AtEnd.{AtEnd}
use Rattle.pif_history_told.specs.declared.verdicts.Began.{Began}
use Rattle.pif_history_told.specs.Why.{open_at_end}

-- Whether a call has a deadline, so that time may end it.
abbrev pub has_deadline : Request → Bool
has_deadline (TimedLock m d) = true
has_deadline (TimedWait c m d) = true
has_deadline q = false

-- Whether a line is the end of t.
abbrev pub is_end_of : (t : ℕ) → Line → Bool
is_end_of t (End u) = u == t
is_end_of t line = false

-- Whether the thread that is about to end by a line, if one is, has ended by the lines after it.
abbrev pub is_ended : Line → (behind : List Line) → Bool
is_ended (Dying t) behind = list_any (is_end_of t) behind
is_ended (Process t) behind = list_any (is_end_of t) behind
is_ended line behind = true

-- Whether each thread that was about to end has ended, by all these lines, oldest first.
abbrev pub all_ended : List Line → Bool
all_ended [] = true
all_ended (line ∷ behind) = is_ended line behind && all_ended behind

-- These calls stay open unless another call begins or a thread ends: some run shows the lines of the history, and none
-- shows them and then an answer of one of these calls. No call has a deadline, and no thread is about to end.
pub record IsDeadlock (h : Heard) (calls : List Began) : Type 0 where
  pub some : 1 ≤ length calls
  pub timeless : list_any (λ b. has_deadline b.request) calls ≡ false
  pub ended : all_ended h.shown ≡ true
  pub stuck : All (λ b. ArePossibleAnswers h.allowed (limits_of h) h.shown b.thread []) calls

-- What is told at the end of a history is so.
pub record IsAtEnd (h : Heard) (x : AtEnd) : Type 0 where
  pub calls : x.calls.items ≡ open_at_end h
  pub deadlock : x.deadlock ≡ true → IsDeadlock h x.calls.items
