-- Where a history is quiet, by its lines alone: no call is open, nobody holds a mutex, and no thread is dying. (An
-- object with no pending call is quiescent: Herlihy and Shavit, The Art of Multiprocessor Programming, quiescent
-- consistency. Here nothing may be held besides.) Lines are listed newest first.
use Rattle.std.specs.Prelude.{ℕ, ◌≡◌, List, [], ◌∷◌, Option, Some, None}
use Rattle.pif_types.specs.declared.requests.Request.{Request}
use Rattle.pif_types.specs.declared.requests.Request.TheVariants.{SetPrio}
use Rattle.pif_model.specs.declared.events.Event.TheVariants as event
use Rattle.pif_model.specs.declared.events.Seen.TheVariants as seen
use Rattle.pif_model.specs.declared.events.Entry.{Entry}
use Rattle.pif_model.specs.declared.events.Entry.TheVariants as entry
use Rattle.pif_model.specs.History.{open_call, hold_count}
use Rattle.pif_history_model.specs.declared.lines.Line.{Line}
use Rattle.pif_history_model.specs.declared.lines.Line.TheVariants.{Begin, Answer, Dying, End}
use Rattle.pif_history_model.specs.Lines.{dying_by}

-- WHAT THREADS HAVE BY THE LINES

-- these entries, and behind them the one that a line shows, if it begins a call, answers one, or says that a thread has
-- ended. No other line opens or closes a call, or changes who holds what
abbrev pub with_entry : Line → List Entry → List Entry
with_entry (Begin t q) h = entry.Step (event.Begin t q) seen.Begun ∷ h
with_entry (Answer t a) h = entry.Step (event.Go t) (seen.Answered a) ∷ h
with_entry (End t) h = entry.Step (event.End t) seen.Ended ∷ h
with_entry x h = h

-- the entries that lines show, of those
abbrev pub entries_by : List Line → List Entry
entries_by [] = []
entries_by (x ∷ xs) = with_entry x (entries_by xs)

-- t's open call, without its deadline
abbrev pub call_by : List Line → ℕ → Option Request
call_by lines t = open_call t (entries_by lines)

-- how often t holds m by the answers
abbrev pub holds_by : List Line → (t m : ℕ) → ℕ
holds_by lines t m = hold_count t m (entries_by lines)

-- t has no call open, and holds no mutex
pub record IsIdle (lines : List Line) (t : ℕ) : Type 0 where
  pub closed : call_by lines t ≡ None
  pub free : (m : ℕ) → holds_by lines t m ≡ 0

-- ORDER

-- the thread whose base priority an open call changes
abbrev pub changed_by : Option Request → Option ℕ
changed_by (Some (SetPrio u p)) = Some u
changed_by _ = None

-- no open call changes the priority that this one changes, if it changes any
abbrev pub ChangesAlone : List Line → Request → Type 0
ChangesAlone lines q = (t u : ℕ) → changed_by (Some q) ≡ Some u → changed_by (call_by lines t) ≡ Some u → ⊥

-- what a line may have before it if a history can be cut behind it: a thread ends with no call open, and holding
-- nothing; and no two calls change the priority of a thread at a time
abbrev pub IsOrderly : Line → List Line → Type 0
IsOrderly (Begin t q) before = ChangesAlone before q
IsOrderly (Dying t) before = IsIdle before t
IsOrderly (End t) before = IsIdle before t
IsOrderly x before = Unit {0}

-- each line has that before it
abbrev pub AreOrderly : List Line → Type 0
AreOrderly [] = Unit {0}
AreOrderly (x ∷ xs) = IsOrderly x xs × AreOrderly xs

-- A history is quiet behind these lines: every thread is idle, none is dying, and the lines are orderly.
pub record IsQuiet (lines : List Line) : Type 0 where
  pub orderly : AreOrderly lines
  pub idle : (t : ℕ) → IsIdle lines t
  pub nobody_dying : dying_by lines ≡ []
