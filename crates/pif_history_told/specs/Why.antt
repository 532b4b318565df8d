-- What is known of a line of a history up to which there is no run, and which call is open there.
use Rattle.std.specs.Prelude.{ℕ, ◌≡◌, ◌-◌, ◌==◌, Bool, true, false, List, [], ◌∷◌, count_by, length, reverse, take, slice_get, Option, Some, None, if◌then◌else◌}
use Rattle.pif_history_model.specs.declared.lines.Line.{Line}
use Rattle.std.specs.List.{flat_map}
use Rattle.pif_history_model.specs.declared.lines.Line.TheVariants.{Answer, Begin, Prio, Thread}
use Rattle.pif_history_model.specs.Numbers.{up_to}
use Rattle.pif_history_model.specs.Verdicts.{ArePossibleAnswers, ArePossiblePriorities}
use Rattle.pif_history_machine.specs.Verdicts.{IsRefusalThere}
use Rattle.pif_history_text.specs.Histories.{Heard, limits_of}
use Rattle.pif_history_told.specs.declared.verdicts.Began.{Began}
use Rattle.pif_history_told.specs.declared.verdicts.Known.{Known}
use Rattle.pif_history_told.specs.declared.verdicts.Known.TheVariants.{Refused, Numbers, Nothing}
use Rattle.pif_history_told.specs.declared.telling.Says.{Says}
use Rattle.pif_history_told.specs.declared.telling.Says.TheVariants as says

-- A line of a history, the nth, has this number in the text.
abbrev pub IsNumbered : Heard → (n : ℕ) → (number : ℕ) → Type 0
IsNumbered h n number = slice_get h.numbers (n - 1) ≡ Some number

-- Exactly these numbers may stand, by the rules that a history allows, in a line after its first `before` lines: as its
-- answer, or its priority.
abbrev pub ArePossible : (h : Heard) → (before : ℕ) → Line → List ℕ → Type 0
ArePossible h before (Answer t a) numbers = ArePossibleAnswers h.allowed (limits_of h) (take before h.shown) t numbers
ArePossible h before (Prio t p) numbers = ArePossiblePriorities h.allowed (limits_of h) (take before h.shown) t numbers
ArePossible h before line numbers = ⊥

-- Whether a line has a number that may be another one: an answer, or a priority.
abbrev pub has_number : Line → Bool
has_number (Answer t a) = true
has_number (Prio t p) = true
has_number line = false

-- What is known of the line after the first `before` lines of a history is so: why it is refused; else its numbers, if
-- it has any and they were found.
abbrev pub IsKnown : (h : Heard) → (before : ℕ) → Line → Known → Type 0
IsKnown h before line (Refused why) = IsRefusalThere (limits_of h) (take before h.shown) line (Some why)
IsKnown h before line (Numbers (Some numbers)) =
    IsRefusalThere (limits_of h) (take before h.shown) line None × ArePossible h before line numbers.items
IsKnown h before line (Numbers None) =
    IsRefusalThere (limits_of h) (take before h.shown) line None × (has_number line ≡ true)
IsKnown h before line Nothing =
    IsRefusalThere (limits_of h) (take before h.shown) line None × (has_number line ≡ false)

-- What a line says of the call of t.
abbrev pub said_of : (t : ℕ) → Line → Says
said_of t (Begin u q) = if u == t then says.Begins q else says.Nothing
said_of t (Answer u a) = if u == t then says.Answers else says.Nothing
said_of t line = says.Nothing

-- The call that t has open after the nth line, which says this, if it had this one open before.
abbrev pub open_behind : (t n : ℕ) → Says → Option Began → Option Began
open_behind t n (says.Begins q) before = Some (record { number = n; thread = t; request = q })
open_behind t n says.Answers before = None
open_behind t n says.Nothing before = before

-- The call that t has open after these lines, newest first, with the numbers of the lines: its newest begin, if no
-- answer of t stands after it.
abbrev pub open_call : (t : ℕ) → List Line → (numbers : List ℕ) → Option Began
open_call t [] numbers = None
open_call t (line ∷ lines) [] = None
open_call t (line ∷ lines) (n ∷ numbers) = open_behind t n (said_of t line) (open_call t lines numbers)

-- The call that the thread of a line has open after the first `before` lines of a history; none if it is no line of a
-- thread.
abbrev pub open_of : (thread : Option ℕ) → Heard → (before : ℕ) → Option Began
open_of (Some t) h before = open_call t (reverse (take before h.shown)) (reverse (take before h.numbers))
open_of None h before = None

-- THE END OF A HISTORY

-- Whether a line adds a thread.
abbrev pub is_thread : Line → Bool
is_thread (Thread p) = true
is_thread line = false

-- How many threads a history adds.
abbrev pub threads_in : Heard → ℕ
threads_in h = count_by is_thread h.shown

-- The call that t has open after all lines of a history, if it has one.
abbrev pub open_of_thread : Heard → (t : ℕ) → List Began
open_of_thread h t = elim (open_of (Some t) h (length h.shown)) [ Some b ↦ b ∷ [] | None ↦ [] ]

-- The calls that are open after all of them, in the order of the threads' numbers.
abbrev pub open_at_end : Heard → List Began
open_at_end h = flat_map (open_of_thread h) (up_to (threads_in h))
