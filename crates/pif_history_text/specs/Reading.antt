-- What reading a history does: by the bytes that the reader gave, the history of them.
use Rattle.std.specs.Prelude.{ℕ, ◌≡◌, ◌≢◌, ◌+◌, ◌<◌, ◌≤◌, ◌⊎◌, Bool, List, [], ◌++◌, length, take, slice_index, Option, Result, Ok, Err}
use Rattle.std.specs.Io.KnownBytes.{Consumes, IsAtEnd, Keeps}
use Rattle.pif_script_model.specs.Lines.{lines}
use Rattle.pif_script_model.specs.Verdicts.{Fault}
use Rattle.pif_text_model.specs.declared.replies.Cause.{Cause}
use Rattle.pif_script_model.specs.declared.faults.CliFault.{CliFault}
use Rattle.pif_script_model.specs.declared.faults.CliFault.TheVariants.{Differs, NoMemory, Read, Script, Write}
use Rattle.pif_history_text.specs.declared.heard.History.{History}
use Rattle.pif_history_text.specs.declared.reading.TextSoFar.{TextSoFar}
use Rattle.pif_history_text.specs.Histories.{Heard, at_end, cut_off, heard_from, history_of, most_bytes, next_number, unheard}

-- A history as the code has it.
abbrev pub heard_of : History → Heard
heard_of h = record { named = h.named; allowed = h.allowed; shown = h.shown.items; numbers = h.numbers.items; count = h.count }

-- Each of its lines has a number.
abbrev pub IsPaired : History → Type 0
IsPaired h = length h.numbers.items ≡ length h.shown.items

-- A result that has a line's number with its fault, or wants memory, of what is `next` for a history.
abbrev pub Comes : Heard → (next : Result Heard Cause) → Heard → Result (Unit {0}) CliFault → Type 0
Comes h next m (Ok x) = next ≡ Ok m
Comes h next m (Err (Script line cause)) = (line ≡ next_number h) × (next ≡ Err cause)
Comes h next m (Err NoMemory) = Unit {0}
Comes h next m (Err (Differs line)) = ⊥
Comes h next m (Err Read) = ⊥
Comes h next m (Err Write) = ⊥

-- Where a text stands between two of its bytes.
pub record Place : Type 0 where
  -- What the lines before say.
  pub heard : Heard
  -- The bytes of the line so far.
  pub line : List ℕ

-- Before the first byte.
abbrev pub start : Place
start = record { heard = unheard; line = [] }

-- Where a text stands that the code has read so far.
abbrev pub place_of : TextSoFar → Place
place_of s = record { heard = heard_of s.history; line = s.line.items }

-- The history of a text that goes on with these bytes.
abbrev pub goes_on : (is_all : Bool) → Place → List ℕ → Result Heard Fault
goes_on is_all p rest = heard_from is_all p.heard (lines (p.line ++ rest))

-- These bytes bring a text from one place to another, or to its first fault, whatever stands after them.
abbrev pub Brings : Place → List ℕ → Place → Result (Unit {0}) CliFault → Type 0
Brings p bytes q (Ok x) = (is_all : Bool) (rest : List ℕ) → goes_on is_all p (bytes ++ rest) ≡ goes_on is_all q rest
Brings p bytes q (Err (Script line cause)) =
    (is_all : Bool) (rest : List ℕ) → goes_on is_all p (bytes ++ rest) ≡ Err (line, cause)
Brings p bytes q (Err NoMemory) = Unit {0}
Brings p bytes q (Err (Differs line)) = ⊥
Brings p bytes q (Err Read) = ⊥
Brings p bytes q (Err Write) = ⊥

-- No byte of these ends a line.
abbrev pub HasNoFeed : List ℕ → Type 0
HasNoFeed bytes = (k : ℕ) → k < length bytes → slice_index bytes k ≢ 10

-- The end of a text, after which there is nothing.
abbrev pub Closes : Place → Heard → Result (Unit {0}) CliFault → Type 0
Closes p m (Ok x) = at_end p.heard p.line ≡ Ok m
Closes p m (Err (Script line cause)) = at_end p.heard p.line ≡ Err (line, cause)
Closes p m (Err NoMemory) = Unit {0}
Closes p m (Err (Differs line)) = ⊥
Closes p m (Err Read) = ⊥
Closes p m (Err Write) = ⊥

-- The fault of a text that is cut off because it is too large.
abbrev pub IsCutOff : Place → CliFault → Type 0
IsCutOff p (Script line cause) = cut_off p.heard p.line ≡ Err (line, cause)
IsCutOff p NoMemory = ⊥
IsCutOff p (Differs line) = ⊥
IsCutOff p Read = ⊥
IsCutOff p Write = ⊥

-- A read gave so many bytes, none only at the end, or failed.
abbrev pub Gives : (before after : Option (List ℕ)) → (chunk : List ℕ) → Result ℕ CliFault → Type 0
Gives before after chunk (Ok count) =
    Consumes before after (take count chunk) × (count ≤ length chunk) × (count ≡ 0 → 0 < length chunk → IsAtEnd after)
Gives before after chunk (Err Read) = Keeps before after
Gives before after chunk (Err NoMemory) = ⊥
Gives before after chunk (Err (Script line cause)) = ⊥
Gives before after chunk (Err (Differs line)) = ⊥
Gives before after chunk (Err Write) = ⊥

-- So many of these bytes were taken from a place on, or there is a fault among them.
abbrev pub TakesSome : Place → List ℕ → Place → Result ℕ CliFault → Type 0
TakesSome p bytes q (Ok count) = (count ≤ length bytes) × Brings p (take count bytes) q (Ok tt)
TakesSome p bytes q (Err fault) = Brings p bytes q (Err fault)

-- A read gave bytes, at most so many and none only at the end, and they were taken; or there was a fault, or the read
-- failed.
abbrev pub TakesPart : (before after : Option (List ℕ)) → (most : ℕ) → Place → Place → Result ℕ CliFault → Type 0
TakesPart before after most p q (Ok count) =
    (bytes : List ℕ) × Consumes before after bytes × (length bytes ≡ count) × (count ≤ most)
    × (count ≡ 0 → IsAtEnd after) × Brings p bytes q (Ok tt)
TakesPart before after most p q (Err Read) = Keeps before after
TakesPart before after most p q (Err fault) =
    (bytes : List ℕ) × Consumes before after bytes × (length bytes ≤ most) × Brings p bytes q (Err fault)

-- So many bytes of a history were read, and brought its text from its start to a place.
pub record HasRead (before after : Option (List ℕ)) (taken : ℕ) (p : Place) : Type 0 where
  pub read : List ℕ
  pub consumes : Consumes before after read
  pub fits : length read ≡ taken
  pub brings : Brings start read p (Ok tt)

-- The first fault of the bytes that a reader has: it stands among those that were read, whatever stands after them, or
-- at the end of all.
abbrev pub IsFirstFault : (read : List ℕ) → (after : Option (List ℕ)) → Fault → Type 0
IsFirstFault read after fault =
    ((more : List ℕ) → history_of (read ++ more) ≡ Err fault) ⊎ (IsAtEnd after × (history_of read ≡ Err fault))

-- At most so many bytes were read: those of a history, and one more.
abbrev pub ReadsSome : (before after : Option (List ℕ)) → List ℕ → Type 0
ReadsSome before after read = Consumes before after read × (length read ≤ most_bytes + 1)

-- What reading the bytes of a history comes to, by what the reader had and has left.
--   a history: it is exactly that of all bytes, and none is left
--   a fault: it is their first
--   a read failed: the lines that had been read have no fault
--   out of memory: that may be anywhere
abbrev pub ReadsHistory : (before after : Option (List ℕ)) → Result Heard CliFault → Type 0
ReadsHistory before after (Ok h) =
    (read : List ℕ) × Consumes before after read × IsAtEnd after × (history_of read ≡ Ok h)
ReadsHistory before after (Err (Script line cause)) =
    (read : List ℕ) × ReadsSome before after read × IsFirstFault read after (line, cause)
ReadsHistory before after (Err Read) =
    (taken : ℕ) × (p : Place) × HasRead before after taken p × HasNoFeed p.line × (taken ≤ most_bytes)
ReadsHistory before after (Err NoMemory) = (read : List ℕ) × ReadsSome before after read
ReadsHistory before after (Err (Differs line)) = ⊥
ReadsHistory before after (Err Write) = ⊥

-- A history that was heard, if nothing failed.
abbrev pub with_heard : Heard → Result (Unit {0}) CliFault → Result Heard CliFault
with_heard h (Ok x) = Ok h
with_heard h (Err fault) = Err fault
