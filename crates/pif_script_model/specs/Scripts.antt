-- Scripts and traces as bytes: their lines, the answers to them, and how they end.
use Rattle.std.specs.Prelude.{ℕ, ◌≡◌, ◌<◌, ◌+◌, ◌==◌, nat_lt, List, [], ◌∷◌, ◌++◌, length, take, Option, Some, None, Result, Ok, Err, if◌then◌else◌}
use Rattle.pif_text_model.specs.declared.replies.Cause.{Cause}
use Rattle.pif_text_model.specs.declared.replies.Cause.TheVariants.{Size, Long, Cut}
use Rattle.pif_text_model.specs.declared.traces.Version.{Version}
use Rattle.pif_text_model.specs.Traces.{version_in}
use Rattle.pif_script_model.specs.declared.ending.Ending.{Ending}
use Rattle.pif_script_model.specs.declared.ending.Ending.TheVariants.{Fault, Differs}
use Rattle.pif_script_model.specs.declared.ending.End.{End}
use Rattle.pif_script_model.specs.declared.ending.OpenFault.{OpenFault}
use Rattle.pif_script_model.specs.declared.ending.OpenFault.TheVariants.{Ended as OpenEnded, NoMemory as OpenNoMemory}
use Rattle.pif_script_model.specs.declared.ending.Stop.{Stop}
use Rattle.pif_script_model.specs.declared.ending.Stop.TheVariants.{Ended as StopEnded, NoMemory as StopNoMemory}

-- what a line means to a listener: what it is answered and the listener afterwards, or how it ends the script
abbrev pub Meaning : Type 0 → Type 0
Meaning S = Result (List ℕ × S) Ending

-- what a line means while there is no listener: it makes one, or it is passed over, or it ends the script
abbrev pub FirstMeaning : Type 0 → Type 0
FirstMeaning S = Result (Option (List ℕ × S)) Ending

-- how a script is heard
pub record Hearing (S : Type 0) : Type 0 where
  -- what a line means while there is no listener, by the version that the first line named, if it was passed over
  pub first_meaning : Option Version → List ℕ → FirstMeaning S
  -- what a line means to a listener
  pub meaning : S → List ℕ → Meaning S
  -- what is said at the end, where the next line would have this number, or why the end is a fault
  pub end_text : ℕ → Result (List ℕ) Cause
  -- what is said of the line that ends a script
  pub said_of : End → List ℕ

-- a line makes a listener, for all that its own bytes say: it is no fault, and it is not passed over; whether it
-- differs is known once there is a listener
abbrev pub NeedsListener : {S : Type 0} → FirstMeaning S → Type 0
NeedsListener (Ok (Some m)) = Unit {0}
NeedsListener (Ok None) = ⊥
NeedsListener (Err (Differs reply)) = Unit {0}
NeedsListener (Err (Fault cause)) = ⊥

-- a line was answered so while there was no listener: it made one, or was passed over; memory ran out for one that
-- it needs
abbrev pub Opens : {S : Type 0} → FirstMeaning S → (old new : List ℕ) → Result (Option S) OpenFault → Type 0
Opens meant old new (Ok (Some s)) = (text : List ℕ) × (meant ≡ Ok (Some (text, s))) × (new ≡ old ++ text)
Opens meant old new (Ok None) = (meant ≡ Ok None) × (new ≡ old)
Opens meant old new (Err (OpenEnded e)) = (meant ≡ Err e) × (new ≡ old)
Opens meant old new (Err OpenNoMemory) = NeedsListener meant × (new ≡ old)

-- a line was answered so by a listener, and left it as s
abbrev pub Hears : {S : Type 0} → Meaning S → (old new : List ℕ) → S → Result (Unit {0}) Ending → Type 0
Hears meant old new s (Ok x) = (text : List ℕ) × (meant ≡ Ok (text, s)) × (new ≡ old ++ text)
Hears meant old new s (Err e) = (meant ≡ Err e) × (new ≡ old)

-- a text was appended, or nothing if there is none to tell
abbrev pub Tells : {E : Type 0} → Result (List ℕ) E → (old new : List ℕ) → Result (Unit {0}) E → Type 0
Tells told old new (Ok x) = (text : List ℕ) × (told ≡ Ok text) × (new ≡ old ++ text)
Tells told old new (Err e) = (told ≡ Err e) × (new ≡ old)

-- where a script stands between two of its bytes
pub record Scan (S : Type 0) : Type 0 where
  -- who answers its lines; nobody before a line makes one
  pub listener : Option S
  -- the version that the first line named, as the header of a trace does; none before the end of that line
  pub version : Option Version
  -- the bytes of the line so far
  pub line : List ℕ
  -- the number of that line, from 1
  pub number : ℕ
  -- how many bytes came before
  pub taken : ℕ

-- what bytes are answered: the text, and where the script stands after them, or the line that ends it
pub record Reading (S : Type 0) : Type 0 where
  pub text : List ℕ
  pub stands : Result (Scan S) End

-- where a script stands before its first byte
abbrev pub start : {S : Type 0} → Scan S
start = record { listener = None; version = None; line = []; number = 1; taken = 0 }

-- the line at which the script stands ends it so
abbrev pub end_at : {S : Type 0} → Scan S → Ending → End
end_at s e = record { line = s.number; ending = e }

-- the answer to a line, and the listener afterwards
abbrev pub Answered : Type 0 → Type 0
Answered S = Result (List ℕ × Option S) Ending

abbrev pub answered_first : {S : Type 0} → FirstMeaning S → Answered S
answered_first (Ok (Some m)) = Ok (m.0, Some m.1)
answered_first (Ok None) = Ok ([], None)
answered_first (Err e) = Err e

abbrev pub answered_later : {S : Type 0} → Meaning S → Answered S
answered_later (Ok m) = Ok (m.0, Some m.1)
answered_later (Err e) = Err e

-- what the line so far is answered by this listener, or by nobody
abbrev pub answer_to_line : {S : Type 0} → Hearing S → Option S → Option Version → (line : List ℕ) → Answered S
answer_to_line h None version line = answered_first (h.first_meaning version line)
answer_to_line h (Some l) version line = answered_later (h.meaning l line)

-- what the line is answered at which the script stands
abbrev pub line_answer : {S : Type 0} → Hearing S → Scan S → Answered S
line_answer h s = answer_to_line h s.listener s.version s.line

-- the version that the first line names, once it has ended
abbrev pub version_after : {S : Type 0} → Scan S → Option Version
version_after s = if s.number == 1 then version_in s.line else s.version

-- the byte LF ends the line, which is answered so
abbrev pub after_line : {S : Type 0} → Scan S → Answered S → Result (List ℕ × Scan S) End
after_line s (Ok m) = Ok (
  m.0,
  record { listener = m.1; version = version_after s; line = []; number = s.number + 1; taken = s.taken + 1 },
)
after_line s (Err e) = Err (end_at s e)

-- one more byte of the line
abbrev pub with_byte : {S : Type 0} → Scan S → ℕ → Scan S
with_byte s b = record s { line = s.line ++ b ∷ []; taken = s.taken + 1 }

-- one byte: past 16,777,216 bytes it is `size`, else LF ends the line, else past 120 bytes of a line it is `long`
unfoldable pub byte_taken : {S : Type 0} → Hearing S → Scan S → ℕ → Result (List ℕ × Scan S) End
byte_taken h s b =
    if nat_lt s.taken 16777216 then
    (if b == 10 then after_line s (line_answer h s) else
    (if nat_lt (length s.line) 120 then Ok ([], with_byte s b) else Err (end_at s (Fault Long))))
    else Err (end_at s (Fault Size))

-- bytes one after the other, up to the first line that ends the script
unfoldable pub reading_of : {S : Type 0} → Hearing S → Scan S → List ℕ → Reading S
reading_of h s [] = record { text = []; stands = Ok s }
reading_of h s (b ∷ bs) =
    elim (byte_taken h s b) [
      | Ok m ↦ record { text = m.0 ++ (reading_of h m.1 bs).text; stands = (reading_of h m.1 bs).stands }
      | Err f ↦ record { text = []; stands = Err f }
    ]

-- what is said at the end of a script that ends there, or why the end is a fault
abbrev pub at_end : {S : Type 0} → Scan S → Result (List ℕ) Cause → Result (List ℕ) End
at_end s (Ok text) = Ok text
at_end s (Err c) = Err (end_at s (Fault c))

-- a script that stands there at its end: an end inside a line is `cut`
abbrev pub closed_at : {S : Type 0} → Hearing S → Scan S → Result (List ℕ) End
closed_at h s = if length s.line == 0 then at_end s (h.end_text s.number) else Err (end_at s (Fault Cut))

-- how a script ends that ends there: what is said at its end, or which line ended it, and how
abbrev pub ended_by : {S : Type 0} → Hearing S → Result (Scan S) End → Result (List ℕ) End
ended_by h (Err e) = Err e
ended_by h (Ok s) = closed_at h s

-- a line of this number was answered so by this listener, or by nobody, and m answers the next
abbrev pub Answers : {S : Type 0} → Hearing S → Option S → Option Version → (line : List ℕ) → ℕ → (old new : List ℕ)
    → Option S → Result (Unit {0}) Stop → Type 0
Answers h l version line number old new m (Ok x) =
    (text : List ℕ) × (answer_to_line h l version line ≡ Ok (text, m)) × (new ≡ old ++ text)
Answers h l version line number old new m (Err (StopEnded e)) =
    (answer_to_line h l version line ≡ Err e.ending) × (e.line ≡ number) × (new ≡ old)
Answers h l version line number old new m (Err StopNoMemory) =
    (l ≡ None) × NeedsListener (h.first_meaning version line) × (new ≡ old)

-- this byte ends a line that needs a listener, and there is none
abbrev pub NeedsAt : {S : Type 0} → Hearing S → Scan S → ℕ → Type 0
NeedsAt h s b = (s.listener ≡ None) × NeedsListener (h.first_meaning s.version s.line) × (b ≡ 10) × (s.taken < 16777216)

-- one of these bytes does, and those before it have no fault
abbrev pub NeedsIn : {S : Type 0} → Hearing S → Scan S → List ℕ → Type 0
NeedsIn {S = S} h s bs =
    (front : List ℕ) × (t : Scan S) × (b : ℕ) × (rest : List ℕ) × (bs ≡ front ++ b ∷ rest)
    × ((reading_of h s front).stands ≡ Ok t) × NeedsAt h t b

-- a byte was answered so, and left the script at t
abbrev pub Takes : {S : Type 0} → Hearing S → Scan S → ℕ → (old new : List ℕ) → Scan S → Result (Unit {0}) Stop → Type 0
Takes h s b old new t (Ok x) = (text : List ℕ) × (byte_taken h s b ≡ Ok (text, t)) × (new ≡ old ++ text)
Takes h s b old new t (Err (StopEnded e)) = (byte_taken h s b ≡ Err e) × (new ≡ old)
Takes h s b old new t (Err StopNoMemory) = NeedsAt h s b × (new ≡ old)

-- bytes were answered so, all of them, and left the script at t
abbrev pub TakesAll : {S : Type 0} → Hearing S → Scan S → List ℕ → (old new : List ℕ) → Scan S → Result (Unit {0}) Stop
    → Type 0
TakesAll h s bs old new t (Ok x) =
    ((reading_of h s bs).stands ≡ Ok t) × (new ≡ old ++ (reading_of h s bs).text)
TakesAll h s bs old new t (Err (StopEnded e)) =
    ((reading_of h s bs).stands ≡ Err e) × (new ≡ old ++ (reading_of h s bs).text)
TakesAll h s bs old new t (Err StopNoMemory) = NeedsIn h s bs × (new ≡ old)

-- so many of these bytes were answered so, and left the script at t; or one of them ended it
abbrev pub TakesSome : {S : Type 0} → Hearing S → Scan S → List ℕ → (old new : List ℕ) → Scan S → Result ℕ Stop → Type 0
TakesSome h s bs old new t (Ok count) = TakesAll h s (take count bs) old new t (Ok tt)
TakesSome h s bs old new t (Err e) = TakesAll h s bs old new t (Err e)
