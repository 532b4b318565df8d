-- What a run over a reader and a writer does: by the bytes that the reader gave, what the writer was given.
use Rattle.std.specs.Prelude.{ℕ, ◌≡◌, Bool, true, false, List, [], ◌∷◌, ◌++◌, Option, Result, Ok, Err, is_ok}
use Rattle.std.specs.Io.KnownBytes.{Appends, Consumes, IsAtEnd, Keeps}
use Rattle.pif_text_model.specs.declared.replies.Reply.{Reply}
use Rattle.pif_text_model.specs.Replies.{fault_of}
use Rattle.pif_text_model.specs.Traces.{differs_of}
use Rattle.pif_script_model.specs.declared.faults.CliFault.{CliFault}
use Rattle.pif_script_model.specs.declared.faults.CliFault.TheVariants.{Read, Write, NoMemory, Script, Differs}
use Rattle.pif_script_model.specs.declared.ending.Ending.{Ending}
use Rattle.pif_script_model.specs.declared.ending.Ending.TheVariants as ending
use Rattle.pif_script_model.specs.declared.ending.End.{End}
use Rattle.pif_script_model.specs.Scripts.{Hearing, Scan, Reading, reading_of, ended_by, NeedsIn}

-- a proper part of the bytes was written, from their front
abbrev pub WritesPart : (held holds : Option (List ℕ)) → List ℕ → Type 0
WritesPart held holds bytes =
    (done : List ℕ) × (rest : List ℕ) × (bytes ≡ done ++ rest) × (rest ≡ [] → ⊥) × Appends held holds done

-- the bytes were written, or a proper part of them
abbrev pub Writes : (held holds : Option (List ℕ)) → List ℕ → Result (Unit {0}) CliFault → Type 0
Writes held holds bytes (Ok x) = Appends held holds bytes
Writes held holds bytes (Err Write) = WritesPart held holds bytes
Writes held holds bytes (Err Read) = ⊥
Writes held holds bytes (Err NoMemory) = ⊥
Writes held holds bytes (Err (Script line cause)) = ⊥
Writes held holds bytes (Err (Differs line)) = ⊥

-- the text of a line that ends a script so: a fault, or a difference
abbrev pub ending_text : ℕ → Ending → List ℕ
ending_text line (ending.Fault cause) = fault_of line cause
ending_text line (ending.Differs reply) = differs_of line reply

-- the line that such an end prints
abbrev pub end_line : End → List ℕ
end_line e = ending_text e.line e.ending ++ 10 ∷ []

-- the last that a script prints that ends so, by what is said of the line that ends it
abbrev pub last_text : (End → List ℕ) → Result (List ℕ) End → List ℕ
last_text said (Ok text) = text
last_text said (Err e) = said e

-- what is written for a script that ends there: what its lines are answered, and then what its end prints
abbrev pub output_of : {S : Type 0} → Hearing S → Reading S → List ℕ
output_of h f = f.text ++ last_text h.said_of (ended_by h f.stands)

-- a run that read these bytes from where the script stood at s:
--   ended well: all was read, no line ended it, and their output was written
--   a fault: it is the first of these bytes, or they end there and all was read; their output was written
--   a difference: it is the first of these bytes, before any fault; their output was written
--   a read failed: no line of these bytes ended it so far, and what their lines are answered was written
--   a write failed: a proper part of their output was written, from its front
--   out of memory: a line of these bytes needs a listener, it and those before it have no fault, and nothing was
--     written
abbrev pub EndsAfter : {S : Type 0} → Hearing S → Scan S → List ℕ → (after held holds : Option (List ℕ))
    → Result (Unit {0}) CliFault → Type 0
EndsAfter h s read after held holds (Ok x) =
    (is_ok (ended_by h (reading_of h s read).stands) ≡ true) × IsAtEnd after
    × Appends held holds (output_of h (reading_of h s read))
EndsAfter h s read after held holds (Err (Script line cause)) =
    (ended_by h (reading_of h s read).stands ≡ Err (record { line = line; ending = ending.Fault cause }))
    × (is_ok (reading_of h s read).stands ≡ true → IsAtEnd after)
    × Appends held holds (output_of h (reading_of h s read))
EndsAfter h s read after held holds (Err (Differs line)) =
    ((reply : Reply) × (ended_by h (reading_of h s read).stands
    ≡ Err (record { line = line; ending = ending.Differs reply })))
    × Appends held holds (output_of h (reading_of h s read))
EndsAfter h s read after held holds (Err Read) =
    (is_ok (reading_of h s read).stands ≡ true) × Appends held holds (reading_of h s read).text
EndsAfter h s read after held holds (Err Write) = WritesPart held holds (output_of h (reading_of h s read))
EndsAfter h s read after held holds (Err NoMemory) = NeedsIn h s read × Keeps held holds

-- a run from where the script stood at s, by what the reader had and has left, and what the writer held and holds
abbrev pub RunsFrom : {S : Type 0} → Hearing S → Scan S → (before after held holds : Option (List ℕ))
    → Result (Unit {0}) CliFault → Type 0
RunsFrom h s before after held holds result =
    (read : List ℕ) × Consumes before after read × EndsAfter h s read after held holds result

-- a part of a run, which leaves the script at t and goes on if the answer is true
abbrev pub RunsPart : {S : Type 0} → Hearing S → (s t : Scan S) → (before after held holds : Option (List ℕ))
    → Result Bool CliFault → Type 0
RunsPart h s t before after held holds (Ok true) =
    (read : List ℕ) × Consumes before after read × ((reading_of h s read).stands ≡ Ok t)
    × Appends held holds (reading_of h s read).text
RunsPart h s t before after held holds (Ok false) = RunsFrom h s before after held holds (Ok tt)
RunsPart h s t before after held holds (Err e) = RunsFrom h s before after held holds (Err e)

-- bytes that were read from where the script stood at s, and left it at t: what their lines are answered was written;
-- or they ended the run
abbrev pub Feeds : {S : Type 0} → Hearing S → Scan S → List ℕ → Scan S → (held holds : Option (List ℕ))
    → Result (Unit {0}) CliFault → Type 0
Feeds h s read t held holds (Ok x) =
    ((reading_of h s read).stands ≡ Ok t) × Appends held holds (reading_of h s read).text
Feeds h s read t held holds (Err e) = (after : Option (List ℕ)) → EndsAfter h s read after held holds (Err e)

-- a front of old was written, and new is left of it; or not all of old was written
abbrev pub Flushes : (held holds : Option (List ℕ)) → (old new : List ℕ) → Result (Unit {0}) CliFault → Type 0
Flushes held holds old new (Ok x) = (done : List ℕ) × (old ≡ done ++ new) × Appends held holds done
Flushes held holds old new (Err e) = Writes held holds old (Err e)

-- text and what is said of an end were written, or a proper part of them
abbrev pub Stops : (held holds : Option (List ℕ)) → List ℕ → (said : List ℕ) → End → CliFault → Type 0
Stops held holds text said e (Script l c) =
    (e ≡ record { line = l; ending = ending.Fault c }) × Appends held holds (text ++ said)
Stops held holds text said e (Differs l) =
    ((reply : Reply) × (e ≡ record { line = l; ending = ending.Differs reply })) × Appends held holds (text ++ said)
Stops held holds text said e Write = WritesPart held holds (text ++ said)
Stops held holds text said e Read = ⊥
Stops held holds text said e NoMemory = ⊥

-- what such an end prints was written, or a proper part of it, and nothing is left to do
abbrev pub WritesEnd : (held holds : Option (List ℕ)) → (End → List ℕ) → Result (List ℕ) End → Result Bool CliFault
    → Type 0
WritesEnd held holds said (Ok text) (Ok more) = (more ≡ false) × Appends held holds text
WritesEnd held holds said (Ok text) (Err e) = Writes held holds text (Err e)
WritesEnd held holds said (Err e) (Ok more) = ⊥
WritesEnd held holds said (Err e) (Err f) = Stops held holds [] (said e) e f
