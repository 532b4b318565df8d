-- What making a picture of a story does over a reader and a writer.
use Rattle.std.specs.Prelude.{ℕ, ◌≡◌, ◌≤◌, ◌⊎◌, ◌++◌, Bool, true, false, List, [], length, Option, Result, Ok, Err}
use Rattle.std.specs.Io.KnownBytes.{Appends, Consumes, Keeps}
use Rattle.pif_text_model.specs.declared.replies.Cause.TheVariants.{Size}
use Rattle.pif_script_model.specs.declared.faults.CliFault.{CliFault}
use Rattle.pif_script_model.specs.declared.faults.CliFault.TheVariants.{Differs, NoMemory, Read, Script, Write}
use Rattle.pif_script_model.specs.declared.pictures.Picture.{Picture}
use Rattle.pif_script_model.specs.declared.pictures.Picture.TheVariants.{States, Graph}
use Rattle.pif_script_model.specs.Migrating.{IsAllRead}
use Rattle.pif_script_model.specs.Runs.{WritesPart}
use Rattle.pif_script_model.specs.Checks.{fill_telling}
use Rattle.pif_story_states.specs.Stories.{graph_text}
use Rattle.pif_story_states.specs.States.{states_text}

-- how filling in a story ends, if memory and reads allow: with no fault, or with its first
abbrev pub end_of_filling : List ℕ → Result (Unit {0}) CliFault
end_of_filling story = (fill_telling [] story).1

-- all of a story was read, and filling it in ends so
abbrev pub FillingEnds : List ℕ → (after : Option (List ℕ)) → Result (Unit {0}) CliFault → Type 0
FillingEnds read after result = (end_of_filling read ≡ result) × IsAllRead read after

-- a text is this picture of a story
abbrev pub IsPictureOf : Picture → (story text : List ℕ) → Type 0
IsPictureOf States story text = text ≡ states_text story
IsPictureOf Graph story text = text ≡ graph_text story

-- of these bytes of a story this picture was made:
--   ended well: filling the story in has no fault, and the picture was written
--   a fault: it is that of filling the story in, and nothing was written
--   a read failed, or out of memory: nothing was written
--   a write failed: filling the story in has no fault, and a proper part of the picture was written, from its
--     front
abbrev pub Pictures : Picture → List ℕ → (after held holds : Option (List ℕ)) → Result (Unit {0}) CliFault → Type 0
Pictures picture read after held holds (Ok x) =
    FillingEnds read after (Ok x) × (text : List ℕ) × IsPictureOf picture read text × Appends held holds text
Pictures picture read after held holds (Err (Script line cause)) = FillingEnds read after (Err (Script line cause)) × Keeps held holds
Pictures picture read after held holds (Err (Differs line)) = FillingEnds read after (Err (Differs line)) × Keeps held holds
Pictures picture read after held holds (Err Read) = Keeps held holds
Pictures picture read after held holds (Err Write) = FillingEnds read after (Ok tt) × (text : List ℕ) × IsPictureOf picture read text × WritesPart held holds text
Pictures picture read after held holds (Err NoMemory) = Keeps held holds

-- the same, by what the reader had and has left, and what the writer held and holds
abbrev pub PicturesTo : Picture → (before after held holds : Option (List ℕ)) → Result (Unit {0}) CliFault → Type 0
PicturesTo picture before after held holds result =
    (read : List ℕ) × Consumes before after read × (length read ≤ 16777217) × Pictures picture read after held holds result

-- ---- drawings

-- a part stands whole in a text
abbrev pub Holds : (part text : List ℕ) → Type 0
Holds part text = (front : List ℕ) × (back : List ℕ) × (text ≡ (front ++ part) ++ back)

-- a drawing alone is for reading, and may change; a page also has the states behind the commands
abbrev pub IsDrawn : (page : Bool) → (story text : List ℕ) → Type 0
IsDrawn false story text = Unit {0}
IsDrawn true story text = Holds (states_text story) text

-- filling in a story of these bytes fails so; or it has no fault, and more commands than are drawn: that is the fault
-- `size`
abbrev pub FailsOrLarge : List ℕ → CliFault → Type 0
FailsOrLarge story (Script line cause) =
    (end_of_filling story ≡ Err (Script line cause)) ⊎ ((end_of_filling story ≡ Ok tt) × (cause ≡ Size))
FailsOrLarge story (Differs line) = end_of_filling story ≡ Err (Differs line)
FailsOrLarge story NoMemory = Unit {0}
FailsOrLarge story Read = ⊥
FailsOrLarge story Write = ⊥

-- a story of these bytes is filled in, and is not too large to be drawn; or it fails so
abbrev pub FillsOrLarge : {A : Type 0} → List ℕ → Result A CliFault → Type 0
FillsOrLarge story (Ok x) = end_of_filling story ≡ Ok tt
FillsOrLarge story (Err fault) = FailsOrLarge story fault

-- of these bytes of a story a drawing or a page was made. It ends as a picture does; or it has no fault, and more
-- commands than are drawn: that is the fault `size`, and nothing was written
abbrev pub Draws : (page : Bool) → List ℕ → (after held holds : Option (List ℕ)) → Result (Unit {0}) CliFault → Type 0
Draws page read after held holds (Ok x) =
    FillingEnds read after (Ok x) × (text : List ℕ) × IsDrawn page read text × Appends held holds text
Draws page read after held holds (Err (Script line cause)) =
    FailsOrLarge read (Script line cause) × IsAllRead read after × Keeps held holds
Draws page read after held holds (Err (Differs line)) = FillingEnds read after (Err (Differs line)) × Keeps held holds
Draws page read after held holds (Err Read) = Keeps held holds
Draws page read after held holds (Err Write) =
    FillingEnds read after (Ok tt) × (text : List ℕ) × IsDrawn page read text × WritesPart held holds text
Draws page read after held holds (Err NoMemory) = Keeps held holds

-- the same, by what the reader had and has left, and what the writer held and holds
abbrev pub DrawsTo : (page : Bool) → (before after held holds : Option (List ℕ)) → Result (Unit {0}) CliFault → Type 0
DrawsTo page before after held holds result =
    (read : List ℕ) × Consumes before after read × (length read ≤ 16777217) × Draws page read after held holds result
