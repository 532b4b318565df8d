-- What showing the script of a story, or writing its trace, does over a reader and a writer.
use Rattle.std.specs.Prelude.{ℕ, ◌≡◌, ◌<◌, ◌≤◌, List, length, take, Option, Some, Result, Ok, Err}
use Rattle.std.specs.Io.KnownBytes.{Consumes, Keeps}
use Rattle.pif_text_model.specs.declared.replies.Cause.TheVariants.{Size}
use Rattle.pif_script_model.specs.declared.faults.CliFault.{CliFault}
use Rattle.pif_script_model.specs.declared.faults.CliFault.TheVariants.{Differs, NoMemory, Read, Script, Write}
use Rattle.pif_script_model.specs.Migrating.{IsAllRead}
use Rattle.pif_script_model.specs.Showing.{ShowsTo}
use Rattle.pif_script_model.specs.Transcripts.{TracesTo}
use Rattle.pif_script_model.specs.Lines.{lines}
use Rattle.pif_script_model.specs.Stories.{script_of}

-- of these bytes of a story:
--   a script: all was read, it is not too large, and this is the script that is left
--   a fault: all was read, and it is too large: the fault is `size`, at the line in which the first byte stands that is
--     too many
--   a read failed, or out of memory: that may be anywhere
abbrev pub LeavesScript : List ℕ → (after : Option (List ℕ)) → Result (List ℕ) CliFault → Type 0
LeavesScript read after (Ok script) = IsAllRead read after × (length read ≤ 16777216) × (script ≡ script_of read)
LeavesScript read after (Err (Script line cause)) =
    IsAllRead read after × (16777216 < length read) × (line ≡ length (lines (take 16777216 read))) × (cause ≡ Size)
LeavesScript read after (Err (Differs line)) = ⊥
LeavesScript read after (Err Read) = Unit {0}
LeavesScript read after (Err Write) = ⊥
LeavesScript read after (Err NoMemory) = Unit {0}

-- the same, by what the reader had and has left
abbrev pub LeavesScriptTo : (before after : Option (List ℕ)) → Result (List ℕ) CliFault → Type 0
LeavesScriptTo before after script =
    (read : List ℕ) × Consumes before after read × (length read ≤ 16777217) × LeavesScript read after script

-- a script was shown, or its trace was written, as a reader's whole input; what is left of that does not matter.
-- Without a script nothing was written, and it ends as reading the story did
abbrev pub EndsWith : (does : (before after held holds : Option (List ℕ)) → Result (Unit {0}) CliFault → Type 0)
    → Result (List ℕ) CliFault → (held holds : Option (List ℕ)) → Result (Unit {0}) CliFault → Type 0
EndsWith does (Ok script) held holds result = (left : Option (List ℕ)) × does (Some script) left held holds result
EndsWith does (Err fault) held holds result = (result ≡ Err fault) × Keeps held holds

-- the script of a story was shown, by what the reader of the story had and has left, and what the writer held and holds
abbrev pub ShowsStoryTo : (before after held holds : Option (List ℕ)) → Result (Unit {0}) CliFault → Type 0
ShowsStoryTo before after held holds result =
    (script : Result (List ℕ) CliFault) × LeavesScriptTo before after script × EndsWith ShowsTo script held holds result

-- the trace of the script of a story was written, by the same
abbrev pub TracesStoryTo : (before after held holds : Option (List ℕ)) → Result (Unit {0}) CliFault → Type 0
TracesStoryTo before after held holds result =
    (script : Result (List ℕ) CliFault) × LeavesScriptTo before after script × EndsWith TracesTo script held holds result
