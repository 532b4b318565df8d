-- Migrating a trace: its first line becomes that of version 2, and all behind it stays to the byte.
use Rattle.std.specs.Prelude.{ℕ, ◌≡◌, ◌<◌, ◌≤◌, Bool, true, false, nat_lt, List, [], ◌∷◌, ◌++◌, drop, length, Option, Some, None, Result, Ok, Err, is_ok, ◌⊎◌, if◌then◌else◌}
use Rattle.std.specs.Io.KnownBytes.{Appends, Consumes, IsAtEnd, Keeps}
use Rattle.pif_text_model.specs.declared.commands.Command.{Command}
use Rattle.pif_text_model.specs.declared.commands.Command.TheVariants.{Limits}
use Rattle.pif_text_model.specs.declared.replies.Cause.{Cause}
use Rattle.pif_text_model.specs.declared.replies.Cause.TheVariants.{Command as NoCommand, Limits as BadLimits}
use Rattle.pif_text_model.specs.declared.traces.Version.{Version}
use Rattle.pif_text_model.specs.declared.traces.Version.TheVariants.{Two}
use Rattle.pif_text_model.specs.Traces.{header_text, version_in}
use Rattle.pif_script_model.specs.declared.faults.CliFault.{CliFault}
use Rattle.pif_script_model.specs.declared.faults.CliFault.TheVariants as fault
use Rattle.pif_script_model.specs.declared.ending.Ending.TheVariants.{Fault}
use Rattle.pif_script_model.specs.declared.ending.End.{End}
use Rattle.pif_script_model.specs.Scripts.{Meaning, FirstMeaning, Hearing, start, reading_of, ended_by}
use Rattle.pif_script_model.specs.Runs.{WritesPart, end_line}
use Rattle.pif_script_model.specs.Traces.{header_meaning, traced_in, verdict}
use Rattle.pif_script_model.specs.Transcripts.{first_limits}

-- ---- the form of lines

-- the form of a first command: limits that are out of their ranges are a fault
unfoldable pub first_form : Version → Command → FirstMeaning Version
first_form version c = elim (first_limits c) [ None ↦ Err (Fault BadLimits) | Some b ↦ Ok (Some ([], version)) ]

-- the form of a later command: limits stand on the second line alone
abbrev pub later_form : Version → Command → Meaning Version
later_form version (Limits t m c n) = Err (Fault NoCommand)
later_form version c = Ok ([], version)

-- the form of the second line of a trace of a version
unfoldable pub second_line_form : Version → List ℕ → FirstMeaning Version
second_line_form version line =
    elim (traced_in version line) [ None ↦ Err (Fault NoCommand) | Some p ↦ first_form version p.0 ]

-- the form of the first line of a trace, and of the second one, before which the first has named the version
abbrev pub opening_form : Option Version → List ℕ → FirstMeaning Version
opening_form None line = header_meaning (version_in line)
opening_form (Some version) line = second_line_form version line

-- the form of a later line of a trace of a version
unfoldable pub line_form : Version → List ℕ → Meaning Version
line_form version line =
    elim (traced_in version line) [ None ↦ Err (Fault NoCommand) | Some p ↦ later_form version p.0 ]

-- the end of a trace, where the next line would have this number: a trace without a line is no trace
abbrev pub formed_end : ℕ → Result (List ℕ) Cause
formed_end number = if nat_lt 1 number then Ok [] else Err NoCommand

-- how a trace is heard of which only the form of its lines is looked at
abbrev pub form_hearing : Hearing Version
form_hearing = record { first_meaning = opening_form; meaning = line_form; end_text = formed_end; said_of = end_line }

-- how a trace of these bytes ends by the form of its lines: with no fault, or with its first
unfoldable pub form_end : List ℕ → Result (List ℕ) End
form_end bytes = ended_by form_hearing (reading_of form_hearing start bytes).stands

-- ---- migrating

-- a trace of these bytes in version 2; of one whose lines have a fault of form the line of that fault
unfoldable pub migrated : List ℕ → List ℕ
migrated bytes = elim (form_end bytes) [ Ok text ↦ header_text Two ++ drop 11 bytes | Err e ↦ end_line e ]

-- all was read, or as far as the byte that is one too many
abbrev pub IsAllRead : List ℕ → Option (List ℕ) → Type 0
IsAllRead read after = (length read ≡ 16777217) ⊎ IsAtEnd after

-- migrating a trace of which these bytes were read:
--   ended well: they have no fault of form, and the trace was written in version 2
--   a fault: it is their first one, and its line was written
--   a read failed, or out of memory: nothing was written
--   a write failed: a proper part of what was to be written was, from its front
--   there are no differences
abbrev pub Migrates : List ℕ → (after held holds : Option (List ℕ)) → Result (Unit {0}) CliFault → Type 0
Migrates read after held holds (Ok x) =
    (is_ok (form_end read) ≡ true) × IsAllRead read after × Appends held holds (migrated read)
Migrates read after held holds (Err (fault.Script line cause)) =
    (form_end read ≡ Err (record { line = line; ending = Fault cause })) × IsAllRead read after
    × Appends held holds (migrated read)
Migrates read after held holds (Err (fault.Differs line)) = ⊥
Migrates read after held holds (Err fault.Read) = Keeps held holds
Migrates read after held holds (Err fault.Write) = IsAllRead read after × WritesPart held holds (migrated read)
Migrates read after held holds (Err fault.NoMemory) = Keeps held holds

-- migrating a trace, by what the reader had and has left, and what the writer held and holds
abbrev pub MigratesTo : (before after held holds : Option (List ℕ)) → Result (Unit {0}) CliFault → Type 0
MigratesTo before after held holds result =
    (read : List ℕ) × Consumes before after read × (length read ≤ 16777217) × Migrates read after held holds result

-- all these bytes were read, or as far as the byte that is one too many
abbrev pub ReadsTo : (before after : Option (List ℕ)) → List ℕ → Type 0
ReadsTo before after read = Consumes before after read × (length read ≤ 16777217) × IsAllRead read after

-- a read failed, or memory ran out, before all was read
abbrev pub FailsToRead : (before after : Option (List ℕ)) → CliFault → Type 0
FailsToRead before after fault.Read = (read : List ℕ) × Consumes before after read × (length read ≤ 16777217)
FailsToRead before after fault.NoMemory = (read : List ℕ) × Consumes before after read × (length read ≤ 16777217)
FailsToRead before after fault.Write = ⊥
FailsToRead before after (fault.Script line cause) = ⊥
FailsToRead before after (fault.Differs line) = ⊥

-- at most this many bytes were read, and appended, and there were none only at the end
abbrev pub ReadsMore : (before after : Option (List ℕ)) → (most : ℕ) → (old new : List ℕ) → Result Bool CliFault → Type 0
ReadsMore before after most old new (Ok more) =
    (read : List ℕ) × Consumes before after read × (length read ≤ most) × (new ≡ old ++ read)
    × (more ≡ true → 0 < length read) × (more ≡ false → 0 < most → IsAtEnd after)
ReadsMore before after most old new (Err fault.Read) = Keeps before after
ReadsMore before after most old new (Err fault.NoMemory) =
    (read : List ℕ) × Consumes before after read × (length read ≤ most)
ReadsMore before after most old new (Err fault.Write) = ⊥
ReadsMore before after most old new (Err (fault.Script line cause)) = ⊥
ReadsMore before after most old new (Err (fault.Differs line)) = ⊥

-- the first fault of form of these bytes, or none
abbrev pub IsFaultOfForm : List ℕ → Option End → Type 0
IsFaultOfForm bytes None = is_ok (form_end bytes) ≡ true
IsFaultOfForm bytes (Some e) = form_end bytes ≡ Err e

-- ---- the law

-- a trace whose lines have no fault of form comes to the same in version 2
abbrev pub VerdictStays : Type 0
VerdictStays = (bytes : List ℕ) → is_ok (form_end bytes) ≡ true → verdict (migrated bytes) ≡ verdict bytes
