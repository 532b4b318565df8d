-- What a shell does over a reader and a writer.
use Rattle.std.specs.Prelude.{ℕ, List, Bool, false, Option, Result, Ok, Err}
use Rattle.pif_text_model.specs.Extends.{Stays}
use Rattle.pif_script_model.specs.declared.faults.CliFault.{CliFault}
use Rattle.pif_script_model.specs.declared.faults.CliFault.TheVariants.{Differs, NoMemory, Read, Script, Write}
use Rattle.pif_job_shell.specs.Lines.{Reads}

-- the end of a part of a conversation, in which nothing is read
abbrev pub PartsTo : (held holds : Option (List ℕ)) → Result Bool CliFault → Type 0
PartsTo held holds (Ok more) = Stays held holds
PartsTo held holds (Err Write) = Stays held holds
PartsTo held holds (Err fault) = ⊥

-- a part of a conversation, which goes on if this is true; else the input has ended, or the person leaves
abbrev pub TurnsTo : (before after held holds : Option (List ℕ)) → Result Bool CliFault → Type 0
TurnsTo before after held holds (Ok more) = Reads before after × Stays held holds
TurnsTo before after held holds (Err Read) = Reads before after × Stays held holds
TurnsTo before after held holds (Err Write) = Reads before after × Stays held holds
TurnsTo before after held holds (Err (Script line cause)) = ⊥
TurnsTo before after held holds (Err (Differs line)) = ⊥
TurnsTo before after held holds (Err NoMemory) = ⊥

-- a conversation, by what the reader had and has left, and what the writer held and holds:
--   ended well: all was read, or the person has left by `exit` or `quit`
--   a read or a write failed
--   it never ends for another reason
-- What was written stands behind what the writer held
abbrev pub TalksTo : (before after held holds : Option (List ℕ)) → Result (Unit {0}) CliFault → Type 0
TalksTo before after held holds (Ok x) = TurnsTo before after held holds (Ok false)
TalksTo before after held holds (Err e) = TurnsTo before after held holds (Err e)
