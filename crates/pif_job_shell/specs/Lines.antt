-- Lines that are read one after the other.
use Rattle.std.specs.Prelude.{ℕ, List, Bool, true, false, Option, Result, Ok, Err}
use Rattle.std.specs.Io.KnownBytes.{Consumes, IsAtEnd}

-- some bytes were read
abbrev pub Reads : (before after : Option (List ℕ)) → Type 0
Reads before after = (read : List ℕ) × Consumes before after read

-- a line was read, and the input goes on if this is true, or else has ended; or a read failed
abbrev pub ReadsOn : {E : Type 0} → (before after : Option (List ℕ)) → Result Bool E → Type 0
ReadsOn before after (Ok true) = Reads before after
ReadsOn before after (Ok false) = Reads before after × IsAtEnd after
ReadsOn before after (Err e) = Reads before after
