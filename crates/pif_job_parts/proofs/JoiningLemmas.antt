-- What joining verdicts comes to.
use Rattle.std.proofs.Common.{◌≡◌, ℕ, List, Option, None, Some, Result, Err, refl}
use Rattle.std.specs.Io.KnownBytes.{Keeps}
use Rattle.pif_job_parts.specs.declared.faults.PartsFault.{PartsFault}
use Rattle.pif_job_parts.specs.declared.indexes.Index.{Index}
use Rattle.pif_job_parts.specs.Indexes.{index_text}
use Rattle.pif_job_parts.specs.Joining.{IsJoined, JoinsTo, WritesSaid}
use Rattle.pif_job_parts.specs.Joining.JoinsTo.{refused, told}

-- known bytes stay as they are
keeps : (held : Option (List ℕ)) → Keeps held held
keeps None = tt
keeps (Some bytes) = refl

-- nothing was written, for this reason
pub is_refused : (index verdicts : List ℕ) (held : Option (List ℕ)) (e : PartsFault) → JoinsTo index verdicts held held (Err e)
is_refused index verdicts held e = refused e refl (keeps held)

-- what they come to was written
pub is_told : (index verdicts : List ℕ) (held holds : Option (List ℕ)) (i : Index) (text : List ℕ) (end result : Result (Unit {0}) PartsFault)
    → index ≡ index_text i → IsJoined i verdicts text end → WritesSaid held holds text end result
    → JoinsTo index verdicts held holds result
is_told index verdicts held holds i text end result is joined written = told i is text end joined written
