-- The verdict on a history, by those that a text tells on its parts.
use Rattle.std.specs.Prelude.{ℕ, ◌≡◌, ◌⊎◌, ◌==◌, ◌-◌, List, ◌++◌, map, codes, decimal, Option, Some, Result, Ok, Err, if◌then◌else◌}
use Rattle.std.specs.Io.KnownBytes.{Appends, Keeps}
use Rattle.pif_types.specs.Bounds.{Bounds}
use Rattle.pif_script_model.specs.declared.faults.CliFault.TheVariants.{Differs, Write}
use Rattle.pif_script_model.specs.Runs.{WritesPart}
use Rattle.pif_history_model.specs.declared.lines.Line.{Line}
use Rattle.pif_parts.specs.declared.joining.PartVerdict.{PartVerdict}
use Rattle.pif_parts.specs.declared.joining.WholeVerdict.{WholeVerdict}
use Rattle.pif_parts.specs.declared.joining.WholeVerdict.TheVariants as whole
use Rattle.pif_parts.specs.declared.parts.Part.{Part}
use Rattle.pif_parts.specs.declared.parts.Span.{Span}
use Rattle.pif_parts.specs.Parts.{AreOfParts, ArePartsOf, IsOfWhole, span_of}
use Rattle.pif_job_parts.specs.declared.faults.PartsFault.{PartsFault}
use Rattle.pif_job_parts.specs.declared.faults.PartsFault.TheVariants as fault
use Rattle.pif_job_parts.specs.declared.indexes.Index.{Index}
use Rattle.pif_job_parts.specs.Indexes.{index_text, number_at}
use Rattle.pif_job_parts.specs.Told.{AreTold}

-- how a history is told to be legal, of so many lines and calls
abbrev pub calls_text : ℕ → List ℕ
calls_text calls =
    if calls == 0 then codes ", with no call" else (if calls == 1 then codes ", 1 call" else codes ", " ++ decimal calls ++ codes " calls")

abbrev pub legal_text : (lines calls : ℕ) → List ℕ
legal_text lines calls = codes "legal " ++ decimal lines ++ calls_text calls ++ codes "\n"

abbrev pub legal_end : (calls : ℕ) → Result (Unit {0}) PartsFault
legal_end calls = if calls == 0 then Err fault.NoCall else Ok tt

-- how it is told not to be: the line of this number isn't legal, or is a mistake of the log
abbrev pub IsAgainstAt : (m : ℕ) → (text : List ℕ) → Result (Unit {0}) PartsFault → Type 0
IsAgainstAt m text end = (rest : List ℕ)
    × (((text ≡ codes "illegal at " ++ decimal m ++ rest) × (end ≡ Err (fault.Cli (Differs m))))
    ⊎ ((text ≡ codes "log " ++ decimal m ++ rest) × (end ≡ Err (fault.Log m))))

-- it isn't known from the line of this number on
abbrev pub IsUndecidedAt : (m : ℕ) → (text : List ℕ) → Result (Unit {0}) PartsFault → Type 0
IsUndecidedAt m text end =
    (rest : List ℕ) × (text ≡ codes "undecided from " ++ decimal m ++ rest) × (end ≡ Err (fault.Undecided m))

-- what is told of a history with this index by the verdict on it, and how that ends. Lines are told by their numbers in
-- the text of the history
abbrev pub IsSaid : Index → WholeVerdict → (text : List ℕ) → Result (Unit {0}) PartsFault → Type 0
IsSaid i whole.Legal text end = (text ≡ legal_text i.lines i.calls) × (end ≡ legal_end i.calls)
IsSaid i (whole.Illegal k) text end = (m : ℕ) × (number_at i.runs.items (k - 1) ≡ Some m) × IsAgainstAt m text end
IsSaid i (whole.Undecided k) text end = (m : ℕ) × IsUndecidedAt m text end
IsSaid i (whole.Foreign k) text end = ⊥

-- verdicts on parts at these places come to this verdict on the whole, whatever its lines are
abbrev pub ComeTo : List Span → List PartVerdict → WholeVerdict → Type 0
ComeTo spans verdicts v =
    (l : Bounds) (lines : List Line) (parts : List Part) → ArePartsOf l lines parts → spans ≡ map span_of parts
    → AreOfParts l lines parts verdicts → IsOfWhole l lines v

-- by an index, and the verdicts that a text tells of its parts, this is told, and it ends so
pub record IsJoined (i : Index) (verdicts text : List ℕ) (end : Result (Unit {0}) PartsFault) : Type 0 where
  pub parts : List PartVerdict
  pub told : AreTold verdicts 0 i.spans.items parts
  pub verdict : WholeVerdict
  pub comes : ComeTo i.spans.items parts verdict
  pub said : IsSaid i verdict text end

-- a text was written, and it ends so; or a write failed after a proper part of it
abbrev pub WritesSaid : (held holds : Option (List ℕ)) → (text : List ℕ) → (end result : Result (Unit {0}) PartsFault) → Type 0
WritesSaid held holds text end result =
    ((result ≡ end) × Appends held holds text) ⊎ ((result ≡ Err (fault.Cli Write)) × WritesPart held holds text)

-- joining the verdicts that a text tells on the parts of an index: what they come to was written; or nothing was, as the
-- index or the verdicts have a fault, or memory was refused
pub data JoinsTo (index verdicts : List ℕ) (held holds : Option (List ℕ)) (result : Result (Unit {0}) PartsFault) : Type 0 where
  told : (i : Index) → index ≡ index_text i → (text : List ℕ) → (end : Result (Unit {0}) PartsFault)
      → IsJoined i verdicts text end → WritesSaid held holds text end result → JoinsTo index verdicts held holds result
  refused : (e : PartsFault) → result ≡ Err e → Keeps held holds → JoinsTo index verdicts held holds result
