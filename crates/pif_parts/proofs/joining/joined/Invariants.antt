use Rattle.std.proofs.Common.{◌≡◌, List, map}
use Rattle.pif_types.specs.Bounds.{Bounds}
use Rattle.pif_history_model.specs.declared.lines.Line.{Line}
use Rattle.pif_parts.specs.declared.parts.Part.{Part}
use Rattle.pif_parts.specs.Parts.{AreOfParts, ArePartsOf, span_of}
use Rattle.pif_parts.proofs.PartLemmas.{AreJoined}
use Rattle.pif_parts.proofs.joining.joined.Given as goal

abbrev pub invariant-loop-number : goal.invariant-loop-number
invariant-loop-number l =
    (limits : Bounds) (lines : List Line) (parts : List Part) → ArePartsOf limits lines parts → l.spans ≡ map span_of parts
    → AreOfParts limits lines parts l.verdicts → AreJoined limits lines parts l.verdicts l.number
