use Rattle.std.proofs.Common.{◌≤◌, reverse, take}
use Rattle.pif_parts.specs.Standing.{IsPast}
use Rattle.pif_parts.specs.Parts.{IsCutting}
use Rattle.pif_parts.proofs.parts.parts_of.Given as goal

abbrev pub invariant-loop-place : goal.invariant-loop-place
invariant-loop-place l =
    IsPast (reverse (take l.place l.lines)) l.past × IsCutting l.limits l.lines l.cutting × (l.cutting.first ≤ l.place)
