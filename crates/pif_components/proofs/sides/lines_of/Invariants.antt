use Rattle.std.proofs.Common.{◌≡◌, take}
use Rattle.pif_components_model.specs.Components.{lines_of}
use Rattle.pif_components.specs.Sides.{side_of}
use Rattle.pif_components.proofs.sides.lines_of.Given as goal

abbrev pub invariant-loop-place : goal.invariant-loop-place
invariant-loop-place l = l.found.items ≡ lines_of (side_of l.groups l.number) (take l.place l.lines)
