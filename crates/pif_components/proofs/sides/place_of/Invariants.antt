use Rattle.std.proofs.Common.{◌≡◌, ◌+◌, ◌≤◌, length, take}
use Rattle.pif_components_model.specs.Components.{lines_of}
use Rattle.pif_components.specs.Sides.{side_of}
use Rattle.pif_components.proofs.sides.place_of.Given as goal

-- so many are left, and one at least
abbrev pub invariant-loop-place : goal.invariant-loop-place
invariant-loop-place l =
    (length (lines_of (side_of l.groups l.number) (take l.place l.lines)) + l.left ≡ l.line_number) × (1 ≤ l.left)
