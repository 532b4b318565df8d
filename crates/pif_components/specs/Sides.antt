-- The components of a history by the groups of their names, and the verdict on one of them.
use Rattle.std.specs.Prelude.{ℕ, List, reverse}
use Rattle.pif_types.specs.Bounds.{Bounds}
use Rattle.pif_history_model.specs.declared.lines.Line.{Line}
use Rattle.pif_history_model.specs.Shown.{IsShown}
use Rattle.pif_components_model.specs.Components.{Side, component, lines_of}
use Rattle.pif_components_model.specs.Places.{IsIllegalAt}
use Rattle.pif_parts.specs.declared.joining.PartVerdict.{PartVerdict}
use Rattle.pif_parts.specs.declared.joining.PartVerdict.TheVariants as part
use Rattle.pif_components.specs.declared.groups.Groups.{Groups}
use Rattle.pif_components.specs.Groups.{number_of}

-- the names of this group
abbrev pub side_of : Groups → ℕ → Side
side_of g k = component (number_of g) k

-- this is so of the lines of a side, which are told by their numbers among all lines. Of one that is undecided nothing is
-- said
abbrev pub IsOfSide : Bounds → Side → List Line → PartVerdict → Type 0
IsOfSide l x lines part.Legal = IsShown l (reverse (lines_of x lines))
IsOfSide l x lines (part.Illegal n) = IsIllegalAt l x lines n
IsOfSide l x lines part.Undecided = Unit {0}
