-- The parts of a history, each of which stands alone; and what their verdicts say of the whole. Lines are oldest first.
use Rattle.std.specs.Prelude.{ℕ, ◌≡◌, ◌<◌, ◌≤◌, ◌+◌, ◌-◌, List, [], ◌∷◌, ◌++◌, drop, length, reverse, take}
use Rattle.pif_types.specs.Bounds.{Bounds}
use Rattle.pif_rules_model.specs.Sets.{no_rules}
use Rattle.pif_history_model.specs.declared.lines.Line.{Line}
use Rattle.pif_history_model.specs.Shown.{IsShown}
use Rattle.pif_history_model.specs.Verdicts.{IsIllegal}
use Rattle.pif_parts.specs.declared.parts.Part.{Part}
use Rattle.pif_parts.specs.declared.parts.Span.{Span}
use Rattle.pif_parts.specs.declared.parts.Cutting.{Cutting}
use Rattle.pif_parts.specs.declared.joining.PartVerdict.{PartVerdict}
use Rattle.pif_parts.specs.declared.joining.PartVerdict.TheVariants as part
use Rattle.pif_parts.specs.declared.joining.WholeVerdict.{WholeVerdict}
use Rattle.pif_parts.specs.declared.joining.WholeVerdict.TheVariants as whole
use Rattle.pif_parts.specs.Standing.{StandFor}

-- PARTS

-- these lines stand for the first n, with these limits, whatever the lines behind those are
abbrev pub StandForFirst : Bounds → List Line → ℕ → List Line → Type 0
StandForFirst l lines n before = StandFor l (length lines - n) (reverse before) (reverse (take n lines))

-- the parts cover the lines from the place a to the place b, in order, and what each begins with stands for all lines
-- before it
abbrev pub AreParts : Bounds → List Line → ℕ → List Part → ℕ → Type 0
AreParts l lines a [] b = a ≡ b
AreParts l lines a (p ∷ ps) b =
    (p.first ≡ a) × StandForFirst l lines a p.before.items × AreParts l lines (a + p.count) ps b

-- they are the parts of these lines
abbrev pub ArePartsOf : Bounds → List Line → List Part → Type 0
ArePartsOf l lines ps = AreParts l lines 0 ps (length lines)

-- the lines of a part as it stands alone
abbrev pub alone : List Line → Part → List Line
alone lines p = p.before.items ++ take p.count (drop p.first lines)

-- its place
abbrev pub span_of : Part → Span
span_of p = record { first = p.first; count = p.count; before = length p.before.items }

-- so far the lines were cut so
pub record IsCutting (l : Bounds) (lines : List Line) (c : Cutting) : Type 0 where
  pub parts : AreParts l lines 0 c.parts.items c.first
  pub before : StandForFirst l lines c.first c.before.items

-- VERDICTS

-- this is so of these lines: the POSIX machine has a run with them, or none with the first n, and one with one less. Of
-- lines that are undecided nothing is said
abbrev pub IsOf : Bounds → List Line → PartVerdict → Type 0
IsOf l lines part.Legal = IsShown l (reverse lines)
IsOf l lines (part.Illegal n) = IsIllegal no_rules l lines n
IsOf l lines part.Undecided = Unit {0}

-- this is so of a part as it stands alone
abbrev pub IsOfPart : Bounds → List Line → Part → PartVerdict → Type 0
IsOfPart l lines p v = IsOf l (alone lines p) v

-- these verdicts are those of these parts
abbrev pub AreOfParts : Bounds → List Line → List Part → List PartVerdict → Type 0
AreOfParts l lines [] [] = Unit {0}
AreOfParts l lines [] (v ∷ vs) = ⊥
AreOfParts l lines (p ∷ ps) [] = ⊥
AreOfParts l lines (p ∷ ps) (v ∷ vs) = IsOfPart l lines p v × AreOfParts l lines ps vs

-- this is so of the whole
abbrev pub IsOfWhole : Bounds → List Line → WholeVerdict → Type 0
IsOfWhole l lines whole.Legal = IsShown l (reverse lines)
IsOfWhole l lines (whole.Illegal n) = IsIllegal no_rules l lines n
IsOfWhole l lines (whole.Undecided k) = Unit {0}
IsOfWhole l lines (whole.Foreign k) = Unit {0}

-- this is told of the whole if the nth line of a part at this place is the first that isn't legal
abbrev pub IsPlaced : Span → ℕ → WholeVerdict → Type 0
IsPlaced s n whole.Legal = ⊥
IsPlaced s n (whole.Illegal k) = (s.before < n) × (n ≤ s.before + s.count) × (k ≡ s.first + (n - s.before))
IsPlaced s n (whole.Undecided k) = ⊥
IsPlaced s n (whole.Foreign k) = Unit {0}
