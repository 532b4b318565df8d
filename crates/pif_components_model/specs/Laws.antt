-- What it is for a history to be judged by its components.
use Rattle.std.specs.Prelude.{ℕ, ◌<◌, ◌↔◌, List}
use Rattle.pif_types.specs.Bounds.{Bounds}
use Rattle.pif_history_model.specs.declared.lines.Line.{Line}
use Rattle.pif_history_model.specs.Shown.{IsShown}
use Rattle.pif_components_model.specs.Components.{Name, Side, IsClosed, AreNumbered, component, lines_of, others}

-- a history is legal exactly if what two sides do is, for any side that no line joins with the others
abbrev pub IsJudgedBySides : Bounds → List Line → Type 0
IsJudgedBySides l lines = (x : Side) → IsClosed lines x
    → IsShown l lines ↔ (IsShown l (lines_of x lines) × IsShown l (lines_of (others x) lines))

-- a history is legal exactly if each part is. With a number for each component the parts are the components
abbrev pub IsJudgedByParts : Bounds → List Line → Type 0
IsJudgedByParts l lines = (n : ℕ) (number : Name → ℕ) → AreNumbered lines n number
    → IsShown l lines ↔ ((k : ℕ) → k < n → IsShown l (lines_of (component number k) lines))
