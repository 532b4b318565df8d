-- The numbers of answers and of priorities that labels show.
use Rattle.std.specs.Prelude.{ℕ, zero, suc, List, [], ◌∷◌, ◌++◌, Option, Some, None}
use Rattle.pif_history_model.specs.declared.lines.Line.TheVariants.{Answer, Prio}
use Rattle.pif_history_model.specs.declared.labels.Label.{Label}
use Rattle.pif_history_model.specs.declared.labels.Label.TheVariants.{Shown}

-- the number of an answer or of a priority that a label shows
abbrev pub number_of : Label → Option ℕ
number_of (Shown (Answer t a)) = Some a
number_of (Shown (Prio t p)) = Some p
number_of _ = None

-- with it in front, if there is one
abbrev pub before_if : Option ℕ → List ℕ → List ℕ
before_if None ns = ns
before_if (Some n) ns = n ∷ ns

-- the numbers of answers and of priorities that these labels show
abbrev pub numbers_in : List Label → List ℕ
numbers_in [] = []
numbers_in (x ∷ xs) = before_if (number_of x) (numbers_in xs)

-- the numbers from 1 to n, rising
unfoldable pub up_to : ℕ → List ℕ
up_to zero = []
up_to (suc n) = up_to n ++ suc n ∷ []
