-- Names, and the places of calls, beside the numbers of what is told. Each is a text: nothing is claimed of it.
use Rattle.std.specs.Prelude.{ℕ, ◌≡◌, ◌⊎◌, List, [], ◌++◌}

-- Nothing, or names or places between these texts.
abbrev pub AreNames : (front back text : List ℕ) → Type 0
AreNames front back text = (text ≡ []) ⊎ ((names : List ℕ) × (text ≡ front ++ names ++ back))
