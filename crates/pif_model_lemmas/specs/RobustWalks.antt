-- A walk through the mutexes of a robust list, one after another.
use Rattle.std.specs.Prelude.{ℕ, List, [], ◌∷◌, Option, Some, None, ◌==◌, if◌then◌else◌}
use Rattle.pif_model.specs.RobustList.{walk_of}

-- what a walk goes through from these entries on, if this mutex is pending; 0 is none
abbrev pub walk_along : List ℕ → ℕ → List ℕ
walk_along ms pending = walk_of (record { listed = ms; half_linked = 0; pending = pending })

-- the mutexes behind m, and none if m isn't one of them
abbrev pub behind : ℕ → List ℕ → List ℕ
behind m [] = []
behind m (x ∷ xs) = if m == x then xs else behind m xs

-- the mutexes from this one on, and none if there is no such one
abbrev pub ahead : Option ℕ → List ℕ → List ℕ
ahead None ms = []
ahead (Some m) ms = m ∷ behind m ms

-- the first of some mutexes, or what follows them
abbrev pub first_or : List ℕ → Option ℕ → Option ℕ
first_or [] after = after
first_or (m ∷ ms) after = Some m

-- the last of some mutexes, or what is before them
abbrev pub last_or : Option ℕ → List ℕ → Option ℕ
last_or before [] = before
last_or before (m ∷ ms) = last_or (Some m) ms
