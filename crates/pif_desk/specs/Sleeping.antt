-- Who rests, and whose clients sleep.
use Rattle.std.specs.Prelude.{ℕ, ◌≡◌, ◌≤◌, Bool, true, false, eqb, List, [], ◌∷◌, ◌++◌, unwrap_or, if◌then◌else◌}
use Rattle.std.specs.List.{IsDistinct}
use Rattle.pif_model.specs.PiKernel.{is_among}
use Rattle.pif_model.specs.Table.{Table}
use Rattle.pif_model.specs.Calls.{waiting_answer}

-- whether a thread of a core with this table rests
abbrev pub rests_in : Table → ℕ → Bool
rests_in s t = unwrap_or (waiting_answer t s) false

-- threads whose clients sleep: each once, and none of a number above the most threads that limits allow
pub record AreSleepers (threads : List ℕ) : Type 0 where
  pub once : IsDistinct eqb threads
  pub within : (t : ℕ) → is_among threads t ≡ true → (1 ≤ t) × (t ≤ 1024)

-- these and t
abbrev pub with_sleeper : ℕ → List ℕ → List ℕ
with_sleeper t threads = if is_among threads t then threads else threads ++ t ∷ []
