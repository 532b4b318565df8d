-- Where the lines of a history say that calls are over.
use Rattle.std.specs.Prelude.{ℕ, suc, ◌≡◌, ◌<◌, length, List, [], ◌∷◌, Option, Some, None, slice_get, if◌then◌else◌}
use Rattle.std.specs.Global.{Vec}
use Rattle.pif_history_model.specs.declared.lines.Line.{Line}
use Rattle.pif_history_model.specs.Known.{is_over, answer_of}
use Rattle.pif_history_machine.specs.declared.overs.Over.{Over}

-- the lines that say that a call of t is over, if the first of these stands at place k
abbrev pub places_over : ℕ → ℕ → List Line → List Over
places_over t k [] = []
places_over t k (x ∷ xs) =
    if is_over t x then record { place = k; answer = answer_of x } ∷ places_over t (suc k) xs else places_over t (suc k) xs

-- the row of t, which is empty if there is none
abbrev pub row_at : Option (Vec Over) → List Over
row_at None = []
row_at (Some row) = row.items

-- these rows say where the calls of their threads are over
abbrev pub IsTable : List Line → List (Vec Over) → Type 0
IsTable lines rows = (t : ℕ) → t < length rows → row_at (slice_get rows t) ≡ places_over t 0 lines
