-- The passes that wait, in the order in which they came.
use Rattle.std.specs.Prelude.{ℕ, ◌==◌, Bool, List, Option, Some, None, option_map}
use Rattle.std.specs.List.{find, position, remove}
use Rattle.pif_quick.specs.declared.parking.Parked.{Parked}

-- whether a pass waits for this word
abbrev pub waits_for_word : ℕ → Parked → Bool
waits_for_word word p = p.word == word

-- the pass that has waited longest for this word
abbrev pub next_at : ℕ → List Parked → Option ℕ
next_at word order = option_map (λ p. p.pass) (find (waits_for_word word) order)

abbrev pub without_position : List Parked → Option ℕ → List Parked
without_position order None = order
without_position order (Some i) = remove order i

-- the order once that pass has left it: the others keep their places
abbrev pub without_next : ℕ → List Parked → List Parked
without_next word order = without_position order (position (waits_for_word word) order)
