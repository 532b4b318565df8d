-- Open calls in a table, each at the place of its thread.
use Rattle.std.specs.Prelude.{ℕ, ◌≡◌, ◌+◌, ◌<◌, List, length, get_or, slice_set, Option, Some, None}
use Rattle.pif_history_model.specs.declared.lines.Line.{Line}
use Rattle.pif_history_model.specs.declared.lines.Line.TheVariants.{Answer, Begin}
use Rattle.pif_history_text.specs.Histories.{Heard}
use Rattle.pif_history_told.specs.declared.verdicts.Began.{Began}
use Rattle.pif_history_told.specs.Why.{open_of, threads_in}

-- A table after one line more, of this number.
abbrev pub once_heard : Line → (number : ℕ) → List (Option Began) → List (Option Began)
once_heard (Begin t q) number calls = slice_set calls t (Some (record { number = number; thread = t; request = q }))
once_heard (Answer t a) number calls = slice_set calls t None
once_heard line number calls = calls

-- A table has the open call of each thread of a history after its first `before` lines.
abbrev pub AreOpenBehind : Heard → (before : ℕ) → List (Option Began) → Type 0
AreOpenBehind h before calls =
    (length calls ≡ threads_in h + 1)
    × ((t : ℕ) → t < length calls → get_or calls t None ≡ open_of (Some t) h before)
