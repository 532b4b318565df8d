-- What the standard error gets: one line of what has failed, or the notes of what was done.
use Rattle.std.specs.Prelude.{ℕ, ◌≡◌, ◌≤◌, ◌⊎◌, ◌&&◌, ◌||◌, nat_le, Bool, true, MatchBool, List, [], ◌∷◌, ◌++◌, Option, Some, None, Result, Ok, Err, codes}
use Rattle.std.specs.List.{list_all}
use Rattle.std.specs.Str.{is_utf8, chars}
use Rattle.std.specs.Io.KnownBytes.{Appends, Keeps}
use Rattle.pif_cli_messages.specs.declared.statuses.JobFault.{JobFault}
use Rattle.pif_cli_messages.specs.Statuses.{is_output}
use Rattle.pif_script_model.specs.Runs.{WritesPart}

-- a character that shows: of ASCII from a space to a tilde, and beyond it each but the controls, which end at U+009F
abbrev pub is_printable : ℕ → Bool
is_printable c = (nat_le 32 c && nat_le c 126) || nat_le 160 c

-- whether each character of a text in UTF-8 does
abbrev pub are_printable : List ℕ → Bool
are_printable text = list_all is_printable (chars text)

-- a text of such characters, in UTF-8
abbrev pub is_shown : List ℕ → Bool
is_shown text = is_utf8 text && are_printable text

-- one line was told: printable characters, and the one LF after them; or a proper part of it, if a write failed
abbrev pub TellsLine : (held holds : Option (List ℕ)) → Type 0
TellsLine held holds =
    (text : List ℕ) × (is_shown text ≡ true)
    × (Appends held holds (text ++ 10 ∷ []) ⊎ WritesPart held holds (text ++ 10 ∷ []))

-- what is told of a fault: one line, or nothing of an output that nobody reads any more, or of which was told before
abbrev pub TellsFault : JobFault → (held holds : Option (List ℕ)) → Type 0
TellsFault fault held holds = MatchBool (is_output fault) (TellsLine held holds ⊎ Keeps held holds) (TellsLine held holds)

-- notes were told, all of them and nothing else; or a proper part of them, if a write failed
abbrev pub TellsNotes : (notes : List ℕ) → (held holds : Option (List ℕ)) → Type 0
TellsNotes notes held holds = Appends held holds notes ⊎ WritesPart held holds notes

-- what is told of a job that ended so: its notes if it was done, else what is told of its fault
abbrev pub TellsOf : (notes : List ℕ) → Result (Unit {0}) JobFault → (held holds : Option (List ℕ)) → Type 0
TellsOf notes (Ok x) held holds = TellsNotes notes held holds
TellsOf notes (Err e) held holds = TellsFault e held holds

-- what is told at a status of the program: at 0 the notes of what was done; a text at 1; one line at 2 to 10. At 3 it is
-- also a proper part of the text of 1, if that could not be written, and nothing of an output that nobody reads any
-- more
abbrev pub TellsAt : ℕ → (held holds : Option (List ℕ)) → Type 0
TellsAt status held holds =
    ((status ≡ 0) × ((notes : List ℕ) × TellsNotes notes held holds))
    ⊎ (((status ≡ 1) × ((text : List ℕ) × Appends held holds text))
    ⊎ (((2 ≤ status) × (status ≤ 10) × TellsLine held holds)
    ⊎ (((status ≡ 3) × ((text : List ℕ) × WritesPart held holds text))
    ⊎ ((status ≡ 3) × Keeps held holds))))
