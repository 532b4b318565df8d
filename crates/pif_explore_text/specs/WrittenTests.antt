-- The words by which a line writes a test: each part that has parts itself stands in brackets.
use Rattle.std.specs.Prelude.{ℕ, ◌<◌, Bool, true, false, List, [], ◌∷◌, ◌++◌, if◌then◌else◌, codes, decimal}
use Rattle.pif_explore_text.specs.declared.programs.Guard.{Guard}
use Rattle.pif_explore_text.specs.declared.programs.Guard.TheVariants.{Answered, Holds}
use Rattle.pif_explore_text.specs.Trees.{Trial, asks, opposite, all_of, one_of}
use Rattle.pif_explore_text.specs.Written.{IsCell, IsWritten, cell_name, wanted_words}

-- a test with cells that there are, and numbers that a line can write
abbrev pub IsAsked : Trial → Type 0
IsAsked (asks (Answered a)) = a < 4294967296
IsAsked (asks (Holds x wanted)) = IsCell x × IsWritten wanted
IsAsked (opposite t) = IsAsked t
IsAsked (all_of t u) = IsAsked t × IsAsked u
IsAsked (one_of t u) = IsAsked t × IsAsked u

-- the words of a question
abbrev pub guard_words : Guard → List (List ℕ)
guard_words (Answered a) = decimal a ∷ []
guard_words (Holds x wanted) = cell_name x ∷ wanted_words wanted

-- whether a test has no parts
abbrev pub is_single : Trial → Bool
is_single (asks guard) = true
is_single _ = false

-- the words of a test, in brackets unless it is single
abbrev pub enclosed_words : Trial → List (List ℕ) → List (List ℕ)
enclosed_words t words = if is_single t then words else codes "(" ∷ (words ++ codes ")" ∷ [])

-- the words of a test
abbrev pub asked_words : Trial → List (List ℕ)
asked_words (asks guard) = guard_words guard
asked_words (opposite t) = codes "not" ∷ enclosed_words t (asked_words t)
asked_words (all_of t u) = enclosed_words t (asked_words t) ++ codes "and" ∷ enclosed_words u (asked_words u)
asked_words (one_of t u) = enclosed_words t (asked_words t) ++ codes "or" ∷ enclosed_words u (asked_words u)
