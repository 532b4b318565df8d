-- Texts of JSON (RFC 8259).
use Rattle.std.specs.Prelude.{ℕ, zero, suc, Bool, List, [], ◌∷◌, ◌++◌, Option, Some, None, codes, decimal, map, if◌then◌else◌}
use Rattle.std.specs.List.{join_with_byte}

-- a string of bytes that JSON does not escape, as words of scripts, and names of letters and digits
abbrev pub quoted : List ℕ → List ℕ
quoted text = 34 ∷ text ++ 34 ∷ []

-- a value, or `null` if there is none
abbrev pub or_null : {A : Type 0} → (A → List ℕ) → Option A → List ℕ
or_null text None = codes "null"
or_null text (Some x) = text x

-- the name of a thread, a mutex or a condition variable, by its letter and its number
abbrev pub name_text : ℕ → ℕ → List ℕ
name_text letter number = quoted (letter ∷ decimal number)

-- a name, or `null`
abbrev pub name_or_null : ℕ → Option ℕ → List ℕ
name_or_null letter number = or_null (name_text letter) number

-- a number, or `null`
abbrev pub number_or_null : Option ℕ → List ℕ
number_or_null number = or_null decimal number

-- `true` or `false`
abbrev pub bool_text : Bool → List ℕ
bool_text b = if b then codes "true" else codes "false"

-- texts with a comma between them
unfoldable pub separated : List (List ℕ) → List ℕ
separated texts = join_with_byte 44 texts

-- the numbers from 1 to this one
unfoldable pub numbers : ℕ → List ℕ
numbers zero = []
numbers (suc n) = numbers n ++ suc n ∷ []

-- an array of names that have this letter
abbrev pub names_array : ℕ → List ℕ → List ℕ
names_array letter members = codes "[" ++ separated (map (name_text letter) members) ++ codes "]"
