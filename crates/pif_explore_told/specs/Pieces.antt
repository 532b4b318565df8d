-- Numbers in decimal digits, each behind words, and words behind all of them.
use Rattle.std.specs.Prelude.{ℕ, List, [], ◌∷◌, ◌++◌, decimal}

abbrev pub numbers_told : (numbers : List (List ℕ × ℕ)) → (behind : List ℕ) → List ℕ
numbers_told [] behind = behind
numbers_told (x ∷ more) behind = x.0 ++ (decimal x.1 ++ numbers_told more behind)
