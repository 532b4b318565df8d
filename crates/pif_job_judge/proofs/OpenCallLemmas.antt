-- Calls that can't be answered.
use Rattle.std.proofs.Common.{◌≡◌, ◌≤◌, ◌==◌, false, arith, List, [], ◌∷◌, length}

-- there are calls, if their list isn't empty
pub some_calls : {X : Type 0} (xs : List X) → (length xs == 0) ≡ false → 1 ≤ length xs
some_calls [] e = absurd (cc)
some_calls (x ∷ xs) e = omega arith
