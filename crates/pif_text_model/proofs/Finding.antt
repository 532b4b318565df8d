-- What is found first in a list.
use Rattle.std.proofs.Common.{◌≡◌, ℕ, ◌+◌, ◌<◌, Bool, false, List, drop, get_or, length, refl, ap, ◌∙◌}
use Rattle.std.specs.Prelude.{find}
use Rattle.std.proofs.lemmas.List.{drop_more}

-- what does not pass is not what is found
pub find_behind : {A : Type 0} (p : A → Bool) (xs : List A) (i : ℕ) (d : A) → i < length xs
    → p (get_or xs i d) ≡ false → find p (drop i xs) ≡ find p (drop (i + 1) xs)
find_behind p xs i d lt e = ap (find p) (drop_more xs i d lt) ∙ rw e refl
