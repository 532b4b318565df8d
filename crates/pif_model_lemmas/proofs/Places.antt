-- A change of one place of a list, read at a place, and seen through a map.
use Rattle.std.proofs.Common.{◌≡◌, ℕ, zero, suc, List, [], ◌∷◌, get_or, set, map, refl}
use Rattle.std.proofs.Math.ListN.{get_or-map}

-- what stands at a place of a mapped list, if the default is mapped too
pub mapped_at : {A B : Type 0} (f : A → B) (l : List A) (n : ℕ) (d : A) → get_or (map f l) n (f d) ≡ f (get_or l n d)
mapped_at f l n d = get_or-map f l n d

-- what a change of one place keeps of that place, it keeps of every place
pub kept_at : {A X : Type 0} (f : A → X) (l : List A) (t : ℕ) (y d : A) → f y ≡ f (get_or l t d)
    → (u : ℕ) → f (get_or (set l t y) u d) ≡ f (get_or l u d)
kept_at f [] t y d h u = refl
kept_at f (x ∷ xs) zero y d h zero = h
kept_at f (x ∷ xs) zero y d h (suc u) = refl
kept_at f (x ∷ xs) (suc t) y d h zero = refl
kept_at f (x ∷ xs) (suc t) y d h (suc u) = kept_at f xs t y d h u
