-- Numbers of which all are kept.
use Rattle.std.proofs.Common.{◌≡◌, ℕ, true, List, [], ◌∷◌, refl, ap}
use Rattle.std.specs.Prelude.{filter}

pub all_kept : (ns : List ℕ) → filter (λ (n : ℕ). true) ns ≡ ns
all_kept [] = refl
all_kept (n ∷ ns) = ap (λ (ms : List ℕ). n ∷ ms) (all_kept ns)
