-- What holds at each place of a list after a change at one.
use Rattle.std.proofs.Common.{ℕ, zero, suc, List, [], ◌∷◌, get_or, set}

-- after another item was put at a place
pub changed_at : {A : Type 0} (d : A) (P : ℕ → A → Type 0) (xs : List A) (n : ℕ) (x : A) → P n x
    → ((k : ℕ) → P k (get_or xs k d))
    → (m : ℕ) → P m (get_or (set xs n x) m d)
changed_at d P [] n x here all m = all m
changed_at d P (y ∷ ys) zero x here all zero = here
changed_at d P (y ∷ ys) zero x here all (suc m) = all (suc m)
changed_at d P (y ∷ ys) (suc n) x here all zero = all zero
changed_at d P (y ∷ ys) (suc n) x here all (suc m) = changed_at d (λ k. P (suc k)) ys n x here (λ k. all (suc k)) m
