-- Numbers that follow one another.
use Rattle.std.proofs.Common.{ℕ, zero, suc, ◌≡◌, ◌+◌, List, [], ◌∷◌, ◌++◌, arith, ap}
use Rattle.pif_job_parts.specs.Indexes.{numbers_from}

-- one more
pub one_more : (n k m : ℕ) → m ≡ n + k → numbers_from n (suc k) ≡ numbers_from n k ++ m ∷ []
one_more n zero m e = ap (λ (x : ℕ). x ∷ []) (omega (arith, e))
one_more n (suc k) m e = ap (λ (xs : List ℕ). n ∷ xs) (one_more (n + 1) k m (omega (arith, e)))
