-- Over as many hops as there are threads one finds every chain: the bounded effective priority is that of the subject's
-- words.
use Rattle.std.proofs.Common.{◌≡◌, ◌≢◌, ◌<◌, ℕ, true, sym, subst}
use Rattle.pif_model.specs.Graph.{reaches_within, effective_among, IsEffective}
use Rattle.pif_model_lemmas.proofs.Following.{Follows, reaches-from_within, within-from_reaches, within_alone}
use Rattle.pif_model_lemmas.proofs.Greatest.{effective_above, effective_attained}

-- the effective priority in the subject's words
pub effective_over_any_chain : (n : ℕ) (w b : ℕ → ℕ) (t : ℕ) → w 0 ≡ 0 → ((u : ℕ) → w u ≢ 0 → w u < n) → t ≢ 0 → t < n
    → IsEffective (λ u. (u ≢ 0) × (u < n)) (Follows w) b t (effective_among n w b t)
effective_over_any_chain n w b t still below some l =
    record {
      attained = (best.0, ((λ e. some (from_0 e)), best.1), reaches-from_within n w best.0 t best.2, best.3);
      greatest = λ u k r. effective_above n w b t u k.1 (within-from_reaches n w u t k.1 below r);
    }
  where
    best : (u : ℕ) × (u < n) × (reaches_within n w u t ≡ true) × (b u ≡ effective_among n w b t)
    best = effective_attained n w b t l

    from_0 : best.0 ≡ 0 → t ≡ 0
    from_0 e = sym (within_alone n w 0 t still (subst (λ (x : ℕ). reaches_within n w x t ≡ true) e best.2))
