-- A thread more, which waits for nobody and for which nobody waits, changes nobody's effective priority: chains among n
-- threads have fewer than n hops.
use Rattle.std.proofs.Common.{◌≡◌, ◌≢◌, ◌⊎◌, ℕ, suc, ◌<◌, ◌≤◌, true, refl, sym, ap, ◌∙◌, inl, inr, arith}
use Rattle.std.proofs.lemmas.Bool.{true≢false, cases_lt, false_from_ne_true}
use Rattle.pif_model.specs.Graph.{reaches_within, effective_among}
use Rattle.pif_model_lemmas.proofs.Following.{reaches-from_within, reaches_over_more, within-from_reaches, within_alone}
use Rattle.pif_model_lemmas.proofs.Hops.{reach_below}
use Rattle.pif_model_lemmas.proofs.Greatest.{effective_most, effective_own, effective_under}
use Rattle.pif_model_lemmas.proofs.Waiting.{by_test}

module _ (n : ℕ) (f : ℕ → ℕ) (below : (v : ℕ) → f v < n) where
  -- over one hop more one reaches whom one reached
  back : (u t : ℕ) → u < n → reaches_within (suc n) f u t ≡ true → reaches_within n f u t ≡ true
  back u t l h = within-from_reaches n f u t l (λ v some. below v) (reaches-from_within (suc n) f u t h)

  -- and nobody else
  pub reaches_with_more : (u t : ℕ) → u < n → reaches_within (suc n) f u t ≡ reaches_within n f u t
  reaches_with_more u t l = by_test (λ b. reaches_within n f u t ≡ b → reaches_within (suc n) f u t ≡ b) (reaches_within n f u t)
      (λ e x. reaches_over_more n (suc n) f u t (omega arith) x)
      (λ e x. false_from_ne_true (reaches_within (suc n) f u t) (λ r. true≢false (sym (back u t l r) ∙ x)))
      refl

  module _ (b c : ℕ → ℕ) (same : (u : ℕ) → u < n → c u ≡ b u) (nobody : f n ≡ 0) where
    -- who reaches t among one thread more is that thread, or reached it
    among : (u t : ℕ) → u < suc n → reaches_within (suc n) f u t ≡ true → ((u < n) × (reaches_within n f u t ≡ true)) ⊎ ((u ≡ n) × (u ≡ t))
    among u t l h = by_place (cases_lt u n)
      where
        by_place : ((u < n) ⊎ (n ≤ u)) → ((u < n) × (reaches_within n f u t ≡ true)) ⊎ ((u ≡ n) × (u ≡ t))
        by_place (inl less) = inl (less, back u t less h)
        by_place (inr more) = let last : u ≡ n = omega arith in inr (last, within_alone (suc n) f u t (ap f last ∙ nobody) h)

    -- with one thread more, which waits for nobody, the others have the effective priorities that they had
    pub effective_with_more : (t : ℕ) → t ≢ n → effective_among (suc n) f c t ≡ effective_among n f b t
    effective_with_more t d = omega (arith, less, greater)
      where
        near : (u : ℕ) → ((u < n) × (reaches_within n f u t ≡ true)) ⊎ ((u ≡ n) × (u ≡ t))
            → (c u ≡ 0) ⊎ ((v : ℕ) × (v < n) × (reaches_within n f v t ≡ true) × (c u ≤ b v))
        near u (inl p) = inr (u, p.0, p.1, omega (arith, same u p.0))
        near u (inr p) = absurd (d (sym p.1 ∙ p.0))

        less : effective_among (suc n) f c t ≤ effective_among n f b t
        less = effective_under (suc n) n f f c b t t (λ u l h. near u (among u t l h))

        greater : effective_among n f b t ≤ effective_among (suc n) f c t
        greater = effective_under n (suc n) f f b c t t (λ u l h. inr (u, omega arith, reaches_over_more n (suc n) f u t (omega arith) h, omega (arith, same u l)))

    -- and it has its base priority
    pub effective_of_more : effective_among (suc n) f c n ≡ c n
    effective_of_more = omega (arith, less, effective_own (suc n) f c n (omega arith))
      where
        only : (u : ℕ) → ((u < n) × (reaches_within n f u n ≡ true)) ⊎ ((u ≡ n) × (u ≡ n)) → c u ≤ c n
        only u (inl p) = let past : n < n = reach_below f n below (reaches-from_within n f u n p.1) p.0 in absurd (omega arith)
        only u (inr p) = let is : c u ≡ c n = ap c p.0 in omega arith

        less : effective_among (suc n) f c n ≤ c n
        less = effective_most (suc n) f c n (c n) (λ u l h. only u (among u n l h))
