-- Handing a mutex from t to its top waiter u changes no effective priority but that of t: over the functions that say
-- for whom each thread waits before and after.
use Rattle.std.proofs.Common.{◌≡◌, ◌≢◌, ◌⊎◌, ℕ, ◌<◌, ◌≤◌, Bool, true, false, sym, ap, subst, ◌∙◌, inl, inr, arith}
use Rattle.std.proofs.lemmas.Bool.{cases_eq, cases_Bool}
use Rattle.pif_model.specs.Graph.{effective_among, Reaches}
use Rattle.pif_model.specs.Graph.Reaches.{here, hop}
use Rattle.pif_model_lemmas.proofs.Following.{Follows, reaches-from_within, within-from_reaches}
use Rattle.pif_model_lemmas.proofs.Hops.{Reaches-then, alone}
use Rattle.pif_model_lemmas.proofs.Greatest.{effective_most, effective_above, effective_own, effective_under}

-- `on` says who is queued on the mutex: they waited for t, and now all but u wait for u
module _ (n : ℕ) (w now b : ℕ → ℕ) (t u : ℕ) (on : ℕ → Bool) (below : (x : ℕ) → w x < n) (below_now : (x : ℕ) → now x < n)
    (waited : (x : ℕ) → on x ≡ true → w x ≡ t) (others : (x : ℕ) → on x ≡ false → now x ≡ w x) (moved : (x : ℕ) → on x ≡ true → x ≢ u → now x ≡ u)
    (freed : now u ≡ 0) (idle : w t ≡ 0) (top : (x : ℕ) → on x ≡ true → effective_among n w b x ≤ effective_among n w b u) where
  abbrev effective : ℕ → ℕ
  effective x = effective_among n w b x

  -- a waiter is at most as high as for whom it waits
  along : (x v : ℕ) → Follows w x v → effective x ≤ effective v
  along x v step = effective_under n n w w b b x v (λ y l r. inr (y, l, within-from_reaches n w y v l (λ z some. below z) (Reaches-then (reaches-from_within n w y x r) step), omega arith))

  up : {x y : ℕ} → Reaches (Follows now) x y → effective x ≤ effective y
  up (here e) = let same = ap effective e in omega (arith, same)
  up {y = y} (hop {u = x} {v = v} step r) = by_on (cases_Bool (on x)) (cases_eq x u) (up r)
    where
      by_on : ((on x ≡ true) ⊎ (on x ≡ false)) → ((x ≡ u) ⊎ (x ≡ u → ⊥)) → effective v ≤ effective y → effective x ≤ effective y
      by_on (inl e) (inl same) ih = absurd (step.1 (sym step.0 ∙ ap now same ∙ freed))
      by_on (inl e) (inr ne) ih = let at = ap effective (sym (moved x e ne) ∙ step.0) in omega (arith, top x e, at)
      by_on (inr e) c ih = omega (arith, along x v (sym (others x e) ∙ step.0, step.1))

  down : {x y : ℕ} → y ≢ t → Reaches (Follows w) x y → Reaches (Follows now) x y
  down ne (here e) = here e
  down {y = y} ne (hop {u = x} {v = v} step r) = by_on (cases_Bool (on x)) (down ne r)
    where
      by_on : ((on x ≡ true) ⊎ (on x ≡ false)) → Reaches (Follows now) v y → Reaches (Follows now) x y
      by_on (inl e) ih = absurd (ne (sym (alone w idle (subst (λ (z : ℕ). Reaches (Follows w) z y) (sym step.0 ∙ waited x e) r))))
      by_on (inr e) ih = hop (others x e ∙ step.0, step.1) ih

  pub effective_handed : (y : ℕ) → y ≢ t → effective_among n now b y ≡ effective_among n w b y
  effective_handed y ne = omega (arith, less, greater)
    where
      less : effective_among n now b y ≤ effective_among n w b y
      less = effective_most n now b y _ (λ x l e. omega (arith, effective_own n w b x l, up (reaches-from_within n now x y e)))

      greater : effective_among n w b y ≤ effective_among n now b y
      greater = effective_under n n w now b b y y (λ x l e. inr (x, l, within-from_reaches n now x y l (λ z some. below_now z) (down ne (reaches-from_within n w x y e)), omega arith))

  -- the same holds of t besides, if its base priority is what its effective priority was
  pub effective_lifted : (c : ℕ → ℕ) → c t ≡ effective_among n w b t → ((x : ℕ) → x ≢ t → c x ≡ b x) → t < n → (y : ℕ) → effective_among n now c y ≡ effective_among n w b y
  effective_lifted c high same l y = omega (arith, less, greater (cases_eq y t))
    where
      bound : (x : ℕ) → x < n → Reaches (Follows now) x y → ((x ≡ t) ⊎ (x ≡ t → ⊥)) → c x ≤ effective_among n w b y
      bound x xl r (inl e) = let own : c x ≡ effective_among n w b x = ap c e ∙ high ∙ ap effective (sym e) in omega (arith, own, up r)
      bound x xl r (inr ne) = omega (arith, same x ne, effective_own n w b x xl, up r)

      less : effective_among n now c y ≤ effective_among n w b y
      less = effective_most n now c y _ (λ x xl e. bound x xl (reaches-from_within n now x y e) (cases_eq x t))

      reached : (x : ℕ) → x < n → y ≢ t → Reaches (Follows w) x y → ((x ≡ t) ⊎ (x ≡ t → ⊥)) → b x ≤ effective_among n now c y
      reached x xl ne r (inl e) = absurd (ne (sym (alone w idle (subst (λ (z : ℕ). Reaches (Follows w) z y) e r))))
      reached x xl ne r (inr other) =
          let above : c x ≤ effective_among n now c y = effective_above n now c y x xl (within-from_reaches n now x y xl (λ z some. below_now z) (down ne r)) in
          omega (arith, same x other, above)

      greater : ((y ≡ t) ⊎ (y ≡ t → ⊥)) → effective_among n w b y ≤ effective_among n now c y
      greater (inl e) =
          let own : c y ≤ effective_among n now c y = effective_own n now c y (omega (arith, e, l)) in
          let is : c y ≡ effective_among n w b y = ap c e ∙ high ∙ ap effective (sym e) in
          omega (arith, own, is)
      greater (inr ne) = effective_most n w b y _ (λ x xl e. reached x xl ne (reaches-from_within n w x y e) (cases_eq x t))
