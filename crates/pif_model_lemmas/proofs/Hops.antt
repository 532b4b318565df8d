-- Chains of waiting, hop by hop: one hop more, the last hop, and whom one reaches. If threads below n alone wait,
-- also chains that end at a number from n on are found over few hops.
use Rattle.std.proofs.Common.{◌≡◌, ◌≢◌, ◌⊎◌, ℕ, zero, suc, ◌<◌, ◌≤◌, ◌+◌, ◌-◌, true, false, ◌==◌, nat_lt, refl, sym, ◌∙◌, subst, inl, inr, if◌then◌else◌, arith}
use Rattle.std.proofs.lemmas.Bool.{cases_lt, ne_eqb, false_from_ne_true}
use Rattle.std.proofs.lemmas.Bool.Decides.{nat_tests}
use Rattle.pif_model.specs.Graph.{reaches_within, Reaches}
use Rattle.pif_model.specs.Graph.Reaches.{here, hop}
use Rattle.pif_model_lemmas.proofs.Following.{Follows, reaches_over_more, within-from_reaches, within_here, within_alone}
use Rattle.pif_model_lemmas.proofs.Cycles.{Reaches-trans, reaches-alone}

-- one hop more at the end
pub Reaches-then : {Waits : ℕ → ℕ → Type 0} {u v t : ℕ} → Reaches Waits u v → Waits v t → Reaches Waits u t
Reaches-then r a = Reaches-trans r (hop a (here refl))

-- the last hop of a chain
pub last_hop : {W : ℕ → ℕ → Type 0} {u t : ℕ} → Reaches W u t → (u ≡ t) ⊎ ((x : ℕ) × Reaches W u x × W x t)
last_hop (here e) = inl e
last_hop {W} {t = t} (hop {u = u} {v = v} a r) = by_rest (last_hop r)
  where
    by_rest : (v ≡ t) ⊎ ((x : ℕ) × Reaches W v x × W x t) → (u ≡ t) ⊎ ((x : ℕ) × Reaches W u x × W x t)
    by_rest (inl e) = inr (u, here refl, subst (λ (y : ℕ). W u y) e a)
    by_rest (inr s) = inr (s.0, hop a s.1, s.2)

-- who waits for nobody reaches itself alone
pub alone : (w : ℕ → ℕ) {u t : ℕ} → w u ≡ 0 → Reaches (Follows w) u t → u ≡ t
alone w {u = u} e r = sym (reaches-alone u (λ z a. a.1 (sym a.0 ∙ e)) refl r)

-- nobody is reached by nobody else
pub nobody : (w : ℕ → ℕ) {u t : ℕ} → t ≡ 0 → Reaches (Follows w) u t → u ≡ 0
nobody w e (here s) = s ∙ e
nobody w e (hop {v = v} a r) = absurd (a.1 (nobody w e r))

-- who is reached by a number below n is below n, if each waits for one below n
pub reach_below : (w : ℕ → ℕ) (n : ℕ) → ((x : ℕ) → w x < n) → {u t : ℕ} → Reaches (Follows w) u t → u < n → t < n
reach_below w n below (here e) l = omega arith
reach_below w n below (hop {u = u} {v = v} e r) l = reach_below w n below r (omega (arith, e.0, below u))

-- over the hops of another function, if that one waits for the same or for nobody
within_wider : (f w : ℕ → ℕ) → ((x : ℕ) → f x ≢ 0 → f x ≡ w x) → (k u t : ℕ) → reaches_within k f u t ≡ true → reaches_within k w u t ≡ true
unfolding reaches_within
within_wider f w same zero u t h = h
within_wider f w same (suc k) u t h = grind (arith, nat_tests, within_wider f w same k (f u) t, same u)

-- one hop more at the end
within_then : (w : ℕ → ℕ) (k u v t : ℕ) → reaches_within k w u v ≡ true → w v ≡ t → t ≢ 0 → reaches_within (suc k) w u t ≡ true
unfolding reaches_within
within_then w zero u v t h e n = grind (arith, nat_tests)
within_then w (suc k) u v t h e n = grind (arith, nat_tests, within_then w k (w u) v t)

module _ (n : ℕ) (w : ℕ → ℕ) (out : (x : ℕ) → n ≤ x → w x ≡ 0) where
  -- for whom each waits among the threads below n
  abbrev inner : ℕ → ℕ
  inner x = if nat_lt (w x) n then w x else 0

  inner_below : (x : ℕ) → inner x ≢ 0 → inner x < n
  inner_below x d = grind (arith, nat_tests)

  inner_same : (x : ℕ) → w x < n → inner x ≡ w x
  inner_same x l = grind (arith, nat_tests)

  inner_waits : (x : ℕ) → inner x ≢ 0 → inner x ≡ w x
  inner_waits x d = grind (arith, nat_tests)

  -- a chain stays among the threads below n, but perhaps for its last hop
  abbrev Stays : ℕ → ℕ → Type 0
  Stays u t = Reaches (Follows inner) u t ⊎ ((v : ℕ) × Reaches (Follows inner) u v × Follows w v t)

  stays : {u t : ℕ} → Reaches (Follows w) u t → Stays u t
  stays (here e) = inl (here e)
  stays {t = t} (hop {u = u} {v = v} a r) = by_place (cases_lt v n) (stays r)
    where
      inside : v < n → Follows inner u v
      inside l = (inner_same u (subst (λ (x : ℕ). x < n) (sym a.0) l) ∙ a.0, a.1)

      by_place : ((v < n) ⊎ (n ≤ v)) → Stays v t → Stays u t
      by_place (inl l) (inl s) = inl (hop (inside l) s)
      by_place (inl l) (inr s) = inr (s.0, hop (inside l) s.1, s.2)
      by_place (inr l) s = let same : v ≡ t = alone w (out v l) r in inr (u, here refl, (a.0 ∙ same, λ e. a.1 (same ∙ e)))

  -- who is below n is found over n hops
  pub found_below : (u t : ℕ) → u < n → t < n → Reaches (Follows w) u t → reaches_within n w u t ≡ true
  found_below u t lu lt r = within_wider inner w inner_waits n u t (within-from_reaches n inner u t lu inner_below (by_end (stays r)))
    where
      by_end : Stays u t → Reaches (Follows inner) u t
      by_end (inl s) = s
      by_end (inr s) = Reaches-then s.1 (inner_same s.0 (subst (λ (x : ℕ). x < n) (sym s.2.0) lt) ∙ s.2.0, s.2.1)

  -- and everybody over one more
  pub found : (u t : ℕ) → Reaches (Follows w) u t → reaches_within (suc n) w u t ≡ true
  found u t r = by_start (cases_lt u n)
    where
      by_end : u < n → Stays u t → reaches_within (suc n) w u t ≡ true
      by_end l (inl s) = reaches_over_more n (suc n) w u t (omega arith) (within_wider inner w inner_waits n u t (within-from_reaches n inner u t l inner_below s))
      by_end l (inr s) = within_then w n u s.0 t (within_wider inner w inner_waits n u s.0 (within-from_reaches n inner u s.0 l inner_below s.1)) s.2.0 s.2.1

      by_start : ((u < n) ⊎ (n ≤ u)) → reaches_within (suc n) w u t ≡ true
      by_start (inl l) = by_end l (stays r)
      by_start (inr l) = subst (λ (x : ℕ). reaches_within (suc n) w u x ≡ true) (alone w (out u l) r) (within_here (suc n) w u)

-- HOP BY HOP

-- who waits for nobody reaches no other
pub reached_never : (hops : ℕ) (w : ℕ → ℕ) (u t : ℕ) → (u ≡ t → ⊥) → w u ≡ 0 → reaches_within hops w u t ≡ false
reached_never hops w u t ne e = false_from_ne_true (reaches_within hops w u t) (λ h. ne (within_alone hops w u t e h))

-- who waits for somebody reaches whom that one reaches over the hops that are left of n
pub reached_hop : (n i : ℕ) (w : ℕ → ℕ) (u t : ℕ) → i < n → (u ≡ t → ⊥) → (w u ≡ 0 → ⊥)
    → reaches_within (n - i) w u t ≡ reaches_within (n - (i + 1)) w (w u) t
unfolding reaches_within
reached_hop n i w u t lt ne some =
    let s : n - i ≡ suc (n - (i + 1)) = omega arith in
    let same : (u == t) ≡ false = ne_eqb u t ne in
    let none : (w u == 0) ≡ false = ne_eqb (w u) 0 some in
    rw s (rw (same, none) refl)

-- the last hop
pub reached_last : (w : ℕ → ℕ) (u t : ℕ) → reaches_within 0 w u t ≡ (u == t)
unfolding reaches_within
reached_last w u t = refl
