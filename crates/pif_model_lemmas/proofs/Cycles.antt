-- Chains of waiting, and that no thread waits for itself through one, when hops come and go: over a relation, and over
-- a function that says for whom each thread waits.
use Rattle.std.proofs.Common.{◌≡◌, ◌≢◌, ◌⊎◌, ◌<◌, ℕ, Bool, true, false, refl, sym, ap, ◌∙◌, subst, inl, inr}
use Rattle.std.proofs.lemmas.Bool.{true≢false, cases_eq, cases_Bool, false_from_ne_true}
use Rattle.pif_model.specs.Graph.{reaches_within, Reaches}
use Rattle.pif_model.specs.Graph.Reaches.{here, hop}
use Rattle.pif_model_lemmas.proofs.Following.{Follows, reaches-from_within, within-from_reaches}

-- a chain is carried along from one relation to another
pub Reaches-map : {A B : ℕ → ℕ → Type 0} → ((u t : ℕ) → A u t → B u t) → {u t : ℕ} → Reaches A u t → Reaches B u t
Reaches-map f (here e) = here e
Reaches-map f (hop {u = u} {v = v} a r) = hop (f u v a) (Reaches-map f r)

-- nobody waits for itself through any chain
abbrev pub NoCycle : (ℕ → ℕ → Type 0) → Type 0
NoCycle W = (t u : ℕ) → W t u → Reaches W u t → ⊥

-- two chains, one after the other
pub Reaches-trans : {W : ℕ → ℕ → Type 0} {x y z : ℕ} → Reaches W x y → Reaches W y z → Reaches W x z
Reaches-trans {W} {z = z} (here e) r = subst (λ (v : ℕ). Reaches W v z) (sym e) r
Reaches-trans (hop a q) r = hop a (Reaches-trans q r)

-- if each hop was there before, no cycle comes
pub NoCycle-fewer : {W V : ℕ → ℕ → Type 0} → ((t u : ℕ) → V t u → W t u) → NoCycle W → NoCycle V
NoCycle-fewer f none t u a r = none t u (f t u a) (Reaches-map f r)

-- a chain after one more hop from t to n: it was there before, or it goes over that hop
reaches-past_hop : {W V : ℕ → ℕ → Type 0} (t n : ℕ) → ((x z : ℕ) → V x z → W x z ⊎ ((x ≡ t) × (z ≡ n))) → {x y : ℕ} → Reaches V x y
    → Reaches W x y ⊎ (Reaches W x t × Reaches W n y)
reaches-past_hop t n f (here e) = inl (here e)
reaches-past_hop {W} {V} t n f {y = y} (hop {u = x} {v = z} a r) = further (f x z a) (reaches-past_hop t n f r)
  where
    further : W x z ⊎ ((x ≡ t) × (z ≡ n)) → Reaches W z y ⊎ (Reaches W z t × Reaches W n y)
        → Reaches W x y ⊎ (Reaches W x t × Reaches W n y)
    further (inl b) (inl q) = inl (hop b q)
    further (inl b) (inr q) = inr (hop b q.0, q.1)
    further (inr e) (inl q) = inr (here e.0, subst (λ (v : ℕ). Reaches W v y) e.1 q)
    further (inr e) (inr q) = inr (here e.0, q.1)

-- one more hop, from t to n, makes no cycle if n did not reach t
pub NoCycle-hop : {W V : ℕ → ℕ → Type 0} (t n : ℕ) → ((x z : ℕ) → V x z → W x z ⊎ ((x ≡ t) × (z ≡ n)))
    → (Reaches W n t → ⊥) → NoCycle W → NoCycle V
NoCycle-hop {W} {V} t n f apart none x z a r = further (f x z a) (reaches-past_hop t n f r)
  where
    further : W x z ⊎ ((x ≡ t) × (z ≡ n)) → Reaches W z x ⊎ (Reaches W z t × Reaches W n x) → ⊥
    further (inl b) (inl q) = none x z b q
    further (inl b) (inr q) = apart (Reaches-trans q.1 (hop b q.0))
    further (inr e) (inl q) = apart (subst (λ (v : ℕ). Reaches W v t) e.1 (subst (λ (v : ℕ). Reaches W z v) e.0 q))
    further (inr e) (inr q) = apart (subst (λ (v : ℕ). Reaches W n v) e.0 q.1)

-- who waits for nobody reaches itself alone
pub reaches-alone : {V : ℕ → ℕ → Type 0} (r : ℕ) → ((z : ℕ) → V r z → ⊥) → {x y : ℕ} → x ≡ r → Reaches V x y → y ≡ r
reaches-alone r still e (here same) = sym same ∙ e
reaches-alone {V} r still {y = y} e (hop {u = x} {v = z} a q) = absurd (still z (subst (λ (v : ℕ). V v z) e a))

-- a chain after hops came to somebody who waits for nobody: it was there before, or it ends there
reaches-past_still : {W V : ℕ → ℕ → Type 0} (r : ℕ) → ((z : ℕ) → V r z → ⊥) → ((x z : ℕ) → V x z → W x z ⊎ (z ≡ r))
    → {x y : ℕ} → Reaches V x y
    → Reaches W x y ⊎ (y ≡ r)
reaches-past_still r still f (here e) = inl (here e)
reaches-past_still {W} {V} r still f {y = y} (hop {u = x} {v = z} a q) = further (f x z a) (reaches-past_still r still f q)
  where
    further : W x z ⊎ (z ≡ r) → Reaches W z y ⊎ (y ≡ r) → Reaches W x y ⊎ (y ≡ r)
    further (inl b) (inl p) = inl (hop b p)
    further (inl b) (inr e) = inr e
    further (inr e) p = inr (reaches-alone r still e q)

-- hops to somebody who waits for nobody make no cycle
pub NoCycle-still : {W V : ℕ → ℕ → Type 0} (r : ℕ) → ((z : ℕ) → V r z → ⊥) → ((x z : ℕ) → V x z → W x z ⊎ (z ≡ r))
    → NoCycle W → NoCycle V
NoCycle-still {W} {V} r still f none x z a q = further (f x z a) (reaches-past_still r still f q)
  where
    not_there : x ≡ r → ⊥
    not_there e = still z (subst (λ (v : ℕ). V v z) e a)

    further : W x z ⊎ (z ≡ r) → Reaches W z x ⊎ (x ≡ r) → ⊥
    further (inl b) (inl p) = none x z b p
    further (inl b) (inr e) = not_there e
    further (inr e) p = not_there (reaches-alone r still e q)

-- OVER A FUNCTION

-- if the test finds that nobody reaches itself over the hops that it looks at, nobody waits for itself
NoCycle-from_test : (n : ℕ) (w : ℕ → ℕ) → ((x : ℕ) → w x < n) → ((y : ℕ) → w y ≢ 0 → reaches_within n w (w y) y ≡ false) → NoCycle (Follows w)
NoCycle-from_test n w below acyclic t u a r =
    true≢false
    (sym (within-from_reaches n w (w t) t (below t) (λ x some. below x) (subst (λ (x : ℕ). Reaches (Follows w) x t) (sym a.0) r))
    ∙ acyclic t (λ z. a.1 (sym a.0 ∙ z)))

-- and back
test-from_NoCycle : (n : ℕ) (w : ℕ → ℕ) → NoCycle (Follows w) → (y : ℕ) → w y ≢ 0 → reaches_within n w (w y) y ≡ false
test-from_NoCycle n w none y some = false_from_ne_true (reaches_within n w (w y) y) (λ h. none y (w y) (refl, some) (reaches-from_within n w (w y) y h))

-- if t comes to wait for an owner that did not reach it, no thread comes to reach itself
pub still_acyclic : (w now : ℕ → ℕ) (t owner : ℕ) → ((x : ℕ) → x ≢ t → now x ≡ w x) → now t ≡ owner → (n : ℕ) → ((x : ℕ) → w x < n) → owner < n
    → reaches_within n w owner t ≡ false → ((y : ℕ) → w y ≢ 0 → reaches_within n w (w y) y ≡ false) → (y : ℕ) → now y ≢ 0 → reaches_within n now (now y) y ≡ false
still_acyclic w now t owner same new n below less unreached acyclic =
    test-from_NoCycle n now (NoCycle-hop t owner (λ x z a. by_start x z a (cases_eq x t)) never (NoCycle-from_test n w below acyclic))
  where
    by_start : (x z : ℕ) → Follows now x z → ((x ≡ t) ⊎ (x ≡ t → ⊥)) → Follows w x z ⊎ ((x ≡ t) × (z ≡ owner))
    by_start x z a (inl e) = inr (e, sym a.0 ∙ ap now e ∙ new)
    by_start x z a (inr ne) = inl (sym (same x ne) ∙ a.0, a.1)

    never : Reaches (Follows w) owner t → ⊥
    never r = true≢false (sym (within-from_reaches n w owner t less (λ x some. below x) r) ∙ unreached)

-- nor if those that `on` tells come to wait for u, which waits for nobody then
pub acyclic_handed : (w now : ℕ → ℕ) (u : ℕ) (on : ℕ → Bool) → ((x : ℕ) → on x ≡ false → now x ≡ w x) → ((x : ℕ) → on x ≡ true → x ≢ u → now x ≡ u) → now u ≡ 0
    → (n : ℕ) → ((x : ℕ) → w x < n) → ((y : ℕ) → w y ≢ 0 → reaches_within n w (w y) y ≡ false) → (y : ℕ) → now y ≢ 0 → reaches_within n now (now y) y ≡ false
acyclic_handed w now u on others moved freed n below acyclic =
    test-from_NoCycle n now (NoCycle-still u still (λ x z a. by_on x z a (cases_Bool (on x)) (cases_eq x u)) (NoCycle-from_test n w below acyclic))
  where
    still : (z : ℕ) → Follows now u z → ⊥
    still z a = a.1 (sym a.0 ∙ freed)

    by_on : (x z : ℕ) → Follows now x z → ((on x ≡ true) ⊎ (on x ≡ false)) → ((x ≡ u) ⊎ (x ≡ u → ⊥)) → Follows w x z ⊎ (z ≡ u)
    by_on x z a (inl e) (inl same) = absurd (still z (ap now (sym same) ∙ a.0, a.1))
    by_on x z a (inl e) (inr other) = inr (sym a.0 ∙ moved x e other)
    by_on x z a (inr e) c = inl (sym (others x e) ∙ a.0, a.1)
