-- Effective priorities over functions that say for whom each thread waits and which base priorities there are: their
-- bounds, what leaves them as they are, and one hop of waiting at a time. And bounds of a greatest value.
use Rattle.std.proofs.Common.{◌≡◌, ◌≢◌, ◌⊎◌, ◌<◌, ◌≤◌, ◌==◌, ℕ, zero, suc, max, Bool, true, false, refl, sym, ap, ◌∙◌, inl, inr, if◌then◌else◌, arith}
use Rattle.std.proofs.Math.Path.{fun_ext}
use Rattle.std.proofs.lemmas.Bool.{cases_lt, eqb-true, eq-eqb}
use Rattle.pif_model.specs.Graph.{reaches_within, greatest_where, effective_among, Reaches}
use Rattle.pif_model_lemmas.proofs.Following.{Follows, IsGreatestAt, reaches_over_more, reaches-from_within, within-from_reaches, within_here, greatest_where_above, greatest_where_cases, greatest_where_at}
use Rattle.pif_model_lemmas.proofs.Hops.{Reaches-then, last_hop, found_below}

-- the greatest value is at most what each that passes is at most
pub greatest_where_most : (test : ℕ → Bool) (f : ℕ → ℕ) (n m : ℕ) → ((u : ℕ) → u < n → test u ≡ true → f u ≤ m) → greatest_where test f n ≤ m
greatest_where_most test f n m h = by_case (greatest_where_cases test f n)
  where
    by_case : IsGreatestAt test f n ⊎ (((u : ℕ) → u < n → test u ≡ false) × (greatest_where test f n ≡ 0)) → greatest_where test f n ≤ m
    by_case (inl p) = omega (arith, p.3, h p.0 p.1 p.2)
    by_case (inr p) = omega (arith, p.1)

-- the greatest value if two tests and two functions agree below n
pub greatest_where_same : (p q : ℕ → Bool) (f g : ℕ → ℕ) (n : ℕ) → ((u : ℕ) → u < n → p u ≡ q u) → ((u : ℕ) → u < n → f u ≡ g u)
    → greatest_where p f n ≡ greatest_where q g n
unfolding greatest_where
greatest_where_same p q f g zero a b = refl
greatest_where_same p q f g (suc n) a b =
    let ih : greatest_where p f n ≡ greatest_where q g n = greatest_where_same p q f g n (λ u l. a u (omega arith)) (λ u l. b u (omega arith)) in
    λ i. if a n (omega arith) i then max (b n (omega arith) i) (ih i) else ih i

pub effective_most : (n : ℕ) (w b : ℕ → ℕ) (t m : ℕ) → ((u : ℕ) → u < n → reaches_within n w u t ≡ true → b u ≤ m) → effective_among n w b t ≤ m
unfolding effective_among
effective_most n w b t m h = greatest_where_most (λ (u : ℕ). reaches_within n w u t) b n m h

pub effective_above : (n : ℕ) (w b : ℕ → ℕ) (t u : ℕ) → u < n → reaches_within n w u t ≡ true → b u ≤ effective_among n w b t
unfolding effective_among
effective_above n w b t u l e = greatest_where_above (λ (x : ℕ). reaches_within n w x t) b n u l e

-- somebody who reaches t has that base priority
pub effective_attained : (n : ℕ) (w b : ℕ → ℕ) (t : ℕ) → t < n → (u : ℕ) × (u < n) × (reaches_within n w u t ≡ true) × (b u ≡ effective_among n w b t)
unfolding effective_among
effective_attained n w b t l = greatest_where_at (λ (u : ℕ). reaches_within n w u t) b n t l (within_here n w t)

-- one's own base priority
pub effective_own : (n : ℕ) (w b : ℕ → ℕ) (t : ℕ) → t < n → b t ≤ effective_among n w b t
effective_own n w b t l = effective_above n w b t t l (within_here n w t)

-- the effective priority is at most another if each that reaches the one has one as high that reaches the other
pub effective_under : (n n' : ℕ) (w w' b b' : ℕ → ℕ) (t t' : ℕ)
    → ((u : ℕ) → u < n → reaches_within n w u t ≡ true → (b u ≡ 0) ⊎ ((v : ℕ) × (v < n') × (reaches_within n' w' v t' ≡ true) × (b u ≤ b' v)))
    → effective_among n w b t ≤ effective_among n' w' b' t'
effective_under n n' w w' b b' t t' h = effective_most n w b t (effective_among n' w' b' t') (λ u l e. by_case u (h u l e))
  where
    by_case : (u : ℕ) → ((b u ≡ 0) ⊎ ((v : ℕ) × (v < n') × (reaches_within n' w' v t' ≡ true) × (b u ≤ b' v))) → b u ≤ effective_among n' w' b' t'
    by_case u (inl z) = omega arith
    by_case u (inr p) = let up : b' p.0 ≤ effective_among n' w' b' t' = effective_above n' w' b' t' p.0 p.1 p.2 in omega (arith, p.3)

-- more numbers, none of which counts
pub effective_wider : (n more : ℕ) (w b : ℕ → ℕ) (t : ℕ) → n ≤ more → ((x : ℕ) → w x ≢ 0 → w x < n) → ((u : ℕ) → n ≤ u → b u ≡ 0)
    → effective_among more w b t ≡ effective_among n w b t
effective_wider n more w b t le below none = omega (arith, less, greater)
  where
    near : (u : ℕ) → ((u < n) ⊎ (n ≤ u)) → reaches_within more w u t ≡ true → (b u ≡ 0) ⊎ ((v : ℕ) × (v < n) × (reaches_within n w v t ≡ true) × (b u ≤ b v))
    near u (inl l) e = inr (u, l, within-from_reaches n w u t l below (reaches-from_within more w u t e), omega arith)
    near u (inr g) e = inl (none u g)

    less : effective_among more w b t ≤ effective_among n w b t
    less = effective_under more n w w b b t t (λ u l e. near u (cases_lt u n) e)

    greater : effective_among n w b t ≤ effective_among more w b t
    greater = effective_under n more w w b b t t (λ u l e. inr (u, omega arith, reaches_over_more n more w u t le e, omega arith))

-- the same threads, the same waiting and the same base priorities
pub effective_same : (n n' : ℕ) (w w' b b' : ℕ → ℕ) (t : ℕ) → n ≡ n' → ((u : ℕ) → w u ≡ w' u) → ((u : ℕ) → b u ≡ b' u) → effective_among n w b t ≡ effective_among n' w' b' t
effective_same n n' w w' b b' t e same base = λ i. effective_among (e i) (fun_ext same i) (fun_ext base i) t

-- and over the same hops one reaches the same
pub reaches_same : (n n' : ℕ) (w w' : ℕ → ℕ) (u u' t : ℕ) → n ≡ n' → ((x : ℕ) → w x ≡ w' x) → u ≡ u' → reaches_within n w u t ≡ reaches_within n' w' u' t
reaches_same n n' w w' u u' t e same f = λ i. reaches_within (e i) (fun_ext same i) (f i) t

-- ONE HOP OF WAITING

-- an effective priority is the greatest of the base priority and of the effective priorities of those that wait for the
-- thread, if no number from n on waits
pub effective_step : (n : ℕ) (w b : ℕ → ℕ) → ((x : ℕ) → n ≤ x → w x ≡ 0) → (t : ℕ) → t < n → t ≢ 0
    → effective_among n w b t ≡ max (b t) (greatest_where (λ u. w u == t) (effective_among n w b) n)
effective_step n w b out t l some = omega (arith, less, effective_own n w b t l, waiting)
  where
    most : ℕ
    most = greatest_where (λ (x : ℕ). w x == t) (effective_among n w b) n

    inside : (x : ℕ) → Follows w x t → ((x < n) ⊎ (n ≤ x)) → x < n
    inside x a (inl xl) = xl
    inside x a (inr le) = absurd (a.1 (sym a.0 ∙ out x le))

    by_hop : (u : ℕ) → u < n → ((u ≡ t) ⊎ ((x : ℕ) × Reaches (Follows w) u x × Follows w x t)) → b u ≤ max (b t) most
    by_hop u ul (inl e) = let same : b u ≡ b t = ap b e in omega arith
    by_hop u ul (inr p) =
        let xl : p.0 < n = inside p.0 p.2 (cases_lt p.0 n) in
        let up : b u ≤ effective_among n w b p.0 = effective_above n w b p.0 u ul (found_below n w out u p.0 ul xl p.1) in
        let high : effective_among n w b p.0 ≤ most = greatest_where_above (λ (x : ℕ). w x == t) (effective_among n w b) n p.0 xl (eq-eqb (w p.0) t p.2.0) in
        omega arith

    less : effective_among n w b t ≤ max (b t) most
    less = effective_most n w b t _ (λ u ul e. by_hop u ul (last_hop (reaches-from_within n w u t e)))

    along : (u : ℕ) → (w u == t) ≡ true → effective_among n w b u ≤ effective_among n w b t
    along u e =
        effective_under n n w w b b u t
        (λ x xl r. inr (x, xl, found_below n w out x t xl l (Reaches-then (reaches-from_within n w x u r) (eqb-true (w u) t e, some)), omega arith))

    waiting : most ≤ effective_among n w b t
    waiting = greatest_where_most (λ (x : ℕ). w x == t) (effective_among n w b) n _ (λ u ul e. along u e)
