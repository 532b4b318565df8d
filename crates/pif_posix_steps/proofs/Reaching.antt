-- What the pairs of waiters and their mutexes, chains of waiting and the next waiter keep. A waiter leaves, or chains
-- change that don't lead to a thread.
use Rattle.std.proofs.Common.{ℕ, zero, suc, ◌≡◌, ◌≢◌, ◌⊎◌, ◌∙◌, ◌==◌, true, false, List, [], ◌∷◌, refl, sym, ap, inl, inr, if◌then◌else◌}
use Rattle.std.proofs.lemmas.Bool.{true≢false, cases_eq, eq-eqb, ne_eqb, or_parts}
use Rattle.pif_model.specs.Graph.{reaches_within, effective_among, waited_by, without, first_greatest, waiters_with, next_waiter}
use Rattle.pif_model_lemmas.proofs.Among.{is_among, is_among_here, is_among_there}
use Rattle.pif_model_lemmas.proofs.Greatest.{greatest_where_same}
use Rattle.pif_model_lemmas.proofs.Waiting.{by_test, names, without-first}

-- WAITERS

-- who doesn't wait waits for 0
pub unnamed_waits : (ws : List (ℕ × ℕ)) (u : ℕ) → names u ws ≡ false → waited_by ws u ≡ 0
unfolding waited_by
unnamed_waits [] u h = refl
unnamed_waits (w ∷ ws) u h = let p = or_parts (w.0 == u) (names u ws) h in rw p.0 (unnamed_waits ws u p.1)

-- when u leaves, each other waits for what it waited for
pub waited-without_other : (ws : List (ℕ × ℕ)) (u v : ℕ) → v ≢ u → waited_by (without ws u) v ≡ waited_by ws v
unfolding waited_by
waited-without_other [] u v n = refl
waited-without_other (w ∷ ws) u v n =
    without-first (λ x. waited_by x v ≡ (if w.0 == v then w.1 else waited_by ws v)) w ws u
    (λ e. rw (ne_eqb w.0 v (λ h. n (sym h ∙ e))) (waited-without_other ws u v n))
    (λ e. ap (λ k. if w.0 == v then w.1 else k) (waited-without_other ws u v n))

-- who is among the waiters of m alone waits for m
pub waited-from_single : (ws : List (ℕ × ℕ)) (u m : ℕ) → is_among ws u m ≡ true
    → ((k : ℕ) → is_among ws u k ≡ true → k ≡ m) → waited_by ws u ≡ m
unfolding waited_by
waited-from_single [] u m h one = absurd (true≢false (sym h))
waited-from_single (w ∷ ws) u m h one = by_head (waited-from_single ws u m) (cases_eq w.0 u)
  where
    by_head : (is_among ws u m ≡ true → ((k : ℕ) → is_among ws u k ≡ true → k ≡ m) → waited_by ws u ≡ m)
        → (w.0 ≡ u) ⊎ (w.0 ≢ u) → (if w.0 == u then w.1 else waited_by ws u) ≡ m
    by_head ih (inl e) = rw (eq-eqb w.0 u e) (one w.1 (is_among_here w ws u w.1 e refl))
    by_head ih (inr d) =
        rw (ne_eqb w.0 u d) (ih (rw (ne_eqb w.0 u d) at h) (λ k y. one k (is_among_there w ws u k y)))

-- it is all the same which of two leaves first
pub without_comm : (ws : List (ℕ × ℕ)) (u x : ℕ) → without (without ws u) x ≡ without (without ws x) u
without_comm [] u x = refl
without_comm (w ∷ ws) u x = go (without_comm ws u x)
  where
    go : without (without ws u) x ≡ without (without ws x) u
        → without (without (w ∷ ws) u) x ≡ without (without (w ∷ ws) x) u
    go ih = without-first (λ a. without a x ≡ without (without (w ∷ ws) x) u) w ws u
        (λ e. without-first (λ b. without (without ws u) x ≡ without b u) w ws x
        (λ f. ih)
        (λ f. without-first (λ c. without (without ws u) x ≡ c) w (without ws x) u (λ _. ih) (λ k. absurd (k e))))
        (λ d. without-first (λ b. without (w ∷ without ws u) x ≡ without b u) w ws x
        (λ f. without-first (λ c. c ≡ without (without ws x) u) w (without ws u) x (λ _. ih) (λ k. absurd (k f)))
        (λ k. without-first (λ a. a ≡ without (w ∷ without ws x) u) w (without ws u) x (λ f. absurd (k f))
        (λ _. without-first (λ c. w ∷ without (without ws u) x ≡ c) w (without ws x) u (λ e. absurd (d e))
        (λ _. ap (λ l. w ∷ l) ih))))

-- THE NEXT WAITER

-- the waiters of m with priorities that are the same for them
waiters_same : (f g : ℕ → ℕ) (ws : List (ℕ × ℕ)) (m : ℕ) → ((u : ℕ) → is_among ws u m ≡ true → f u ≡ g u)
    → waiters_with f ws m ≡ waiters_with g ws m
waiters_same f g [] m h = refl
waiters_same f g (w ∷ ws) m h =
    by_head (waiters_same f g ws m (λ u y. h u (is_among_there w ws u m y))) (cases_eq w.1 m)
  where
    by_head : waiters_with f ws m ≡ waiters_with g ws m → (w.1 ≡ m) ⊎ (w.1 ≢ m)
        → waiters_with f (w ∷ ws) m ≡ waiters_with g (w ∷ ws) m
    by_head ih (inl e) =
        rw (eq-eqb w.1 m e) (λ i. (w.0, h w.0 (is_among_here w ws w.0 m refl e) i) ∷ ih i)
    by_head ih (inr d) = rw (ne_eqb w.1 m d) ih

-- the waiters of m when another has left
waiters_left : (f : ℕ → ℕ) (ws : List (ℕ × ℕ)) (u m : ℕ) → (is_among ws u m ≡ true → ⊥)
    → waiters_with f (without ws u) m ≡ waiters_with f ws m
waiters_left f [] u m none = refl
waiters_left f (w ∷ ws) u m none =
    go (waiters_left f ws u m (λ y. none (is_among_there w ws u m y))) (cases_eq w.1 m)
  where
    go : waiters_with f (without ws u) m ≡ waiters_with f ws m → (w.1 ≡ m) ⊎ (w.1 ≢ m)
        → waiters_with f (without (w ∷ ws) u) m ≡ waiters_with f (w ∷ ws) m
    go ih (inl e) = without-first (λ x. waiters_with f x m ≡ waiters_with f (w ∷ ws) m) w ws u
        (λ y. absurd (none (is_among_here w ws u m y e)))
        (λ y. rw (eq-eqb w.1 m e) (ap (λ (l : List (ℕ × ℕ)). (w.0, f w.0) ∷ l) ih))
    go ih (inr d) = without-first (λ x. waiters_with f x m ≡ waiters_with f (w ∷ ws) m) w ws u
        (λ y. rw (ne_eqb w.1 m d) ih) (λ y. rw (ne_eqb w.1 m d) ih)

-- the next waiter of m is the same with priorities that are the same for its waiters
pub next_same : (f g : ℕ → ℕ) (ws : List (ℕ × ℕ)) (m : ℕ) → ((u : ℕ) → is_among ws u m ≡ true → f u ≡ g u)
    → next_waiter f ws m ≡ next_waiter g ws m
unfolding next_waiter
next_same f g ws m h = ap (λ l. (first_greatest l).0) (waiters_same f g ws m h)

-- and when another has left
pub next_left : (f : ℕ → ℕ) (ws : List (ℕ × ℕ)) (u m : ℕ) → (is_among ws u m ≡ true → ⊥)
    → next_waiter f (without ws u) m ≡ next_waiter f ws m
unfolding next_waiter
next_left f ws u m none = ap (λ l. (first_greatest l).0) (waiters_left f ws u m none)

-- CHAINS

-- from z on a chain ends before it comes to y: at z, or at the thread for which z waits
abbrev pub EndsBefore : (ℕ → ℕ) → ℕ → ℕ → Type 0
EndsBefore f y z = (z ≢ y) × ((f z ≡ 0) ⊎ ((f z ≢ y) × (f (f z) ≡ 0)))

-- who waits for nobody reaches nobody else
stops : (hops : ℕ) (f : ℕ → ℕ) (z y : ℕ) → z ≢ y → f z ≡ 0 → reaches_within hops f z y ≡ false
unfolding reaches_within
stops zero f z y n e = ne_eqb z y n
stops (suc h) f z y n e = rw (ne_eqb z y n, e) refl

-- no chain that ends before y reaches it
ends_before : (hops : ℕ) (f : ℕ → ℕ) (z y : ℕ) → EndsBefore f y z → reaches_within hops f z y ≡ false
unfolding reaches_within
ends_before zero f z y d = ne_eqb z y d.0
ends_before (suc h) f z y d = rw (ne_eqb z y d.0) (go d.1)
  where
    go : (f z ≡ 0) ⊎ ((f z ≢ y) × (f (f z) ≡ 0)) → (if f z == 0 then false else reaches_within h f (f z) y) ≡ false
    go (inl e) = rw e refl
    go (inr p) = by_test (λ b. (if b then false else reaches_within h f (f z) y) ≡ false) (f z == 0)
        (λ _. refl) (λ _. stops h f (f z) y p.0 p.1)

-- who reaches y reaches it still, if only chains change that end before y
reaches_same : (hops : ℕ) (f g : ℕ → ℕ) (y : ℕ)
    → ((z : ℕ) → (f z ≡ g z) ⊎ (EndsBefore f y z × EndsBefore g y z)) → (z : ℕ)
    → reaches_within hops f z y ≡ reaches_within hops g z y
unfolding reaches_within
reaches_same zero f g y h z = refl
reaches_same (suc n) f g y h z = go (h z) (reaches_same n f g y h (g z))
  where
    go : (f z ≡ g z) ⊎ (EndsBefore f y z × EndsBefore g y z)
        → reaches_within n f (g z) y ≡ reaches_within n g (g z) y
        → reaches_within (suc n) f z y ≡ reaches_within (suc n) g z y
    go (inl e) ih =
        ap (λ k. if z == y then true else (if k == 0 then false else reaches_within n f k y)) e
        ∙ ap (λ b. if z == y then true else (if g z == 0 then false else b)) ih
    go (inr d) ih = ends_before (suc n) f z y d.0 ∙ sym (ends_before (suc n) g z y d.1)

-- and y has the effective priority that it had
pub effective_kept : (n k : ℕ) (f g b c : ℕ → ℕ) (y : ℕ) → n ≡ k
    → ((z : ℕ) → (f z ≡ g z) ⊎ (EndsBefore f y z × EndsBefore g y z)) → ((z : ℕ) → b z ≡ c z)
    → effective_among n f b y ≡ effective_among k g c y
unfolding effective_among
effective_kept n k f g b c y e h base =
    ap (λ (i : ℕ). effective_among i f b y) e
    ∙ greatest_where_same (λ z. reaches_within k f z y) (λ z. reaches_within k g z y) b c k
    (λ z l. reaches_same k f g y h z) (λ z l. base z)
