-- What a renaming does to tests of names, to lists of waiters, and to what is reached by waiting.
use Rattle.std.proofs.Common.{ℕ, zero, suc, ◌≡◌, ◌≢◌, ◌≤◌, ◌∙◌, ◌==◌, ◌||◌, true, false, List, [], ◌∷◌, map, nat_lt, refl, sym, ap, subst, eq-eqb, eqb-true, ne_eqb, arith, if◌then◌else◌, filter}
use Rattle.std.specs.List.{list_any}
use Rattle.std.proofs.lemmas.Bool.{eqb-false}
use Rattle.pif_model.specs.Graph.{reaches_within, effective_among, first_greatest, waited_by, waiters_with, next_waiter, without}
use Rattle.pif_model_lemmas.proofs.Waiting.{by_test}
use Rattle.pif_model_lemmas.proofs.Greatest.{effective_most, effective_above}
use Rattle.pif_symmetry_model.specs.Renaming.{IsRenaming, renamed_waiter}

module _ (f : ℕ → ℕ) (n : ℕ) (r : IsRenaming f n) where
  -- no two have the same new name
  pub one_name : (a b : ℕ) → f a ≡ f b → a ≡ b
  one_name a b e = sym (r.there a) ∙ ap r.back e ∙ r.there b

  pub same_test : (a b : ℕ) → (f a == f b) ≡ (a == b)
  same_test a b =
      by_test (λ x. (f a == f b) ≡ x) (a == b) (λ e. eq-eqb (f a) (f b) (ap f (eqb-true a b e)))
      (λ e. ne_eqb (f a) (f b) (λ h. eqb-false a b e (one_name a b h)))

  pub same_zero : (a : ℕ) → (f a == 0) ≡ (a == 0)
  same_zero a = ap (λ z. f a == z) (sym r.nobody) ∙ same_test a 0

  pub none_to_none : (a : ℕ) → a ≡ 0 → f a ≡ 0
  none_to_none a e = ap f e ∙ r.nobody

  pub some_to_some : (a : ℕ) → a ≢ 0 → f a ≢ 0
  some_to_some a h e = h (one_name a 0 (e ∙ sym r.nobody))

  -- the mutex for which somebody waits
  pub same_waited : (ws : List (ℕ × ℕ)) (u : ℕ) → waited_by (map (renamed_waiter f) ws) (f u) ≡ waited_by ws u
  unfolding waited_by
  same_waited [] u = refl
  same_waited (w ∷ ws) u = λ i. if same_test w.0 u i then w.1 else same_waited ws u i

  -- whether somebody is among the waiters
  pub same_among : (ws : List (ℕ × ℕ)) (u : ℕ)
      → list_any (λ p. p.0 == f u) (map (renamed_waiter f) ws) ≡ list_any (λ (p : ℕ × ℕ). p.0 == u) ws
  same_among [] u = refl
  same_among (w ∷ ws) u = λ i. same_test w.0 u i || same_among ws u i

  -- whether somebody is among some threads
  pub among_names : (us : List ℕ) (u : ℕ) → list_any (λ x. x == f u) (map f us) ≡ list_any (λ x. x == u) us
  among_names [] u = refl
  among_names (x ∷ xs) u = λ i. same_test x u i || among_names xs u i

  -- the others of the waiters
  pub same_without : (ws : List (ℕ × ℕ)) (u : ℕ)
      → without (map (renamed_waiter f) ws) (f u) ≡ map (renamed_waiter f) (without ws u)
  same_without [] u = refl
  same_without (w ∷ ws) u =
      (λ i. if (if same_test w.0 u i then false else true) then renamed_waiter f w ∷ same_without ws u i else same_without ws u i)
      ∙ by_test (λ b. (if (if b then false else true) then renamed_waiter f w ∷ map (renamed_waiter f) (without ws u) else map (renamed_waiter f) (without ws u))
      ≡ map (renamed_waiter f) (if (if b then false else true) then w ∷ without ws u else without ws u)) (w.0 == u) (λ _. refl) (λ _. refl)

  -- WHO REACHES WHOM

  module _ (p q : ℕ → ℕ) (h : (u : ℕ) → q (f u) ≡ f (p u)) where
    pub same_reaches : (k u t : ℕ) → reaches_within k q (f u) (f t) ≡ reaches_within k p u t
    unfolding reaches_within
    same_reaches zero u t = same_test u t
    same_reaches (suc k) u t =
        let none : (q (f u) == 0) ≡ (p u == 0) = ap (λ z. z == 0) (h u) ∙ same_zero (p u) in
        let on : reaches_within k q (q (f u)) (f t) ≡ reaches_within k p (p u) t =
        ap (λ z. reaches_within k q z (f t)) (h u) ∙ same_reaches k (p u) t in
        λ i. if same_test u t i then true else (if none i then false else on i)

    -- the greatest priority of those who reach somebody
    pub same_effective : (b c : ℕ → ℕ) → ((u : ℕ) → c (f u) ≡ b u) → (t : ℕ) → effective_among n q c (f t) ≡ effective_among n p b t
    same_effective b c same t = omega (arith, most, least)
      where
        most : effective_among n q c (f t) ≤ effective_among n p b t
        most =
            effective_most n q c (f t) (effective_among n p b t)
            (λ u l g. subst (λ z. c z ≤ effective_among n p b t) (r.again u)
            (subst (λ z. z ≤ effective_among n p b t) (sym (same (r.back u)))
            (effective_above n p b t (r.back u) (r.back_below u l)
            (sym (same_reaches n (r.back u) t) ∙ ap (λ z. reaches_within n q z (f t)) (r.again u) ∙ g))))

        least : effective_among n p b t ≤ effective_among n q c (f t)
        least =
            effective_most n p b t (effective_among n q c (f t))
            (λ u l g. subst (λ z. z ≤ effective_among n q c (f t)) (same u)
            (effective_above n q c (f t) (f u) (r.below u l) (same_reaches n u t ∙ g)))

  -- WHO COMES NEXT

  -- pairs of a thread and a priority
  first_same : (ps : List (ℕ × ℕ)) → first_greatest (map (renamed_waiter f) ps) ≡ renamed_waiter f (first_greatest ps)
  unfolding first_greatest
  first_same [] = λ i. (sym r.nobody i, 0)
  first_same (p ∷ ps) =
      ap (λ (z : ℕ × ℕ). if nat_lt p.1 z.1 then z else renamed_waiter f p) (first_same ps)
      ∙ by_test (λ b. (if b then renamed_waiter f (first_greatest ps) else renamed_waiter f p) ≡ renamed_waiter f (if b then first_greatest ps else p))
      (nat_lt p.1 (first_greatest ps).1) (λ _. refl) (λ _. refl)

  module _ (e d : ℕ → ℕ) (same : (u : ℕ) → d (f u) ≡ e u) where
    with_same : (ws : List (ℕ × ℕ)) (m : ℕ) → waiters_with d (map (renamed_waiter f) ws) m ≡ map (renamed_waiter f) (waiters_with e ws m)
    with_same [] m = refl
    with_same (w ∷ ws) m =
        by_test (λ b. map (λ (z : ℕ × ℕ). (z.0, d z.0)) (if b then renamed_waiter f w ∷ filter (λ z. z.1 == m) (map (renamed_waiter f) ws) else filter (λ z. z.1 == m) (map (renamed_waiter f) ws))
        ≡ map (renamed_waiter f) (map (λ (z : ℕ × ℕ). (z.0, e z.0)) (if b then w ∷ filter (λ z. z.1 == m) ws else filter (λ z. z.1 == m) ws)))
        (w.1 == m) (λ _ i. (f w.0, same w.0 i) ∷ with_same ws m i) (λ _. with_same ws m)

    pub same_next : (ws : List (ℕ × ℕ)) (m : ℕ) → next_waiter d (map (renamed_waiter f) ws) m ≡ f (next_waiter e ws m)
    unfolding next_waiter
    same_next ws m =
        ap (λ (z : List (ℕ × ℕ)). (first_greatest z).0) (with_same ws m) ∙ ap (λ (z : ℕ × ℕ). z.0) (first_same (waiters_with e ws m))
