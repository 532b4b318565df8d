-- The list of a variable has the threads that are parked on it in the order in which they are taken.
use Rattle.std.proofs.Common.{◌≡◌, ◌≢◌, ◌⊎◌, ℕ, zero, suc, ◌==◌, ◌||◌, cond, Bool, true, false, List, [], ◌∷◌, ◌++◌, map, filter, refl, sym, ap, ◌∙◌, inl, inr, arith}
use Rattle.std.proofs.lemmas.Bool.{cases_eq, or_right, false≢true}
use Rattle.std.proofs.lemmas.Bool.Decides.{nat_tests}
use Rattle.pif_nodes_model.specs.declared.keys.Key.{Key}
use Rattle.pif_nodes_model.specs.Order.{comes_before}
use Rattle.pif_model.specs.Graph.{by_greatest, waiting_order, waiters_with, next_waiter, first_greatest}
use Rattle.pif_model.specs.PiKernel.{is_among}
use Rattle.pif_model_lemmas.proofs.Waiting.{by_test, names}
use Rattle.pif_kernel_model.proofs.WaiterRows.{InRow}

-- LISTS IN WHICH EACH STANDS BEFORE ALL THAT COME LATER

among_here : (x : ℕ) (xs : List ℕ) → is_among (x ∷ xs) x ≡ true
among_here x xs = let same : (x == x) ≡ true = grind (arith, nat_tests) in rw same refl

among_cases : (x y : ℕ) (xs : List ℕ) → is_among (x ∷ xs) y ≡ true → (x ≡ y) ⊎ (is_among xs y ≡ true)
among_cases x y xs e = by_place (cases_eq x y)
  where
    by_place : ((x ≡ y) ⊎ (x ≡ y → ⊥)) → (x ≡ y) ⊎ (is_among xs y ≡ true)
    by_place (inl same) = inl same
    by_place (inr ne) = let off : (x == y) ≡ false = grind (arith, nat_tests) in inr (rw off at e)

-- such a list is fixed by those that it has
module _ (b : ℕ → ℕ → Bool) (one_way : (x y : ℕ) → b x y ≡ true → b y x ≡ true → ⊥) where
  pub row_is : (xs ys : List ℕ) → InRow b xs → InRow b ys
      → ((u : ℕ) → is_among xs u ≡ true → is_among ys u ≡ true)
      → ((u : ℕ) → is_among ys u ≡ true → is_among xs u ≡ true) → xs ≡ ys
  row_is [] [] r s to from = refl
  row_is [] (y ∷ ys) r s to from = absurd (false≢true (from y (among_here y ys)))
  row_is (x ∷ xs) [] r s to from = absurd (false≢true (to x (among_here x xs)))
  row_is (x ∷ xs) (y ∷ ys) r s to from =
      by_head (among_cases y x ys (to x (among_here x xs))) (among_cases x y xs (from y (among_here y ys)))
      (λ t f. row_is xs ys r.1 s.1 t f)
    where
      both : x ≡ y → (((u : ℕ) → is_among xs u ≡ true → is_among ys u ≡ true)
          → ((u : ℕ) → is_among ys u ≡ true → is_among xs u ≡ true) → xs ≡ ys) → x ∷ xs ≡ y ∷ ys
      both e ih = λ i. e i ∷ ih there back i
        where
          there : (u : ℕ) → is_among xs u ≡ true → is_among ys u ≡ true
          there u k = by_place (among_cases y u ys (to u (or_right (x == u) (is_among xs u) k)))
            where
              by_place : (y ≡ u) ⊎ (is_among ys u ≡ true) → is_among ys u ≡ true
              by_place (inl same) =
                  let at : b x x ≡ true = ap (b x) (e ∙ same) ∙ r.0 u k in absurd (one_way x x at at)
              by_place (inr rest) = rest

          back : (u : ℕ) → is_among ys u ≡ true → is_among xs u ≡ true
          back u k = by_place (among_cases x u xs (from u (or_right (y == u) (is_among ys u) k)))
            where
              by_place : (x ≡ u) ⊎ (is_among xs u ≡ true) → is_among xs u ≡ true
              by_place (inl same) =
                  let at : b y y ≡ true = ap (b y) (sym e ∙ same) ∙ s.0 u k in absurd (one_way y y at at)
              by_place (inr rest) = rest

      by_head : (y ≡ x) ⊎ (is_among ys x ≡ true) → (x ≡ y) ⊎ (is_among xs y ≡ true)
          → (((u : ℕ) → is_among xs u ≡ true → is_among ys u ≡ true)
          → ((u : ℕ) → is_among ys u ≡ true → is_among xs u ≡ true) → xs ≡ ys) → x ∷ xs ≡ y ∷ ys
      by_head (inl e) f ih = both (sym e) ih
      by_head (inr k) (inl e) ih = both e ih
      by_head (inr k) (inr l) ih = absurd (one_way x y (r.0 y l) (s.0 x k))

-- THE ORDER OF KEYS

-- of two keys with different tickets one comes before the other
pub one_before : (a b : Key) → comes_before b a ≡ false → a.ticket ≢ b.ticket → comes_before a b ≡ true
one_before a b e ne = grind (arith, nat_tests)

pub never_both : (a b : Key) → comes_before a b ≡ true → comes_before b a ≡ true → ⊥
never_both a b e f = grind (arith, nat_tests)

-- PRIORITIES THAT AGREE

filter_alike : (f g : ℕ → ℕ) (p : ℕ) (us : List ℕ) → ((u : ℕ) → is_among us u ≡ true → f u ≡ g u)
    → filter (λ u. f u == p) us ≡ filter (λ u. g u == p) us
filter_alike f g p [] same = refl
filter_alike f g p (u ∷ us) same =
    let here = same u (among_here u us) in
    (λ i. cond (here i == p) (u ∷ filter_alike f g p us (λ v k. same v (or_right (u == v) (is_among us v) k)) i)
    (filter_alike f g p us (λ v k. same v (or_right (u == v) (is_among us v) k)) i))

greatest_alike : (f g : ℕ → ℕ) (p : ℕ) (us : List ℕ) → ((u : ℕ) → is_among us u ≡ true → f u ≡ g u)
    → by_greatest f p us ≡ by_greatest g p us
unfolding by_greatest
greatest_alike f g zero us same = refl
greatest_alike f g (suc p) us same = λ i. filter_alike f g p us same i ++ greatest_alike f g p us same i

-- who waits for c stands in the list
among_named : (ws : List (ℕ × ℕ)) (c u : ℕ)
    → is_among (map (λ (w : ℕ × ℕ). w.0) (filter (λ (w : ℕ × ℕ). w.1 == c) ws)) u ≡ true → names u ws ≡ true
among_named [] c u e = e
among_named (w ∷ ws) c u e =
    by_test (λ b. is_among (map (λ (x : ℕ × ℕ). x.0) (cond b (w ∷ filter (λ (x : ℕ × ℕ). x.1 == c) ws)
    (filter (λ (x : ℕ × ℕ). x.1 == c) ws))) u ≡ true → ((w.0 == u) || names u ws) ≡ true)
    (w.1 == c)
    (λ k y. by_test (λ b. (b || is_among (map (λ (x : ℕ × ℕ). x.0) (filter (λ (x : ℕ × ℕ). x.1 == c) ws)) u) ≡ true
    → (b || names u ws) ≡ true) (w.0 == u) (λ l z. refl) (λ l z. among_named ws c u z) y)
    (λ k y. or_right (w.0 == u) (names u ws) (among_named ws c u y)) e

-- the order in which threads are taken, by priorities that agree on them
pub order_agrees : (f g : ℕ → ℕ) (ws : List (ℕ × ℕ)) (c : ℕ) → ((u : ℕ) → names u ws ≡ true → f u ≡ g u)
    → waiting_order f ws c ≡ waiting_order g ws c
order_agrees f g ws c same =
    greatest_alike f g 100 (map (λ (w : ℕ × ℕ). w.0) (filter (λ (w : ℕ × ℕ). w.1 == c) ws))
    (λ u k. same u (among_named ws c u k))

-- and the one that is taken first
waiters_alike : (f g : ℕ → ℕ) (ws : List (ℕ × ℕ)) (c : ℕ) → ((u : ℕ) → names u ws ≡ true → f u ≡ g u)
    → waiters_with f ws c ≡ waiters_with g ws c
waiters_alike f g [] c same = refl
waiters_alike f g (w ∷ ws) c same =
    let here : names w.0 (w ∷ ws) ≡ true = grind (arith, nat_tests) in
    let rest : waiters_with f ws c ≡ waiters_with g ws c
    = waiters_alike f g ws c (λ u k. same u (or_right (w.0 == u) (names u ws) k)) in
    by_test (λ b. map {B = ℕ × ℕ} (λ (x : ℕ × ℕ). (x.0, f x.0)) (cond b (w ∷ filter (λ (x : ℕ × ℕ). x.1 == c) ws)
    (filter (λ (x : ℕ × ℕ). x.1 == c) ws))
    ≡ map {B = ℕ × ℕ} (λ (x : ℕ × ℕ). (x.0, g x.0)) (cond b (w ∷ filter (λ (x : ℕ × ℕ). x.1 == c) ws)
    (filter (λ (x : ℕ × ℕ). x.1 == c) ws)))
    (w.1 == c) (λ e. λ i. (w.0, same w.0 here i) ∷ rest i) (λ e. rest)

pub next_agrees : (f g : ℕ → ℕ) (ws : List (ℕ × ℕ)) (c : ℕ) → ((u : ℕ) → names u ws ≡ true → f u ≡ g u)
    → next_waiter f ws c ≡ next_waiter g ws c
unfolding next_waiter
next_agrees f g ws c same = ap (λ (l : List (ℕ × ℕ)). (first_greatest l).0) (waiters_alike f g ws c same)
