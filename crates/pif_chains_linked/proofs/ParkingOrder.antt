-- The list of those that wait, found by going through all threads: it has just those, in order of their tickets.
use Rattle.std.proofs.Common.{◌≡◌, ◌≢◌, ◌⊎◌, ℕ, zero, suc, ◌+◌, ◌<◌, ◌≤◌, ◌==◌, ◌||◌, nat_lt, Bool, true, false, if◌then◌else◌, List, [], ◌∷◌, refl, sym, ap, ◌∙◌, inl, inr, arith, ltb-true, ltb-false}
use Rattle.std.proofs.lemmas.Bool.{cases_eq, false≢true}
use Rattle.std.proofs.lemmas.Bool.Decides.{nat_tests}
use Rattle.pif_model_lemmas.proofs.Among.{is_among_here, is_among_there, is_among_cons}
use Rattle.pif_model_lemmas.proofs.Among.{is_among as is_waiter}
use Rattle.pif_model_lemmas.proofs.Waiting.{by_test}
use Rattle.pif_kernel_model.specs.Arrivals.{Rise}
use Rattle.pif_kernel_model.specs.Arrivals.{put_in, in_order}

-- ONE MORE, PUT WHERE IT BELONGS

-- the list then has that one and those that it had
among_put : (f : ℕ → ℕ) (w : ℕ × ℕ) (ws : List (ℕ × ℕ)) (u m : ℕ)
    → is_waiter (put_in f w ws) u m ≡ is_waiter (w ∷ ws) u m
among_put f w [] u m = refl
among_put f w (x ∷ xs) u m =
    by_test (λ b. is_waiter (if b then w ∷ x ∷ xs else x ∷ put_in f w xs) u m ≡ is_waiter (w ∷ x ∷ xs) u m)
    (nat_lt (f w.0) (f x.0)) (λ e. refl)
    (λ e. ap (λ (b : Bool). (if x.0 == u then x.1 == m else false) || b) (among_put f w xs u m)
    ∙ turned (if w.0 == u then w.1 == m else false) (if x.0 == u then x.1 == m else false) (is_waiter xs u m))
  where
    turned : (a b c : Bool) → (b || (a || c)) ≡ (a || (b || c))
    turned true true c = refl
    turned true false c = refl
    turned false b c = refl

-- and the tickets rise, if no other has that of the new one
rise_put : (f : ℕ → ℕ) (w : ℕ × ℕ) (ws : List (ℕ × ℕ)) (least next : ℕ) → Rise f least ws next → least ≤ f w.0
    → f w.0 < next → ((u m : ℕ) → is_waiter ws u m ≡ true → f u ≢ f w.0) → Rise f least (put_in f w ws) next
rise_put f w [] least next r low high apart = (low, omega arith)
rise_put f w (x ∷ xs) least next r low high apart =
    by_test (λ b. Rise f least (if b then w ∷ x ∷ xs else x ∷ put_in f w xs) next) (nat_lt (f w.0) (f x.0))
    (λ e. let l : f w.0 < f x.0 = ltb-true (f w.0) (f x.0) e in (low, (omega arith, r.1)))
    (λ e. let l : f x.0 ≤ f w.0 = ltb-false (f w.0) (f x.0) e in
    let other = apart x.0 x.1 (is_among_here x xs x.0 x.1 refl refl) in (
      r.0,
      rise_put f w xs (f x.0 + 1) next r.1 (omega arith) high
          (λ u m k. apart u m (is_among_there x xs u m k)),
    ))

-- it is put at the same place by other tickets, if it stands before the same ones by these
put_alike : (f g : ℕ → ℕ) (w : ℕ × ℕ) (ws : List (ℕ × ℕ))
    → ((u m : ℕ) → is_waiter ws u m ≡ true → nat_lt (f w.0) (f u) ≡ nat_lt (g w.0) (g u))
    → put_in f w ws ≡ put_in g w ws
put_alike f g w [] same = refl
put_alike f g w (x ∷ xs) same =
    (λ i. if same x.0 x.1 (is_among_here x xs x.0 x.1 refl refl) i then w ∷ x ∷ xs else
    x ∷ put_alike f g w xs (λ u m k. same u m (is_among_there x xs u m k)) i)

-- THE WHOLE LIST

module _ (f on : ℕ → ℕ) where
  -- who is in it waits, for that
  pub order_within : (n u m : ℕ) → is_waiter (in_order f on n) u m ≡ true → (u < n) × ((m ≢ 0) × (on u ≡ m))
  unfolding in_order
  order_within zero u m e = absurd (false≢true e)
  order_within (suc n) u m e =
      by_test (λ b. is_waiter (if b then in_order f on n else put_in f (n, on n) (in_order f on n)) u m ≡ true
      → (u < suc n) × ((m ≢ 0) × (on u ≡ m))) (on n == 0)
      (λ z k. let a = order_within n u m k in (omega (arith, a.0), a.1))
      (λ z k. by_head z (is_among_cons (n, on n) (in_order f on n) u m
      (sym (among_put f (n, on n) (in_order f on n) u m) ∙ k)) (order_within n u m)) e
    where
      by_head : (on n == 0) ≡ false → ((n ≡ u) × (on n ≡ m)) ⊎ (is_waiter (in_order f on n) u m ≡ true)
          → (is_waiter (in_order f on n) u m ≡ true → (u < n) × ((m ≢ 0) × (on u ≡ m)))
          → (u < suc n) × ((m ≢ 0) × (on u ≡ m))
      by_head z (inl a) ih =
          let some : m ≢ 0 = grind (arith, nat_tests, z, a.1) in
          (omega (arith, a.0), (some, ap on (sym a.0) ∙ a.1))
      by_head z (inr k) ih = let a = ih k in (omega (arith, a.0), a.1)

  -- who waits is in it
  pub order_all : (n u : ℕ) → u < n → on u ≢ 0 → is_waiter (in_order f on n) u (on u) ≡ true
  unfolding in_order
  order_all zero u l some = absurd (omega (arith, l))
  order_all (suc n) u l some =
      by_last (cases_eq u n) (λ k. order_all n u k some)
    where
      put : is_waiter ((n, on n) ∷ in_order f on n) u (on u) ≡ true → (on n == 0) ≡ false
          → is_waiter (if on n == 0 then in_order f on n else put_in f (n, on n) (in_order f on n)) u (on u) ≡ true
      put e z = rw z (among_put f (n, on n) (in_order f on n) u (on u) ∙ e)

      by_last : ((u ≡ n) ⊎ (u ≡ n → ⊥)) → (u < n → is_waiter (in_order f on n) u (on u) ≡ true)
          → is_waiter (if on n == 0 then in_order f on n else put_in f (n, on n) (in_order f on n)) u (on u) ≡ true
      by_last (inl e) ih =
          let z : (on n == 0) ≡ false = grind (arith, nat_tests, some, ap on e) in
          put (is_among_here (n, on n) (in_order f on n) u (on u) (sym e) (ap on (sym e))) z
      by_last (inr ne) ih =
          let k : is_waiter (in_order f on n) u (on u) ≡ true = ih (omega (arith, l)) in
          by_test (λ b. (on n == 0) ≡ b
          → is_waiter (if b then in_order f on n else put_in f (n, on n) (in_order f on n)) u (on u) ≡ true)
          (on n == 0) (λ z y. k)
          (λ z y. among_put f (n, on n) (in_order f on n) u (on u)
          ∙ is_among_there (n, on n) (in_order f on n) u (on u) k) refl

  -- the tickets rise, if no two have the same
  pub order_rises : (n least next : ℕ) → least ≤ next
      → ((u : ℕ) → u < n → on u ≢ 0 → (least ≤ f u) × (f u < next))
      → ((u v : ℕ) → u < n → v < n → on u ≢ 0 → on v ≢ 0 → f u ≡ f v → u ≡ v)
      → Rise f least (in_order f on n) next
  unfolding in_order
  order_rises zero least next le range once = le
  order_rises (suc n) least next le range once =
      by_last (order_rises n least next le (λ u l. range u (omega (arith, l)))
      (λ u v l k. once u v (omega (arith, l)) (omega (arith, k))))
    where
      by_last : Rise f least (in_order f on n) next
          → Rise f least (if on n == 0 then in_order f on n else put_in f (n, on n) (in_order f on n)) next
      by_last rest =
          by_test (λ b. (on n == 0) ≡ b
          → Rise f least (if b then in_order f on n else put_in f (n, on n) (in_order f on n)) next)
          (on n == 0) (λ z y. rest)
          (λ z y. let some : on n ≢ 0 = grind (arith, nat_tests, z) in let at = range n (omega arith) some in
          rise_put f (n, on n) (in_order f on n) least next rest at.0 at.1
          (λ u m e same. let a = order_within n u m e in
          absurd (omega (arith, a.0, once u n (omega (arith, a.0)) (omega arith) (λ x. a.1.0 (sym a.1.1 ∙ x)) some same))))
          refl

-- by other tickets of the same order it is the same list
pub order_alike : (f g on : ℕ → ℕ) (n : ℕ)
    → ((u v : ℕ) → u < n → v < n → on u ≢ 0 → on v ≢ 0 → nat_lt (f u) (f v) ≡ nat_lt (g u) (g v))
    → in_order f on n ≡ in_order g on n
unfolding in_order
order_alike f g on zero same = refl
order_alike f g on (suc n) same =
    by_last (order_alike f g on n (λ u v l k. same u v (omega (arith, l)) (omega (arith, k))))
  where
    by_last : in_order f on n ≡ in_order g on n
        → (if on n == 0 then in_order f on n else put_in f (n, on n) (in_order f on n))
        ≡ (if on n == 0 then in_order g on n else put_in g (n, on n) (in_order g on n))
    by_last rest =
        by_test (λ b. (on n == 0) ≡ b
        → (if b then in_order f on n else put_in f (n, on n) (in_order f on n))
        ≡ (if b then in_order g on n else put_in g (n, on n) (in_order g on n)))
        (on n == 0) (λ z y. rest)
        (λ z y. let some : on n ≢ 0 = grind (arith, nat_tests, z) in
        put_alike f g (n, on n) (in_order f on n)
        (λ u m e. let a = order_within f on n u m e in
        same n u (omega arith) (omega (arith, a.0)) some (λ x. a.1.0 (sym a.1.1 ∙ x)))
        ∙ ap (put_in g (n, on n)) rest) refl
