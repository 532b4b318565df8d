-- Threads in order of tickets are those that are found by going through all threads.
use Rattle.std.proofs.Common.{◌≡◌, ◌≢◌, ◌⊎◌, ℕ, zero, suc, ◌+◌, ◌<◌, ◌≤◌, ◌==◌, nat_lt, Bool, true, false, List, [], ◌∷◌, refl, sym, ap, subst, ◌∙◌, inl, inr, arith}
use Rattle.std.proofs.lemmas.Bool.{cases_eq, true≢false, false≢true}
use Rattle.std.proofs.lemmas.Bool.Decides.{nat_tests}
use Rattle.pif_model.specs.Graph.{without}
use Rattle.pif_model_lemmas.proofs.Among.{is_among_here, is_among_cons, is_among-without}
use Rattle.pif_model_lemmas.proofs.Among.{is_among as is_waiter}
use Rattle.pif_model_lemmas.proofs.Waiting.{names, without-unnamed, named-from_pair}
use Rattle.pif_kernel_model.specs.Arrivals.{put_in, in_order, Rise}
use Rattle.pif_kernel_model.proofs.ArrivalLaws.{rise_above}
use Rattle.pif_kernel_model.proofs.WaitersWithout.{rise_without, waiter_kept}

-- one who stands at the head before tickets that rise stays there
put_first : (f : ℕ → ℕ) (w : ℕ × ℕ) (ws : List (ℕ × ℕ)) (next : ℕ) → Rise f (f w.0 + 1) ws next
    → put_in f w ws ≡ w ∷ ws
put_first f w [] next r = refl
put_first f w (x ∷ xs) next r = let low : nat_lt (f w.0) (f x.0) ≡ true = grind (arith, nat_tests, r.0) in rw low refl

-- a waiter who is taken out and put in again stands where it stood
put_back : (f : ℕ → ℕ) (least : ℕ) (ws : List (ℕ × ℕ)) (next t m : ℕ) → Rise f least ws next
    → is_waiter ws t m ≡ true → put_in f (t, m) (without ws t) ≡ ws
put_back f least [] next t m r e = absurd (false≢true e)
put_back f least (w ∷ ws) next t m r e =
    by_head (cases_eq w.0 t) (is_among_cons w ws t m e) (put_back f (f w.0 + 1) ws next t m r.1)
  where
    unnamed : (b : Bool) → names w.0 ws ≡ b → names w.0 ws ≡ false
    unnamed false e = e
    unnamed true e = absurd (omega (arith, rise_above f (f w.0 + 1) ws next w.0 r.1 e))

    by_head : ((w.0 ≡ t) ⊎ (w.0 ≡ t → ⊥)) → ((w.0 ≡ t) × (w.1 ≡ m)) ⊎ (is_waiter ws t m ≡ true)
        → (is_waiter ws t m ≡ true → put_in f (t, m) (without ws t) ≡ ws)
        → put_in f (t, m) (without (w ∷ ws) t) ≡ w ∷ ws
    by_head (inl same) (inl a) ih =
        let here : (w.0 == t) ≡ true = grind (arith, nat_tests) in
        let off : names t ws ≡ false
        = subst (λ (x : ℕ). names x ws ≡ false) same (unnamed (names w.0 ws) refl) in
        let pair : (t, m) ≡ w = λ i. (sym a.0 i, sym a.1 i) in
        rw here (ap (put_in f (t, m)) (without-unnamed ws t off)
        ∙ ap (λ (x : ℕ × ℕ). put_in f x ws) pair ∙ put_first f w ws next r.1)
    by_head (inl same) (inr rest) ih =
        absurd (true≢false (sym (named-from_pair ws t m rest)
        ∙ subst (λ (x : ℕ). names x ws ≡ false) same (unnamed (names w.0 ws) refl)))
    by_head (inr other) (inl a) ih = absurd (other a.0)
    by_head (inr other) (inr rest) ih =
        let there : (w.0 == t) ≡ false = grind (arith, nat_tests) in
        let up : f w.0 + 1 ≤ f t = rise_above f (f w.0 + 1) ws next t r.1 (named-from_pair ws t m rest) in
        let high : nat_lt (f t) (f w.0) ≡ false = grind (arith, nat_tests) in
        rw (there, high) (ap (λ (l : List (ℕ × ℕ)). w ∷ l) (ih rest))

module _ (f on : ℕ → ℕ) where
  -- a list in order of tickets that has just those that wait is the one that is found
  pub in_order-is : (n least : ℕ) (ws : List (ℕ × ℕ)) (next : ℕ) → Rise f least ws next
      → ((u m : ℕ) → is_waiter ws u m ≡ true → (u < n) × ((m ≢ 0) × (on u ≡ m)))
      → ((u : ℕ) → u < n → on u ≢ 0 → is_waiter ws u (on u) ≡ true) → in_order f on n ≡ ws
  unfolding in_order
  in_order-is zero least [] next r within all = refl
  in_order-is zero least (w ∷ ws) next r within all =
      absurd (omega (arith, (within w.0 w.1 (is_among_here w ws w.0 w.1 refl refl)).0))
  in_order-is (suc n) least ws next r within all =
      by_last (cases_eq (on n) 0) (λ vs s w a. in_order-is n least vs next s w a)
    where
      below : (u : ℕ) → u < suc n → u ≢ n → u < n
      below u l ne = omega (arith, l, ne)

      apart : (u : ℕ) → u < n → u ≢ n
      apart u l z = absurd (omega (arith, l, z))

      by_last : ((on n ≡ 0) ⊎ (on n ≡ 0 → ⊥))
          → ((vs : List (ℕ × ℕ)) → Rise f least vs next
          → ((u m : ℕ) → is_waiter vs u m ≡ true → (u < n) × ((m ≢ 0) × (on u ≡ m)))
          → ((u : ℕ) → u < n → on u ≢ 0 → is_waiter vs u (on u) ≡ true) → in_order f on n ≡ vs)
          → in_order f on (suc n) ≡ ws
      by_last (inl z) ih =
          let none : (on n == 0) ≡ true = grind (arith, nat_tests) in
          rw none (ih ws r
          (λ u m e. let a = within u m e in
          (below u a.0 (λ same. a.1.0 (sym a.1.1 ∙ ap on same ∙ z)), a.1))
          (λ u l some. all u (omega (arith, l)) some))
      by_last (inr some) ih =
          let one : (on n == 0) ≡ false = grind (arith, nat_tests) in
          let there : is_waiter ws n (on n) ≡ true = all n (omega arith) some in
          rw one (ap (put_in f (n, on n)) (ih (without ws n)
          (rise_without f f least ws n next r (λ x ne. refl))
          (λ u m e. let b = is_among-without ws n u m e in let a = within u m b.0 in (below u a.0 b.1, a.1))
          (λ u l s. waiter_kept ws n u (on u) (apart u l) (all u (omega (arith, l)) s)))
          ∙ put_back f least ws next n (on n) r there)
