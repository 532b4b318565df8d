-- The waiters without one of them.
use Rattle.std.proofs.Common.{◌≡◌, ◌≢◌, ◌⊎◌, ℕ, ◌+◌, ◌≤◌, ◌==◌, Bool, true, false, if◌then◌else◌, List, [], ◌∷◌, refl, sym, ap, subst, ◌∙◌, inl, inr, arith}
use Rattle.std.proofs.lemmas.Bool.{cases_eq, true≢false, false≢true}
use Rattle.std.proofs.lemmas.Bool.Decides.{nat_tests}
use Rattle.pif_model.specs.Graph.{has_waiter, without}
use Rattle.pif_model_lemmas.proofs.Among.{is_among_here, is_among_there, is_among_cons}
use Rattle.pif_model_lemmas.proofs.Among.{is_among as is_waiter}
use Rattle.pif_model_lemmas.proofs.Waiting.{names, Once, once_head, once_tail, without-unnamed, named-from_pair, has_waiter-from_pair, has_waiter-without_other, waited-from_pair}
use Rattle.pif_kernel_model.specs.Arrivals.{Rise, mutexes_of}

rise_lower : (f : ℕ → ℕ) (a b : ℕ) (ws : List (ℕ × ℕ)) (next : ℕ) → b ≤ a → Rise f a ws next → Rise f b ws next
rise_lower f a b [] next le r = let up : a ≤ next = r in omega (arith, le, up)
rise_lower f a b (w ∷ ws) next le r = (omega (arith, le, r.0), r.1)

-- the tickets of the others rise
pub rise_without : (f g : ℕ → ℕ) (least : ℕ) (ws : List (ℕ × ℕ)) (u next : ℕ) → Rise f least ws next
    → ((x : ℕ) → x ≢ u → g x ≡ f x) → Rise g least (without ws u) next
rise_without f g least [] u next r same = r
rise_without f g least (w ∷ ws) u next r same =
    by_head (cases_eq w.0 u) (rise_without f g (f w.0 + 1) ws u next r.1 same)
  where
    by_head : ((w.0 ≡ u) ⊎ (w.0 ≡ u → ⊥)) → Rise g (f w.0 + 1) (without ws u) next
        → Rise g least (without (w ∷ ws) u) next
    by_head (inl e) ih =
        let here : (w.0 == u) ≡ true = grind (arith, nat_tests) in
        rw here (rise_lower g (f w.0 + 1) least (without ws u) next (omega (arith, r.0)) ih)
    by_head (inr ne) ih =
        let there : (w.0 == u) ≡ false = grind (arith, nat_tests) in
        rw there (
          omega (arith, r.0, same w.0 ne),
          subst (λ (n : ℕ). Rise g (n + 1) (without ws u) next)
              (sym (same w.0 ne)) ih,
        )

-- the others stay among them
pub waiter_kept : (ws : List (ℕ × ℕ)) (u x m : ℕ) → x ≢ u → is_waiter ws x m ≡ true
    → is_waiter (without ws u) x m ≡ true
waiter_kept [] u x m ne e = absurd (false≢true e)
waiter_kept (w ∷ ws) u x m ne e = by_head (cases_eq w.0 u) (is_among_cons w ws x m e) (waiter_kept ws u x m ne)
  where
    by_head : ((w.0 ≡ u) ⊎ (w.0 ≡ u → ⊥)) → ((w.0 ≡ x) × (w.1 ≡ m)) ⊎ (is_waiter ws x m ≡ true)
        → (is_waiter ws x m ≡ true → is_waiter (without ws u) x m ≡ true)
        → is_waiter (without (w ∷ ws) u) x m ≡ true
    by_head (inl same) (inl a) ih = absurd (ne (sym a.0 ∙ same))
    by_head (inl same) (inr r) ih = let here : (w.0 == u) ≡ true = grind (arith, nat_tests) in rw here (ih r)
    by_head (inr other) (inl a) ih =
        let there : (w.0 == u) ≡ false = grind (arith, nat_tests) in
        rw there (is_among_here w (without ws u) x m a.0 a.1)
    by_head (inr other) (inr r) ih =
        let there : (w.0 == u) ≡ false = grind (arith, nat_tests) in
        rw there (is_among_there w (without ws u) x m (ih r))

-- a mutex fewer has a waiter, if no other waits for that of the one
pub mutexes_without : (ws : List (ℕ × ℕ)) (u m : ℕ) → Once ws → is_waiter ws u m ≡ true
    → mutexes_of (without ws u) + (if has_waiter (without ws u) m then 0 else 1) ≡ mutexes_of ws
mutexes_without [] u m once e = absurd (false≢true e)
mutexes_without (w ∷ ws) u m once e =
    by_head (cases_eq w.0 u) (is_among_cons w ws u m e) (mutexes_without ws u m (once_tail w ws once))
  where
    one : (b : Bool) (n : ℕ) → n + (if b then 0 else 1) ≡ (if b then n else n + 1)
    one true n = omega arith
    one false n = refl

    two : (b : Bool) (n : ℕ) → (if b then n else n + 1) + 0 ≡ n + (if b then 0 else 1)
    two true n = refl
    two false n = omega arith

    three : (b c : Bool) (n k : ℕ) → n + (if c then 0 else 1) ≡ k
        → (if b then n else n + 1) + (if c then 0 else 1) ≡ (if b then k else k + 1)
    three true c n k x = x
    three false true n k x = let y : n + 0 ≡ k = x in omega (arith, y)
    three false false n k x = let y : n + 1 ≡ k = x in omega (arith, y)

    by_head : ((w.0 ≡ u) ⊎ (w.0 ≡ u → ⊥)) → ((w.0 ≡ u) × (w.1 ≡ m)) ⊎ (is_waiter ws u m ≡ true)
        → (is_waiter ws u m ≡ true
        → mutexes_of (without ws u) + (if has_waiter (without ws u) m then 0 else 1) ≡ mutexes_of ws)
        → mutexes_of (without (w ∷ ws) u) + (if has_waiter (without (w ∷ ws) u) m then 0 else 1) ≡ mutexes_of (w ∷ ws)
    by_head (inl same) (inl a) ih =
        let unnamed : names u ws ≡ false = subst (λ (x : ℕ). names x ws ≡ false) same (once_head w ws once) in
        let here : (w.0 == u) ≡ true = grind (arith, nat_tests) in
        let rest : without ws u ≡ ws = without-unnamed ws u unnamed in
        rw here (ap (λ (l : List (ℕ × ℕ)). mutexes_of l + (if has_waiter l m then 0 else 1)) rest
        ∙ one (has_waiter ws m) (mutexes_of ws)
        ∙ ap (λ (x : ℕ). if has_waiter ws x then mutexes_of ws else mutexes_of ws + 1) (sym a.1))
    by_head (inl same) (inr r) ih =
        let unnamed : names u ws ≡ false = subst (λ (x : ℕ). names x ws ≡ false) same (once_head w ws once) in
        absurd (true≢false (sym (named-from_pair ws u m r) ∙ unnamed))
    by_head (inr other) (inl a) ih = absurd (other a.0)
    by_head (inr other) (inr r) ih =
        let there : (w.0 == u) ≡ false = grind (arith, nat_tests) in rw there (by_mutex (cases_eq w.1 m) (ih r))
      where
        by_mutex : ((w.1 ≡ m) ⊎ (w.1 ≡ m → ⊥))
            → mutexes_of (without ws u) + (if has_waiter (without ws u) m then 0 else 1) ≡ mutexes_of ws
            → mutexes_of (w ∷ without ws u) + (if has_waiter (w ∷ without ws u) m then 0 else 1) ≡ mutexes_of (w ∷ ws)
        by_mutex (inl at) ih =
            let here : (w.1 == m) ≡ true = grind (arith, nat_tests) in
            let some : has_waiter ws w.1 ≡ true = ap (has_waiter ws) at ∙ has_waiter-from_pair ws u m r in
            rw (here, some)
            (ap (λ (x : ℕ). (if has_waiter (without ws u) x then mutexes_of (without ws u) else mutexes_of
            (without ws u) + 1) + 0) at ∙ two (has_waiter (without ws u) m) (mutexes_of (without ws u)) ∙ ih)
        by_mutex (inr ne) ih =
            let no : (w.1 == m) ≡ false = grind (arith, nat_tests) in
            let same : has_waiter (without ws u) w.1 ≡ has_waiter ws w.1
            = has_waiter-without_other ws u m w.1 (once_tail w ws once)
            (waited-from_pair ws u m (once_tail w ws once) r) ne in
            rw (no, same) (three (has_waiter ws w.1) (has_waiter (without ws u) m) (mutexes_of (without ws u))
            (mutexes_of ws) ih)
