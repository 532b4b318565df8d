-- A list of waiters in order of their tickets, and one waiter more.
use Rattle.std.proofs.Common.{◌≡◌, ◌≢◌, ◌⊎◌, ℕ, ◌+◌, ◌<◌, ◌≤◌, ◌==◌, ◌||◌, eqb, Bool, true, false, if◌then◌else◌, List, [], ◌∷◌, ◌++◌, length, map, refl, sym, ap, ap₂, subst, ◌∙◌, inl, inr, arith}
use Rattle.std.specs.List.{list_any, IsDistinct}
use Rattle.std.proofs.lemmas.Bool.{cases_eq, false≢true, true≢false}
use Rattle.std.proofs.lemmas.Bool.Decides.{nat_tests}
use Rattle.std.proofs.lemmas.List.{length-map}
use Rattle.std.proofs.lemmas.Map.Steps.{length-le_from_distinct_below}
use Rattle.pif_model.specs.Graph.{has_waiter}
use Rattle.pif_model_lemmas.proofs.Waiting.{names, Once, once_cons, has_waiter-push}
use Rattle.pif_model_lemmas.proofs.Among.{is_among_cons, is_among_here, is_among_there}
use Rattle.pif_model_lemmas.proofs.Among.{is_among as is_waiter}
use Rattle.pif_kernel_model.specs.Arrivals.{Rise, mutexes_of}

-- who is named has a ticket from `least` on, and below `next`
pub rise_above : (f : ℕ → ℕ) (least : ℕ) (ws : List (ℕ × ℕ)) (next u : ℕ) → Rise f least ws next → names u ws ≡ true
    → least ≤ f u
rise_above f least [] next u r e = absurd (false≢true e)
rise_above f least (w ∷ ws) next u r e = by_head (cases_eq w.0 u) e (rise_above f (f w.0 + 1) ws next u r.1)
  where
    by_head : ((w.0 ≡ u) ⊎ (w.0 ≡ u → ⊥)) → names u (w ∷ ws) ≡ true → (names u ws ≡ true → f w.0 + 1 ≤ f u)
        → least ≤ f u
    by_head (inl same) e ih = let at : f w.0 ≡ f u = ap f same in omega (arith, r.0)
    by_head (inr other) e ih =
        let apart : (w.0 == u) ≡ false = grind (arith, nat_tests) in
        let rest : names u ws ≡ true = rw apart at e in
        omega (arith, r.0, ih rest)

-- no waiter stands twice
pub rise_once : (f : ℕ → ℕ) (least : ℕ) (ws : List (ℕ × ℕ)) (next : ℕ) → Rise f least ws next → Once ws
unfolding IsDistinct
rise_once f least [] next r = tt
rise_once f least (w ∷ ws) next r =
    once_cons w ws (by_test (names w.0 ws) refl (rise_above f (f w.0 + 1) ws next w.0 r.1))
    (rise_once f (f w.0 + 1) ws next r.1)
  where
    by_test : (b : Bool) → names w.0 ws ≡ b → (names w.0 ws ≡ true → f w.0 + 1 ≤ f w.0) → names w.0 ws ≡ false
    by_test false e above = e
    by_test true e above = absurd (omega (arith, above e))

-- one waiter more, with the next ticket
pub rise_push : (f g : ℕ → ℕ) (least : ℕ) (ws : List (ℕ × ℕ)) (ticket t m next : ℕ) → Rise f least ws ticket
    → names t ws ≡ false → ((u : ℕ) → u ≢ t → g u ≡ f u) → g t ≡ ticket → ticket < next
    → Rise g least (ws ++ (t, m) ∷ []) next
rise_push f g least [] ticket t m next r off same new lt = (omega (arith, new), omega (arith, new))
rise_push f g least (w ∷ ws) ticket t m next r off same new lt =
    by_head (cases_eq w.0 t) off (λ rest. rise_push f g (f w.0 + 1) ws ticket t m next r.1 rest same new lt)
  where
    by_head : ((w.0 ≡ t) ⊎ (w.0 ≡ t → ⊥)) → names t (w ∷ ws) ≡ false
        → (names t ws ≡ false → Rise g (f w.0 + 1) (ws ++ (t, m) ∷ []) next)
        → Rise g least ((w ∷ ws) ++ (t, m) ∷ []) next
    by_head (inl e) off ih =
        let here : (w.0 == t) ≡ true = grind (arith, nat_tests) in absurd (true≢false (rw here at off))
    by_head (inr ne) off ih =
        let there : (w.0 == t) ≡ false = grind (arith, nat_tests) in
        let at : f w.0 ≡ g w.0 = sym (same w.0 ne) in
        (omega (arith, r.0), subst (λ (n : ℕ). Rise g (n + 1) (ws ++ (t, m) ∷ []) next) at (ih (rw there at off)))

-- a mutex more has a waiter, if it had none
pub mutexes_push : (ws : List (ℕ × ℕ)) (t m : ℕ)
    → mutexes_of (ws ++ (t, m) ∷ []) ≡ (if has_waiter ws m then mutexes_of ws else mutexes_of ws + 1)
mutexes_push [] t m = refl
mutexes_push (w ∷ ws) t m = by_same (cases_eq w.1 m) (mutexes_push ws t m)
  where
    some : (b c : Bool) (n k : ℕ) → k ≡ (if c then n else n + 1)
        → (if b then k else k + 1) ≡ (if c then (if b then n else n + 1) else (if b then n else n + 1) + 1)
    some true true n k e = e
    some true false n k e = e
    some false true n k e = ap (λ (x : ℕ). x + 1) e
    some false false n k e = ap (λ (x : ℕ). x + 1) e

    or_true : (b : Bool) → (b || true) ≡ true
    or_true true = refl
    or_true false = refl

    or_false : (b : Bool) → (b || false) ≡ b
    or_false true = refl
    or_false false = refl

    by_same : ((w.1 ≡ m) ⊎ (w.1 ≡ m → ⊥))
        → mutexes_of (ws ++ (t, m) ∷ []) ≡ (if has_waiter ws m then mutexes_of ws else mutexes_of ws + 1)
        → mutexes_of ((w ∷ ws) ++ (t, m) ∷ []) ≡
        (if has_waiter (w ∷ ws) m then mutexes_of (w ∷ ws) else mutexes_of (w ∷ ws) + 1)
    by_same (inl e) ih =
        let here : (w.1 == m) ≡ true = grind (arith, nat_tests) in
        let back : (m == w.1) ≡ true = grind (arith, nat_tests) in
        let pushed : has_waiter (ws ++ (t, m) ∷ []) w.1 ≡ true
        = has_waiter-push ws t m w.1 ∙ rw back (or_true (has_waiter ws w.1)) in
        rw (pushed, here) (ih ∙ ap (λ (x : ℕ). if has_waiter ws x then mutexes_of ws else mutexes_of ws + 1) (sym e))
    by_same (inr ne) ih =
        let here : (w.1 == m) ≡ false = grind (arith, nat_tests) in
        let back : (m == w.1) ≡ false = grind (arith, nat_tests) in
        let pushed : has_waiter (ws ++ (t, m) ∷ []) w.1 ≡ has_waiter ws w.1
        = has_waiter-push ws t m w.1 ∙ rw back (or_false (has_waiter ws w.1)) in
        rw (pushed, here) (some (has_waiter ws w.1) (has_waiter ws m) (mutexes_of ws)
        (mutexes_of (ws ++ (t, m) ∷ [])) ih)

pub mutexes_few : (ws : List (ℕ × ℕ)) → mutexes_of ws ≤ length ws
mutexes_few [] = omega arith
mutexes_few (w ∷ ws) = by_test (has_waiter ws w.1) (mutexes_few ws)
  where
    by_test : (b : Bool) → mutexes_of ws ≤ length ws
        → (if b then mutexes_of ws else mutexes_of ws + 1) ≤ length (w ∷ ws)
    by_test true ih = omega arith
    by_test false ih = omega arith

named_from_numbers : (ws : List (ℕ × ℕ)) (q : ℕ) → list_any (eqb q) (map (λ (w : ℕ × ℕ). w.0) ws) ≡ names q ws
named_from_numbers [] q = refl
named_from_numbers (w ∷ ws) q =
    let flipped : eqb q w.0 ≡ (w.0 == q) = grind (arith, nat_tests) in
    ap₂ (λ (a b : Bool). a || b) flipped (named_from_numbers ws q)

-- waiters below n, of whom t is none, are at least two fewer than n
pub few_waiters : (ws : List (ℕ × ℕ)) (n t : ℕ) → 1 ≤ n → t ≢ 0 → t < n → Once ws → names t ws ≡ false
    → ((q : ℕ) → names q ws ≡ true → (q ≢ 0) × (q < n)) → length ws + 2 ≤ n
few_waiters ws n t some nz l once off within =
    let all = (0, 0) ∷ (t, 0) ∷ ws in
    let apart : (t == 0) ≡ false = grind (arith, nat_tests) in
    let nobody : names 0 ws ≡ false = by_test (names 0 ws) refl in
    let none : names 0 ((t, 0) ∷ ws) ≡ false = rw (apart, nobody) refl in
    let bound : length (map (λ (w : ℕ × ℕ). w.0) all) ≤ n
    = length-le_from_distinct_below (map (λ (w : ℕ × ℕ). w.0) all) n
    (once_cons (0, 0) ((t, 0) ∷ ws) none (once_cons (t, 0) ws off once))
    (λ q e. below q (sym (named_from_numbers all q) ∙ e)) in
    omega (arith, length-map all (λ (w : ℕ × ℕ). w.0))
  where
    by_test : (b : Bool) → names 0 ws ≡ b → names 0 ws ≡ false
    by_test false e = e
    by_test true e = absurd ((within 0 e).0 refl)

    below : (q : ℕ) → ((0 == q) || ((t == q) || names q ws)) ≡ true → q < n
    below q e = by_zero (cases_eq q 0) (cases_eq q t) e
      where
        by_zero : ((q ≡ 0) ⊎ (q ≡ 0 → ⊥)) → ((q ≡ t) ⊎ (q ≡ t → ⊥)) → ((0 == q) || ((t == q) || names q ws)) ≡ true
            → q < n
        by_zero (inl z) d e = omega arith
        by_zero (inr x) (inl same) e = omega arith
        by_zero (inr x) (inr y) e =
            let a : (0 == q) ≡ false = grind (arith, nat_tests) in
            let b : (t == q) ≡ false = grind (arith, nat_tests) in
            let named : names q ws ≡ true = rw (a, b) at e in
            (within q named).1

-- waiters below n are fewer than n
pub few_named : (ws : List (ℕ × ℕ)) (n : ℕ) → 1 ≤ n → Once ws → ((q : ℕ) → names q ws ≡ true → (q ≢ 0) × (q < n))
    → length ws + 1 ≤ n
few_named ws n some once within =
    let all = (0, 0) ∷ ws in
    let nobody : names 0 ws ≡ false = by_test (names 0 ws) refl in
    let bound : length (map (λ (w : ℕ × ℕ). w.0) all) ≤ n
    = length-le_from_distinct_below (map (λ (w : ℕ × ℕ). w.0) all) n (once_cons (0, 0) ws nobody once)
    (λ q e. below q (sym (named_from_numbers all q) ∙ e)) in
    omega (arith, length-map all (λ (w : ℕ × ℕ). w.0))
  where
    by_test : (b : Bool) → names 0 ws ≡ b → names 0 ws ≡ false
    by_test false e = e
    by_test true e = absurd ((within 0 e).0 refl)

    below : (q : ℕ) → ((0 == q) || names q ws) ≡ true → q < n
    below q e = by_zero (cases_eq q 0) e
      where
        by_zero : ((q ≡ 0) ⊎ (q ≡ 0 → ⊥)) → ((0 == q) || names q ws) ≡ true → q < n
        by_zero (inl z) e = omega arith
        by_zero (inr x) e =
            let a : (0 == q) ≡ false = grind (arith, nat_tests) in
            let named : names q ws ≡ true = rw a at e in
            (within q named).1

-- who stands behind has the greater ticket
pub rise_behind : (f : ℕ → ℕ) (least : ℕ) (xs ys : List (ℕ × ℕ)) (x m next u : ℕ) → Rise f least (xs ++ (x, m) ∷ ys) next
    → names u ys ≡ true → f x < f u
rise_behind f least [] ys x m next u r e =
    let up : f x + 1 ≤ f u = rise_above f (f x + 1) ys next u r.1 e in omega arith
rise_behind f least (w ∷ xs) ys x m next u r e = rise_behind f (f w.0 + 1) xs ys x m next u r.1 e

pub waiter_split : (xs ys : List (ℕ × ℕ)) (u m : ℕ) → is_waiter (xs ++ ys) u m ≡ true
    → (is_waiter xs u m ≡ true) ⊎ (is_waiter ys u m ≡ true)
waiter_split [] ys u m e = inr e
waiter_split (w ∷ xs) ys u m e = by_place (is_among_cons w (xs ++ ys) u m e) (waiter_split xs ys u m)
  where
    by_rest : (is_waiter xs u m ≡ true) ⊎ (is_waiter ys u m ≡ true)
        → (is_waiter (w ∷ xs) u m ≡ true) ⊎ (is_waiter ys u m ≡ true)
    by_rest (inl r) = inl (is_among_there w xs u m r)
    by_rest (inr r) = inr r

    by_place : ((w.0 ≡ u) × (w.1 ≡ m)) ⊎ (is_waiter (xs ++ ys) u m ≡ true)
        → (is_waiter (xs ++ ys) u m ≡ true → (is_waiter xs u m ≡ true) ⊎ (is_waiter ys u m ≡ true))
        → (is_waiter (w ∷ xs) u m ≡ true) ⊎ (is_waiter ys u m ≡ true)
    by_place (inl a) ih = inl (is_among_here w xs u m a.0 a.1)
    by_place (inr r) ih = by_rest (ih r)

pub waiter_middle : (xs ys : List (ℕ × ℕ)) (x m : ℕ) → is_waiter (xs ++ (x, m) ∷ ys) x m ≡ true
waiter_middle [] ys x m = is_among_here (x, m) ys x m refl refl
waiter_middle (w ∷ xs) ys x m = is_among_there w (xs ++ (x, m) ∷ ys) x m (waiter_middle xs ys x m)
