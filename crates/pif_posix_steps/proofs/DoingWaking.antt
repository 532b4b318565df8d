-- Who is unblocked by a list is unblocked by a test: the order and repetitions don't matter.
use Rattle.std.proofs.Common.{ℕ, zero, suc, ◌≡◌, ◌⊎◌, ◌∙◌, ◌+◌, ◌==◌, Bool, true, false, List, [], ◌∷◌, get_or, set, Option, Some, None, refl, sym, subst, ap, inl, inr, arith, if◌then◌else◌, ◌||◌}
use Rattle.std.specs.List.{list_any}
use Rattle.std.proofs.lemmas.Bool.{ne_eqb, eq-eqb, cases_Bool}
use Rattle.pif_model.specs.Posix.{World, Thread, Call, Progress, nobody, with_call_by, after_unblocking, on_unblocking, all_unblocked}
use Rattle.pif_model.specs.World.Progress.{Fresh, Waiting, Stuck, Leaving, Has, Checked, Enlisted, Blocked, Reacquiring, Used}
use Rattle.pif_posix_steps.specs.Doing.{after_waking, woken_from, woken_where}

-- twice is once
on_unblocking-twice : (p : Progress) → on_unblocking (on_unblocking p) ≡ on_unblocking p
on_unblocking-twice Fresh = refl
on_unblocking-twice _ = refl

after_unblocking-twice : (o : Option Call) → after_unblocking (after_unblocking o) ≡ after_unblocking o
after_unblocking-twice None = refl
after_unblocking-twice (Some x) = ap (λ (p : Progress). Some (record { request = x.request; progress = p })) (on_unblocking-twice x.progress)

after_waking-twice : (x : Thread) → after_waking (after_waking x) ≡ after_waking x
after_waking-twice x = ap (λ (o : Option Call). record x { call = o }) (after_unblocking-twice x.call)

-- no one passes
woken-none : (n : ℕ) (xs : List Thread) → woken_from (λ i. false) n xs ≡ xs
woken-none n [] = refl
woken-none n (x ∷ xs) = ap (λ (ys : List Thread). x ∷ ys) (woken-none (suc n) xs)

-- tests that agree from n on
pub woken-same : (p q : ℕ → Bool) (n : ℕ) (xs : List Thread) → ((i : ℕ) → p (n + i) ≡ q (n + i)) → woken_from p n xs ≡ woken_from q n xs
woken-same p q n [] h = refl
woken-same p q n (x ∷ xs) h =
    let here : p n ≡ q n = subst (λ (j : ℕ). p j ≡ q j) (omega arith) (h 0) in
    let rest : woken_from p (suc n) xs ≡ woken_from q (suc n) xs = woken-same p q (suc n) xs (λ i. let at : n + (suc i) ≡ suc n + i = omega arith in subst (λ (j : ℕ). p j ≡ q j) at (h (suc i))) in
    ap (λ (b : Bool). (if b then after_waking x else x) ∷ woken_from p (suc n) xs) here ∙ ap (λ (ys : List Thread). (if q n then after_waking x else x) ∷ ys) rest

-- the thread at a place is unblocked first
woken-set : (test : ℕ → Bool) (n k : ℕ) (xs : List Thread)
    → woken_from test n (set xs k (after_waking (get_or xs k nobody))) ≡ woken_from (λ i. if n + k == i then true else test i) n xs
woken-set test n k [] = refl
woken-set test n zero (x ∷ xs) =
    let at : (n + 0 == n) ≡ true = eq-eqb (n + 0) n (omega arith) in
    let b : (if test n then after_waking (after_waking x) else after_waking x) ≡ after_waking x = by_test (cases_Bool (test n)) in
    let rest : woken_from test (suc n) xs ≡ woken_from (λ i. if n + 0 == i then true else test i) (suc n) xs =
    woken-same test (λ i. if n + 0 == i then true else test i) (suc n) xs (λ i. let off : (n + 0 == suc n + i) ≡ false = ne_eqb (n + 0) (suc n + i) (λ e. omega arith) in sym (ap (λ (b : Bool). if b then true else test (suc n + i)) off)) in
    ap (λ (y : Thread). y ∷ woken_from test (suc n) xs) b ∙ ap (λ (ys : List Thread). after_waking x ∷ ys) rest
    ∙ ap (λ (c : Bool). (if (if c then true else test n) then after_waking x else x) ∷ woken_from (λ i. if n + 0 == i then true else test i) (suc n) xs) (sym at)
  where
    by_test : (test n ≡ true) ⊎ (test n ≡ false) → (if test n then after_waking (after_waking x) else after_waking x) ≡ after_waking x
    by_test (inl e) = ap (λ (c : Bool). if c then after_waking (after_waking x) else after_waking x) e ∙ after_waking-twice x
    by_test (inr e) = ap (λ (c : Bool). if c then after_waking (after_waking x) else after_waking x) e
woken-set test n (suc k) (x ∷ xs) =
    let off : (n + suc k == n) ≡ false = ne_eqb (n + suc k) n (λ e. omega arith) in
    let shift : n + suc k ≡ suc n + k = omega arith in
    let ih = woken-set test (suc n) k xs in
    ap (λ (ys : List Thread). (if test n then after_waking x else x) ∷ ys) (ih ∙ ap (λ (j : ℕ). woken_from (λ i. if j == i then true else test i) (suc n) xs) (sym shift))
    ∙ ap (λ (c : Bool). (if (if c then true else test n) then after_waking x else x) ∷ woken_from (λ i. if n + suc k == i then true else test i) (suc n) xs) (sym off)

or_is : (b y : Bool) → (if b then true else y) ≡ (b || y)
or_is true y = refl
or_is false y = refl

pub all_unblocked-is : (us : List ℕ) (w : World) → all_unblocked us w ≡ woken_where (λ i. list_any (λ u. u == i) us) w
unfolding all_unblocked
all_unblocked-is [] w = ap (λ (xs : List Thread). record w { threads = xs }) (sym (woken-none 0 w.threads))
all_unblocked-is (u ∷ us) w =
    let v : World = with_call_by u after_unblocking w in
    all_unblocked-is us v
    ∙ ap (λ (xs : List Thread). record w { threads = xs })
    (woken-set (λ i. list_any (λ x. x == i) us) 0 u w.threads
    ∙ woken-same (λ i. if 0 + u == i then true else list_any (λ x. x == i) us) (λ i. list_any (λ x. x == i) (u ∷ us)) 0 w.threads
    (λ i. let e : 0 + u ≡ u = omega arith in ap (λ (j : ℕ). if j == 0 + i then true else list_any (λ x. x == 0 + i) us) e ∙ or_is (u == 0 + i) (list_any (λ x. x == 0 + i) us)))
