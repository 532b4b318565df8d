-- As many clients as threads, none a stranger: each thread has just one client.
use Rattle.std.proofs.Common.{◌≡◌, ◌⊎◌, ◌<◌, ◌≤◌, ℕ, suc, ◌+◌, Bool, true, false, ◌==◌, ◌||◌, nat_lt, List, [], ◌∷◌, length, count_by, refl, sym, ap, ◌∙◌, subst, inl, inr, arith, if◌then◌else◌}
use Rattle.std.specs.Prelude.{slice_index_or}
use Rattle.std.specs.List.{All, list_any}
use Rattle.std.proofs.lemmas.Bool.{cases_eq, eq-eqb, ne_eqb, true≢false}
use Rattle.std.proofs.lemmas.Bool.Decides.{nat_tests}
use Rattle.std.proofs.lemmas.List.Elements.{All-head, All-tail}
use Rattle.std.proofs.lemmas.List.Sums.{sum_by-cons}
use Rattle.pif_model.specs.declared.events.Entry.{Entry}
use Rattle.pif_model.specs.declared.events.Entry.TheVariants.{Thread as AddThread, Mutex as AddMutex, Cond as AddCond, Step as Happened}
use Rattle.pif_desk.specs.Rooms.{ClientState}
use Rattle.pif_desk.specs.Settling.{adds_thread, adds, is_stranger, AreAsManyAsThreads, AreKnown}

-- HOW OFTEN A NUMBER STANDS IN A LIST

-- 1 if two numbers are the same
abbrev one_if : Bool → ℕ
one_if true = 1
one_if false = 0

abbrev times : ℕ → List ℕ → ℕ
times n [] = 0
times n (x ∷ xs) = one_if (x == n) + times n xs

-- the list without a number, where that stands first
abbrev without_one : ℕ → List ℕ → List ℕ
without_one n [] = []
without_one n (x ∷ xs) = if x == n then xs else x ∷ without_one n xs

length-without_one : (n : ℕ) (xs : List ℕ) → 0 < times n xs → length (without_one n xs) + 1 ≡ length xs
length-without_one n [] h = absurd (omega (arith, h))
length-without_one n (x ∷ xs) h = by_test (x == n) (length-without_one n xs) h
  where
    by_test : (b : Bool) → (0 < times n xs → length (without_one n xs) + 1 ≡ length xs) → 0 < one_if b + times n xs
        → length (if b then xs else x ∷ without_one n xs) + 1 ≡ length (x ∷ xs)
    by_test true ih h = omega arith
    by_test false ih h = let e = ih (omega (arith, h)) in omega (arith, e)

times-without_one : (n k : ℕ) (xs : List ℕ) → 0 < times n xs → times k (without_one n xs) + one_if (n == k) ≡ times k xs
times-without_one n k [] h = absurd (omega (arith, h))
times-without_one n k (x ∷ xs) h = by_test (cases_eq x n) (times-without_one n k xs)
  where
    by_test : (x ≡ n) ⊎ (x ≡ n → ⊥) → (0 < times n xs → times k (without_one n xs) + one_if (n == k) ≡ times k xs)
        → times k (without_one n (x ∷ xs)) + one_if (n == k) ≡ times k (x ∷ xs)
    by_test (inl e) ih =
        ap (λ b. times k (if b then xs else x ∷ without_one n xs) + one_if (n == k)) (eq-eqb x n e)
        ∙ (let f = ap (λ m. one_if (m == k)) e in omega (arith, f))
    by_test (inr d) ih =
        let b : (x == n) ≡ false = ne_eqb x n d in
        let more : 0 < times n xs = omega (arith, h, ap one_if b) in
        ap (λ c. times k (if c then xs else x ∷ without_one n xs) + one_if (n == k)) b
        ∙ (let f = ih more in omega (arith, f))

-- a list with no number more often than another is no longer
fits_in : (xs ys : List ℕ) → ((n : ℕ) → times n xs ≤ times n ys) → length xs ≤ length ys
fits_in [] ys h = omega arith
fits_in (x ∷ xs) ys h =
    let same : one_if (x == x) ≡ 1 = ap one_if (eq-eqb x x refl) in
    let some : 0 < times x ys = omega (arith, h x, same) in
    let shorter = fits_in xs (without_one x ys) (λ n. omega (arith, h n, times-without_one x n ys some)) in
    omega (arith, shorter, length-without_one x ys some)

-- THREADS AND CLIENTS

-- the threads that a journal adds
abbrev added : List Entry → List ℕ
added [] = []
added (AddThread t p ∷ j) = t ∷ added j
added (AddMutex m k r ∷ j) = added j
added (AddCond c m ∷ j) = added j
added (Happened x s ∷ j) = added j

-- the threads of clients
abbrev threads_of : List ClientState → List ℕ
threads_of [] = []
threads_of (c ∷ cs) = c.thread ∷ threads_of cs

length-threads_of : (cs : List ClientState) → length (threads_of cs) ≡ length cs
length-threads_of [] = refl
length-threads_of (c ∷ cs) = ap suc (length-threads_of cs)

length-added : (j : List Entry) → count_by adds_thread j ≡ length (added j)
length-added [] = refl
length-added (AddThread t p ∷ j) = let e = length-added j in sum_by-cons _ (AddThread t p) j ∙ omega (arith, e)
length-added (AddMutex m k r ∷ j) = let e = length-added j in sum_by-cons _ (AddMutex m k r) j ∙ omega (arith, e)
length-added (AddCond c m ∷ j) = let e = length-added j in sum_by-cons _ (AddCond c m) j ∙ omega (arith, e)
length-added (Happened x s ∷ j) = let e = length-added j in sum_by-cons _ (Happened x s) j ∙ omega (arith, e)

-- clients of a thread
times-threads_of : (t : ℕ) (cs : List ClientState) → count_by (λ c. c.thread == t) cs ≡ times t (threads_of cs)
times-threads_of t [] = refl
times-threads_of t (c ∷ cs) =
    let e = times-threads_of t cs in
    sum_by-cons _ c cs ∙ by_test (c.thread == t) e
  where
    by_test : (b : Bool) → count_by (λ d. d.thread == t) cs ≡ times t (threads_of cs)
        → (if b then 1 else 0) + count_by (λ d. d.thread == t) cs ≡ one_if b + times t (threads_of cs)
    by_test true e = omega (arith, e)
    by_test false e = omega (arith, e)

-- a thread that is added stands among those that are
times-added : (t : ℕ) (j : List Entry) → list_any (adds t) j ≡ true → 0 < times t (added j)
times-added t [] h = absurd (true≢false (sym h))
times-added t (AddThread u p ∷ j) h = by_test (u == t) (times-added t j) h
  where
    by_test : (b : Bool) → (list_any (adds t) j ≡ true → 0 < times t (added j)) → (b || list_any (adds t) j) ≡ true
        → 0 < one_if b + times t (added j)
    by_test true ih h = omega arith
    by_test false ih h = let e = ih h in omega (arith, e)
times-added t (AddMutex m k r ∷ j) h = times-added t j h
times-added t (AddCond c m ∷ j) h = times-added t j h
times-added t (Happened x s ∷ j) h = times-added t j h

-- what holds of each client's thread holds of each number that stands among them
among : (P : ℕ → Type 0) (cs : List ClientState) → All (λ c. P c.thread) cs → (t : ℕ)
    → 0 < times t (threads_of cs) → P t
among P [] all t h = absurd (omega (arith, h))
among P (c ∷ cs) all t h = by_test (cases_eq c.thread t) (among P cs (All-tail (λ c. P c.thread) c cs all) t)
  where
    by_test : (c.thread ≡ t) ⊎ (c.thread ≡ t → ⊥) → (0 < times t (threads_of cs) → P t) → P t
    by_test (inl e) ih = subst P e (All-head (λ c. P c.thread) c cs all)
    by_test (inr d) ih = ih (omega (arith, h, ap one_if (ne_eqb c.thread t d)))

-- what is no stranger is added, and alone
no_stranger : (cs : List ClientState) (j : List Entry) (c : ClientState) → is_stranger cs j c ≡ false
    → (list_any (adds c.thread) j ≡ true) × (times c.thread (threads_of cs) ≤ 1)
no_stranger cs j c e = by_test (list_any (adds c.thread) j) e
  where
    by_test : (b : Bool) → (if b then nat_lt 1 (count_by (λ d. d.thread == c.thread) cs) else true) ≡ false
        → (b ≡ true) × (times c.thread (threads_of cs) ≤ 1)
    by_test true f = (
      refl,
      (let
          g = times-threads_of c.thread cs in few (times c.thread (threads_of cs)) (ap (nat_lt 1) (sym g) ∙ f)),
    )
      where
        few : (n : ℕ) → nat_lt 1 n ≡ false → n ≤ 1
        few n f = grind (arith, nat_tests)
    by_test false f = absurd (true≢false f)

-- each thread that was added has just one client
pub one_client : (cs : List ClientState) (j : List Entry) → AreAsManyAsThreads cs j → AreKnown cs j → (t : ℕ)
    → list_any (adds t) j ≡ true → count_by (λ c. c.thread == t) cs ≡ 1
one_client cs j counted known t here = times-threads_of t cs ∙ by_count (cases_eq (times t (threads_of cs)) 0)
  where
    all : All (λ c. (list_any (adds c.thread) j ≡ true) × (times c.thread (threads_of cs) ≤ 1)) cs
    all = λ k d h. no_stranger cs j (slice_index_or cs k d) (known k d h)

    alone : (n : ℕ) → 0 < times n (threads_of cs) → (list_any (adds n) j ≡ true) × (times n (threads_of cs) ≤ 1)
    alone = among (λ n. (list_any (adds n) j ≡ true) × (times n (threads_of cs) ≤ 1)) cs all

    fits : (n : ℕ) → times t (threads_of cs) ≡ 0 → times n (t ∷ threads_of cs) ≤ times n (added j)
    fits n none = by_place (cases_eq t n) (cases_eq (times n (threads_of cs)) 0)
      where
        by_place : (t ≡ n) ⊎ (t ≡ n → ⊥) → (times n (threads_of cs) ≡ 0) ⊎ (times n (threads_of cs) ≡ 0 → ⊥)
            → times n (t ∷ threads_of cs) ≤ times n (added j)
        by_place (inl e) some =
            subst (λ k. times k (t ∷ threads_of cs) ≤ times k (added j)) e
            (let one : one_if (t == t) ≡ 1 =
            ap one_if (eq-eqb t t refl) in omega (arith, one, none, times-added t j here))
        by_place (inr d) (inl z) = let one = ap one_if (ne_eqb t n d) in omega (arith, one, z)
        by_place (inr d) (inr s) =
            let one = ap one_if (ne_eqb t n d) in
            let a = alone n (omega (arith, s)) in
            omega (arith, one, a.1, times-added n j a.0)

    by_count : (times t (threads_of cs) ≡ 0) ⊎ (times t (threads_of cs) ≡ 0 → ⊥) → times t (threads_of cs) ≡ 1
    by_count (inl none) = absurd (let long = fits_in (t ∷ threads_of cs) (added j) (λ n. fits n none) in
        omega (arith, long, counted, length-added j, length-threads_of cs))
    by_count (inr some) = let a = alone t (omega (arith, some)) in omega (arith, a.1, some)
