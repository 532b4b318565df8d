-- What is in a list that is made of others.
use Rattle.std.proofs.Common.{ℕ, zero, suc, ◌≡◌, ◌<◌, ◌⊎◌, ◌∙◌, ◌==◌, Bool, true, false, List, [], ◌∷◌, length, get_or, map, Option, Some, None, refl, sym, ap, subst, inl, inr, arith, if◌then◌else◌, Contains, cond, filter, flat_map, option_to_list}
use Rattle.std.specs.List.{list_any}
use Rattle.std.proofs.lemmas.Bool.{eqb-true, eq-eqb, cases_Bool, cases_order, both_ways, or_cases, or_left, or_right}
use Rattle.pif_posix_steps.specs.Doing.{passing}
use Rattle.std.proofs.lemmas.List.Elements.{Contains-append_left, Contains-append_right, Contains-append_cases}

module _ {X : Type 0} where
  -- nothing is in the empty list
  pub not_in_none : (v : X) → Contains [] v → ⊥
  not_in_none v c = omega (arith, c.1)

  pub in_first : (x : X) (xs : List X) → Contains (x ∷ xs) x
  in_first x xs = (0, omega arith, refl)

  pub in_rest : (x : X) (xs : List X) (v : X) → Contains xs v → Contains (x ∷ xs) v
  in_rest x xs v c = (suc c.0, omega (arith, c.1), c.2)

  pub in_cases : (x : X) (xs : List X) (v : X) → Contains (x ∷ xs) v → (x ≡ v) ⊎ Contains xs v
  in_cases x xs v c = by_place c.0 c.1 c.2
    where
      by_place : (k : ℕ) → k < length (x ∷ xs) → get_or (x ∷ xs) k v ≡ v → (x ≡ v) ⊎ Contains xs v
      by_place zero l e = inl e
      by_place (suc k) l e = inr (k, omega arith, e)

  pub in_one : (x v : X) → Contains (x ∷ []) v → x ≡ v
  in_one x v c = by_case (in_cases x [] v c)
    where
      by_case : (x ≡ v) ⊎ Contains [] v → x ≡ v
      by_case (inl e) = e
      by_case (inr c) = absurd (not_in_none v c)

  pub in_one_from : (x v : X) → v ≡ x → Contains (x ∷ []) v
  in_one_from x v e = subst (Contains (x ∷ [])) (sym e) (in_first x [])

  -- what an option gives
  pub in_option : (o : Option X) (v : X) → Contains (option_to_list o) v → o ≡ Some v
  in_option None v c = absurd (not_in_none v c)
  in_option (Some x) v c = ap Some (in_one x v c)

  pub in_option_from : (o : Option X) (v : X) → o ≡ Some v → Contains (option_to_list o) v
  in_option_from o v e = subst (λ (x : Option X). Contains (option_to_list x) v) (sym e) (in_first v [])

  -- a list that is there if a test passes
  pub in_then : (b : Bool) (xs : List X) (v : X) → Contains (if b then xs else []) v → (b ≡ true) × Contains xs v
  in_then true xs v c = (refl, c)
  in_then false xs v c = absurd (not_in_none v c)

  pub in_then_from : (b : Bool) (xs : List X) (v : X) → b ≡ true → Contains xs v → Contains (if b then xs else []) v
  in_then_from b xs v e c = subst (λ (x : Bool). Contains (if x then xs else []) v) (sym e) c

  -- a list that is there if a test fails
  pub in_else : (b : Bool) (xs : List X) (v : X) → Contains (if b then [] else xs) v → (b ≡ false) × Contains xs v
  in_else true xs v c = absurd (not_in_none v c)
  in_else false xs v c = (refl, c)

  pub in_else_from : (b : Bool) (xs : List X) (v : X) → b ≡ false → Contains xs v → Contains (if b then [] else xs) v
  in_else_from b xs v e c = subst (λ (x : Bool). Contains (if x then [] else xs) v) (sym e) c

  pub in_filter : (p : X → Bool) (xs : List X) (v : X) → Contains (filter p xs) v → Contains xs v × (p v ≡ true)
  in_filter p [] v c = absurd (not_in_none v c)
  in_filter p (x ∷ xs) v c = by_test (λ d. in_filter p xs v d) (cases_Bool (p x))
    where
      from_rest : (Contains (filter p xs) v → Contains xs v × (p v ≡ true)) → Contains (filter p xs) v
          → Contains (x ∷ xs) v × (p v ≡ true)
      from_rest ih d = let r = ih d in (in_rest x xs v r.0, r.1)

      by_case : (Contains (filter p xs) v → Contains xs v × (p v ≡ true)) → p x ≡ true
          → (x ≡ v) ⊎ Contains (filter p xs) v → Contains (x ∷ xs) v × (p v ≡ true)
      by_case ih e (inl f) = (subst (Contains (x ∷ xs)) f (in_first x xs), subst (λ (y : X). p y ≡ true) f e)
      by_case ih e (inr d) = from_rest ih d

      by_test : (Contains (filter p xs) v → Contains xs v × (p v ≡ true)) → (p x ≡ true) ⊎ (p x ≡ false)
          → Contains (x ∷ xs) v × (p v ≡ true)
      by_test ih (inl e) = by_case ih e (in_cases x (filter p xs) v (subst (λ (b : Bool). Contains (cond b (x ∷ filter p xs) (filter p xs)) v) e c))
      by_test ih (inr e) = from_rest ih (subst (λ (b : Bool). Contains (cond b (x ∷ filter p xs) (filter p xs)) v) e c)

  pub in_filter_from : (p : X → Bool) (xs : List X) (v : X) → Contains xs v → p v ≡ true → Contains (filter p xs) v
  in_filter_from p [] v c e = absurd (not_in_none v c)
  in_filter_from p (x ∷ xs) v c e = by_case (λ d. in_filter_from p xs v d e) (in_cases x xs v c)
    where
      by_test : Contains (filter p xs) v → (p x ≡ true) ⊎ (p x ≡ false) → Contains (filter p (x ∷ xs)) v
      by_test d (inl f) =
          subst (λ (b : Bool). Contains (cond b (x ∷ filter p xs) (filter p xs)) v) (sym f) (in_rest x (filter p xs) v d)
      by_test d (inr f) = subst (λ (b : Bool). Contains (cond b (x ∷ filter p xs) (filter p xs)) v) (sym f) d

      by_case : (Contains xs v → Contains (filter p xs) v) → (x ≡ v) ⊎ Contains xs v → Contains (filter p (x ∷ xs)) v
      by_case ih (inl f) =
          let g : p x ≡ true = subst (λ (y : X). p y ≡ true) (sym f) e in
          let here : Contains (x ∷ filter p xs) v = subst (Contains (x ∷ filter p xs)) f (in_first x (filter p xs)) in
          subst (λ (b : Bool). Contains (cond b (x ∷ filter p xs) (filter p xs)) v) (sym g) here
      by_case ih (inr d) = by_test (ih d) (cases_Bool (p x))

module _ {X Y : Type 0} where
  pub in_map : (f : X → Y) (xs : List X) (v : Y) → Contains (map f xs) v → (x : X) × Contains xs x × (f x ≡ v)
  in_map f [] v c = absurd (not_in_none v c)
  in_map f (x ∷ xs) v c = by_case (λ d. in_map f xs v d) (in_cases (f x) (map f xs) v c)
    where
      by_case : (Contains (map f xs) v → (y : X) × Contains xs y × (f y ≡ v)) → (f x ≡ v) ⊎ Contains (map f xs) v
          → (y : X) × Contains (x ∷ xs) y × (f y ≡ v)
      by_case ih (inl e) = (x, in_first x xs, e)
      by_case ih (inr d) = let r = ih d in (r.0, in_rest x xs r.0 r.1, r.2)

  pub in_map_from : (f : X → Y) (xs : List X) (x : X) → Contains xs x → Contains (map f xs) (f x)
  in_map_from f [] x c = absurd (not_in_none x c)
  in_map_from f (y ∷ ys) x c = by_case (λ d. in_map_from f ys x d) (in_cases y ys x c)
    where
      by_case : (Contains ys x → Contains (map f ys) (f x)) → (y ≡ x) ⊎ Contains ys x → Contains (map f (y ∷ ys)) (f x)
      by_case ih (inl e) = subst (λ (z : X). Contains (map f (y ∷ ys)) (f z)) e (in_first (f y) (map f ys))
      by_case ih (inr d) = in_rest (f y) (map f ys) (f x) (ih d)

  pub in_flat_map : (f : X → List Y) (xs : List X) (v : Y) → Contains (flat_map f xs) v → (x : X) × Contains xs x × Contains (f x) v
  in_flat_map f [] v c = absurd (not_in_none v c)
  in_flat_map f (x ∷ xs) v c = by_case (λ d. in_flat_map f xs v d) (Contains-append_cases (f x) (flat_map f xs) v c)
    where
      by_case : (Contains (flat_map f xs) v → (y : X) × Contains xs y × Contains (f y) v)
          → Contains (f x) v ⊎ Contains (flat_map f xs) v → (y : X) × Contains (x ∷ xs) y × Contains (f y) v
      by_case ih (inl d) = (x, in_first x xs, d)
      by_case ih (inr d) = let r = ih d in (r.0, in_rest x xs r.0 r.1, r.2)

  pub in_flat_map_from : (f : X → List Y) (xs : List X) (x : X) (v : Y) → Contains xs x → Contains (f x) v → Contains (flat_map f xs) v
  in_flat_map_from f [] x v c d = absurd (not_in_none x c)
  in_flat_map_from f (y ∷ ys) x v c d = by_case (λ k. in_flat_map_from f ys x v k d) (in_cases y ys x c)
    where
      by_case : (Contains ys x → Contains (flat_map f ys) v) → (y ≡ x) ⊎ Contains ys x → Contains (flat_map f (y ∷ ys)) v
      by_case ih (inl e) = Contains-append_left (f y) (flat_map f ys) v (subst (λ (z : X). Contains (f z) v) (sym e) d)
      by_case ih (inr k) = Contains-append_right (f y) (flat_map f ys) v (ih k)

-- a number that is in a list, as a test
pub among_is : (us : List ℕ) (b : ℕ) → list_any (λ x. x == b) us ≡ true → Contains us b
among_is [] b e = absurd (let z : false ≡ true = e in cc)
among_is (u ∷ us) b e = by_case (λ f. among_is us b f) (or_cases (u == b) (list_any (λ x. x == b) us) e)
  where
    by_case : (list_any (λ x. x == b) us ≡ true → Contains us b) → ((u == b) ≡ true) ⊎ (list_any (λ x. x == b) us ≡ true)
        → Contains (u ∷ us) b
    by_case ih (inl f) = subst (Contains (u ∷ us)) (eqb-true u b f) (in_first u us)
    by_case ih (inr f) = in_rest u us b (ih f)

pub among_from : (us : List ℕ) (b : ℕ) → Contains us b → list_any (λ x. x == b) us ≡ true
among_from [] b c = absurd (not_in_none b c)
among_from (u ∷ us) b c = by_case (λ d. among_from us b d) (in_cases u us b c)
  where
    by_case : (Contains us b → list_any (λ x. x == b) us ≡ true) → (u ≡ b) ⊎ Contains us b
        → list_any (λ x. x == b) (u ∷ us) ≡ true
    by_case ih (inl e) = or_left (u == b) (list_any (λ x. x == b) us) (eq-eqb u b e)
    by_case ih (inr d) = or_right (u == b) (list_any (λ x. x == b) us) (ih d)

-- the numbers that pass a test
module _ (test : ℕ → Bool) where
  pub passing_to : (n u : ℕ) → Contains (passing test n) u → (u < n) × (test u ≡ true)
  passing_to zero u k = absurd (not_in_none u k)
  passing_to (suc n) u k = by_test (λ d. passing_to n u d) (cases_Bool (test n))
    where
      lower : (Contains (passing test n) u → (u < n) × (test u ≡ true)) → Contains (passing test n) u → (u < suc n) × (test u ≡ true)
      lower ih d = let r = ih d in (omega (arith, r.0), r.1)

      by_case : (Contains (passing test n) u → (u < n) × (test u ≡ true)) → test n ≡ true → (n ≡ u) ⊎ Contains (passing test n) u
          → (u < suc n) × (test u ≡ true)
      by_case ih e (inl f) = (omega arith, subst (λ (x : ℕ). test x ≡ true) f e)
      by_case ih e (inr d) = lower ih d

      by_test : (Contains (passing test n) u → (u < n) × (test u ≡ true)) → (test n ≡ true) ⊎ (test n ≡ false)
          → (u < suc n) × (test u ≡ true)
      by_test ih (inl e) =
          by_case ih e (in_cases n (passing test n) u
          (subst (λ (b : Bool). Contains (if b then n ∷ passing test n else passing test n) u) e k))
      by_test ih (inr e) = lower ih (subst (λ (b : Bool). Contains (if b then n ∷ passing test n else passing test n) u) e k)

  pub passing_from : (n u : ℕ) → u < n → test u ≡ true → Contains (passing test n) u
  passing_from zero u l e = absurd (omega (arith, l))
  passing_from (suc n) u l e = by_test (λ d. passing_from n u d e) (cases_Bool (test n))
    where
      by_place : (u < n → Contains (passing test n) u) → (u ≡ n) ⊎ ((u < n) ⊎ (n < u)) → Contains (n ∷ passing test n) u
      by_place ih (inl f) = subst (Contains (n ∷ passing test n)) (sym f) (in_first n (passing test n))
      by_place ih (inr (inl f)) = in_rest n (passing test n) u (ih f)
      by_place ih (inr (inr f)) = absurd (omega (arith, l, f))

      by_order : (u < n → Contains (passing test n) u) → test n ≡ false → (u ≡ n) ⊎ ((u < n) ⊎ (n < u))
          → Contains (passing test n) u
      by_order ih f (inl g) = absurd (both_ways (test n) f (subst (λ (x : ℕ). test x ≡ true) g e))
      by_order ih f (inr (inl g)) = ih g
      by_order ih f (inr (inr g)) = absurd (omega (arith, l, g))

      by_test : (u < n → Contains (passing test n) u) → (test n ≡ true) ⊎ (test n ≡ false) → Contains (passing test (suc n)) u
      by_test ih (inl f) =
          subst (λ (b : Bool). Contains (if b then n ∷ passing test n else passing test n) u) (sym f) (by_place ih (cases_order u n))
      by_test ih (inr f) =
          subst (λ (b : Bool). Contains (if b then n ∷ passing test n else passing test n) u) (sym f) (by_order ih f (cases_order u n))

  -- none passes
  pub passing-none : (n : ℕ) → ((i : ℕ) → i < n → test i ≡ false) → passing test n ≡ []
  passing-none zero h = refl
  passing-none (suc n) h =
      ap (λ (b : Bool). if b then n ∷ passing test n else passing test n) (h n (omega arith)) ∙ passing-none n (λ i l. h i (omega arith))

-- tests that agree below n
pub passing-same : (p q : ℕ → Bool) (n : ℕ) → ((i : ℕ) → i < n → p i ≡ q i) → passing p n ≡ passing q n
passing-same p q zero h = refl
passing-same p q (suc n) h =
    ap (λ (b : Bool). if b then n ∷ passing p n else passing p n) (h n (omega arith))
    ∙ ap (λ (xs : List ℕ). if q n then n ∷ xs else xs) (passing-same p q n (λ i l. h i (omega arith)))

-- one number passes no more
pub passing-one_less : (p q : ℕ → Bool) (n m : ℕ) → m < n → p m ≡ true → q m ≡ false → ((i : ℕ) → (i ≡ m → ⊥) → p i ≡ q i)
    → length (passing p n) ≡ suc (length (passing q n))
passing-one_less p q zero m l e f h = absurd (omega (arith, l))
passing-one_less p q (suc n) m l e f h = by_place (λ k. passing-one_less p q n m k e f h) (cases_order m n)
  where
    by_place : (m < n → length (passing p n) ≡ suc (length (passing q n))) → (m ≡ n) ⊎ ((m < n) ⊎ (n < m))
        → length (passing p (suc n)) ≡ suc (length (passing q (suc n)))
    by_place ih (inl g) =
        let a : p n ≡ true = subst (λ (x : ℕ). p x ≡ true) g e in
        let b : q n ≡ false = subst (λ (x : ℕ). q x ≡ false) g f in
        let same : passing p n ≡ passing q n = passing-same p q n (λ i k. h i (λ z. omega (arith, z, g, k))) in
        ap (λ (b : Bool). length (if b then n ∷ passing p n else passing p n)) a ∙ ap (λ (xs : List ℕ). suc (length xs)) same
        ∙ sym (ap (λ (b : Bool). suc (length (if b then n ∷ passing q n else passing q n))) b)
    by_place ih (inr (inl k)) =
        let same : p n ≡ q n = h n (λ z. omega (arith, z, k)) in
        ap (λ (b : Bool). length (if b then n ∷ passing p n else passing p n)) same ∙ by_test (ih k) (q n)
      where
        by_test : length (passing p n) ≡ suc (length (passing q n)) → (b : Bool)
            → length (if b then n ∷ passing p n else passing p n) ≡ suc (length (if b then n ∷ passing q n else passing q n))
        by_test e true = ap suc e
        by_test e false = e
    by_place ih (inr (inr k)) = absurd (omega (arith, l, k))
