-- Texts of lists, one member after the other.
use Rattle.std.proofs.Common.{◌≡◌, ℕ, zero, suc, ◌+◌, ◌-◌, ◌<◌, Bool, true, false, List, [], ◌∷◌, ◌++◌, refl, sym, ap, ◌∙◌, take, length, get_or, map, add-one, append-nil, append_assoc, arith}
use Rattle.std.specs.Prelude.{◌==◌, codes, flat_map}
use Rattle.std.specs.List.{list_any}
use Rattle.std.proofs.lemmas.Bool.{or_from, or_left, or_right}
use Rattle.std.proofs.lemmas.Bool.Decides.{nat_tests}
use Rattle.std.proofs.lemmas.List.{flat_map_more, map_push, take_more}
use Rattle.std.proofs.lemmas.List.Folds.{list_any-append}
use Rattle.pif_text.specs.Json.{numbers}
use Rattle.pif_text_core.specs.Texts.{front_of, listed}

-- whether a list has no member
abbrev pub is_nil : {A : Type 0} → List A → Bool
is_nil [] = true
is_nil (x ∷ xs) = false

pub flat_snoc : {A : Type 0} (f : A → List ℕ) (xs : List A) (x : A) → flat_map f (xs ++ x ∷ []) ≡ flat_map f xs ++ f x
flat_snoc f xs x = sym (flat_map_more f [] xs x)

pub listed_snoc : (head : List ℕ) (xs : List (List ℕ)) (x : List ℕ)
    → listed head (xs ++ x ∷ []) ≡ listed head xs ++ (front_of head (is_nil xs) ++ x)
listed_snoc head [] x = append-nil (head ++ x)
listed_snoc head (y ∷ ys) x = sym (flat_map_more (λ z. codes ", " ++ z) (head ++ y) ys x)

pub nil_map : {A : Type 0} (f : A → List ℕ) (xs : List A) → is_nil (map f xs) ≡ is_nil xs
nil_map f [] = refl
nil_map f (x ∷ xs) = refl

nil_take : {A : Type 0} (us : List A) (place : ℕ) → place < length us → is_nil (take place us) ≡ (place == 0)
nil_take us zero lt = refl
nil_take [] (suc place) lt = absurd (omega arith)
nil_take (u ∷ us) (suc place) lt = sym (later place)
  where
    later : (n : ℕ) → (suc n == 0) ≡ false
    later n = grind (arith, nat_tests)

-- one member more of those that stand in a list
pub listed_next : (f : ℕ → List ℕ) (head : List ℕ) (us : List ℕ) (place : ℕ) → place < length us
    → listed head (map f (take place us)) ++ (front_of head (place == 0) ++ f (get_or us place 0))
    ≡ listed head (map f (take (place + 1) us))
listed_next f head us place lt =
    let u = get_or us place 0 in
    let grown : map f (take (place + 1) us) ≡ map f (take place us) ++ f u ∷ []
    = ap (map f) (take_more us place 0 lt) ∙ map_push f (take place us) u in
    let first : is_nil (map f (take place us)) ≡ (place == 0) = nil_map f (take place us) ∙ nil_take us place lt in
    sym (ap (listed head) grown ∙ listed_snoc head (map f (take place us)) (f u)
    ∙ ap (λ b. listed head (map f (take place us)) ++ (front_of head b ++ f u)) first)

-- ---- numbers

pub numbers_next : (n : ℕ) → numbers (n + 1) ≡ numbers n ++ (n + 1) ∷ []
unfolding numbers
numbers_next n = rw add-one refl

-- the lines of so many, one more
pub flat_next : (line : ℕ → List ℕ) (n : ℕ)
    → flat_map line (numbers n) ++ line (n + 1) ≡ flat_map line (numbers (n + 1))
flat_next line n = sym (flat_snoc line (numbers n) (n + 1)) ∙ ap (flat_map line) (sym (numbers_next n))

pub flat_none : (line : ℕ → List ℕ) → [] ≡ flat_map line (numbers 0)
unfolding numbers
flat_none line = refl

pub numbers_none : numbers 0 ≡ []
unfolding numbers
numbers_none = refl

-- those up to a number, and the others
numbers_split : (n k : ℕ) → (rest : List ℕ) × (numbers (n + k) ≡ numbers n ++ rest)
numbers_split n zero = let e : n + zero ≡ n = omega arith in ([], ap numbers e ∙ sym (append-nil (numbers n)))
numbers_split n (suc k) =
    let front = numbers_split n k in
    let last = ((n + k) + 1) ∷ [] in
    let e : n + suc k ≡ (n + k) + 1 = omega arith in (
      front.0 ++ last,
      ap numbers e ∙ numbers_next (n + k) ∙ ap (λ l. l ++ last) front.1 ∙ append_assoc (numbers n) front.0 last,
    )

-- ---- whether one of so many numbers meets a test

pub any_none : (p : ℕ → Bool) → list_any p (numbers 0) ≡ false
unfolding numbers
any_none p = refl

-- none so far, and not the next one
pub any_next : (p : ℕ → Bool) (n : ℕ) → list_any p (numbers n) ≡ false → p (n + 1) ≡ false
    → list_any p (numbers (n + 1)) ≡ false
any_next p n e f =
    ap (list_any p) (numbers_next n) ∙ list_any-append p (numbers n) ((n + 1) ∷ []) ∙ or_from _ _ e (or_from _ _ f refl)

-- one of them does
pub any_found : (p : ℕ → Bool) (n most : ℕ) → n < most → p (n + 1) ≡ true → list_any p (numbers most) ≡ true
any_found p n most lt e =
    let split = numbers_split (n + 1) (most - (n + 1)) in
    let same : most ≡ (n + 1) + (most - (n + 1)) = omega (arith, lt) in
    let here : list_any p (numbers (n + 1)) ≡ true
    = ap (list_any p) (numbers_next n) ∙ list_any-append p (numbers n) ((n + 1) ∷ []) ∙ or_right _ _ (or_left _ _ e) in
    ap (λ k. list_any p (numbers k)) same ∙ ap (list_any p) split.1 ∙ list_any-append p (numbers (n + 1)) split.0
    ∙ or_left _ _ here
