-- One step of loops over lists and numbers.
use Rattle.std.proofs.Common.{ℕ, zero, suc, ◌≡◌, ◌≤◌, ◌<◌, ◌+◌, ◌∙◌, Bool, true, false, List, [], ◌∷◌, ◌++◌, length, get_or, take, drop, map, sym, ap, arith, append-nil, append_assoc, set}
use Rattle.std.specs.List.{filter, flat_map}
use Rattle.std.proofs.lemmas.List.{take_more, take_all, drop_all, drop_more, map_more, map-append, length-map, length-take-le, get_or_at, set_at}
use Rattle.std.proofs.lemmas.List.Elements.{filter-append}
use Rattle.std.proofs.lemmas.Grind.{flat_map-append}
use Rattle.pif_posix_steps.specs.Doing.{passing}

-- a loop that changes each item has changed all
pub all_changed : {A : Type 0} (f : A → A) (xs ys : List A) (i : ℕ) → length xs ≤ i → ys ≡ map f (take i xs) ++ drop i xs → ys ≡ map f xs
all_changed f xs ys i h e =
    e ∙ ap (λ zs. map f (take i xs) ++ zs) (drop_all i xs h) ∙ append-nil (map f (take i xs)) ∙ ap (map f) (take_all i xs h)

-- it changes one more
pub changed_more : {A : Type 0} (f : A → A) (xs ys : List A) (i : ℕ) (old new : A) → i < length xs → ys ≡ map f (take i xs) ++ drop i xs
    → new ≡ f (get_or ys i old) → set ys i new ≡ map f (take (i + 1) xs) ++ drop (i + 1) xs
changed_more f xs ys i old new lt e h =
    let n : length (map f (take i xs)) ≡ i = length-map (take i xs) f ∙ length-take-le i xs (omega arith) in
    let k : ys ≡ map f (take i xs) ++ get_or xs i old ∷ drop (i + 1) xs = e ∙ ap (λ zs. map f (take i xs) ++ zs) (drop_more xs i old lt) in
    let o : get_or ys i old ≡ get_or xs i old = ap (λ zs. get_or zs i old) k ∙ get_or_at (map f (take i xs)) (get_or xs i old) (drop (i + 1) xs) old i n in
    ap (λ zs. set zs i new) k ∙ set_at (map f (take i xs)) (get_or xs i old) (drop (i + 1) xs) new i n
    ∙ ap (λ x. map f (take i xs) ++ x ∷ drop (i + 1) xs) (h ∙ ap f o)
    ∙ sym (ap (λ zs. zs ++ drop (i + 1) xs) (map_more f xs i old lt) ∙ append_assoc (map f (take i xs)) (f (get_or xs i old) ∷ []) (drop (i + 1) xs))

-- OVER NUMBERS, FROM BEHIND

pub each_done : {A : Type 0} (f : ℕ → List A) (test : ℕ → Bool) (n : ℕ) (xs all : List A) → n ≡ 0 → xs ++ flat_map f (passing test n) ≡ all → xs ≡ all
each_done f test zero xs all e h = sym (append-nil xs) ∙ h
each_done f test (suc n) xs all e h = absurd (omega arith)

-- one number more, for which a list is made
pub each_more : {A : Type 0} (f : ℕ → List A) (test : ℕ → Bool) (j n : ℕ) (xs ys all : List A) → j ≡ suc n → test n ≡ true
    → ys ≡ xs ++ f n → xs ++ flat_map f (passing test j) ≡ all → ys ++ flat_map f (passing test n) ≡ all
each_more f test j n xs ys all s t e h =
    let passes : flat_map f (passing test (suc n)) ≡ f n ++ flat_map f (passing test n) = rw t in
    ap (λ zs. zs ++ flat_map f (passing test n)) e ∙ append_assoc xs (f n) (flat_map f (passing test n))
    ∙ ap (λ zs. xs ++ zs) (sym (ap (λ (k : ℕ). flat_map f (passing test k)) s ∙ passes)) ∙ h

-- OVER A LIST, FROM THE FRONT

-- one item more, for which a list is made
pub item_more : {A B : Type 0} (f : A → List B) (xs : List A) (i : ℕ) (d : A) (bs cs : List B) → i < length xs
    → bs ≡ flat_map f (take i xs) → cs ≡ bs ++ f (get_or xs i d) → cs ≡ flat_map f (take (i + 1) xs)
item_more f xs i d bs cs lt e g =
    g ∙ ap (λ zs. zs ++ f (get_or xs i d)) e
    ∙ sym (ap (flat_map f) (take_more xs i d lt) ∙ flat_map-append f (take i xs) (get_or xs i d ∷ [])
    ∙ ap (λ zs. flat_map f (take i xs) ++ zs) (append-nil (f (get_or xs i d))))

module _ {A : Type 0} (f : ℕ → A) (test : ℕ → Bool) (us : List ℕ) (i : ℕ) (lt : i < length us) where
  step : (rest : List ℕ) → filter test (get_or us i 0 ∷ []) ≡ rest → map f (filter test (take (i + 1) us)) ≡ map f (filter test (take i us)) ++ map f rest
  step rest e =
      ap (λ (xs : List ℕ). map f (filter test xs)) (take_more us i 0 lt)
      ∙ ap (map f) (filter-append test (take i us) (get_or us i 0 ∷ []))
      ∙ ap (λ (xs : List ℕ). map f (filter test (take i us) ++ xs)) e
      ∙ map-append f (filter test (take i us)) rest

  -- the item passes the test
  pub kept_more : test (get_or us i 0) ≡ true
      → map f (filter test (take (i + 1) us)) ≡ map f (filter test (take i us)) ++ f (get_or us i 0) ∷ []
  kept_more e = step (get_or us i 0 ∷ []) (rw e)

  -- it doesn't
  pub kept_same : test (get_or us i 0) ≡ false → map f (filter test (take (i + 1) us)) ≡ map f (filter test (take i us))
  kept_same e = step [] (rw e) ∙ append-nil (map f (filter test (take i us)))
