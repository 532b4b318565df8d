-- Lists of texts with commas between them, one more each time.
use Rattle.std.proofs.Common.{◌≡◌, ℕ, suc, ◌+◌, ◌≤◌, Bool, true, false, List, [], ◌∷◌, ◌++◌, take, Some, None, refl, sym, ap, ◌∙◌, inl, inr, append-nil, append_assoc, add-one, arith}
use Rattle.std.specs.Prelude.{filter, map}
use Rattle.std.specs.List.{join_with_byte, slice_get}
use Rattle.std.proofs.lemmas.List.{map-append, take_all, take_more}
use Rattle.std.proofs.lemmas.Option.{get_or_from_slice_get, slice_get_cases, slice_get_within}
use Rattle.pif_text.specs.Json.{numbers, separated}

-- what stands before the next of these texts
pub comma_behind : List (List ℕ) → List ℕ
comma_behind [] = []
comma_behind (text ∷ texts) = 44 ∷ []

pub comma_first : comma_behind [] ≡ []
unfolding comma_behind
comma_first = refl

pub separated_none : separated [] ≡ []
unfolding separated
separated_none = refl

-- behind a text there is a comma
pub comma_next : (texts : List (List ℕ)) (text : List ℕ) → comma_behind (texts ++ text ∷ []) ≡ 44 ∷ []
unfolding comma_behind
comma_next [] text = refl
comma_next (x ∷ texts) text = refl

-- one text more
pub separated_more : (texts : List (List ℕ)) (text : List ℕ)
    → separated (texts ++ text ∷ []) ≡ (separated texts ++ comma_behind texts) ++ text
unfolding separated comma_behind
separated_more [] text = refl
separated_more (x ∷ []) text = sym (append_assoc x (44 ∷ []) text)
separated_more (x ∷ y ∷ texts) text =
    ap (λ z. x ++ 44 ∷ z) (separated_more (y ∷ texts) text)
    ∙ ap (λ z. x ++ 44 ∷ z) (append_assoc (join_with_byte 44 (y ∷ texts)) (44 ∷ []) text)
    ∙ sym (append_assoc x (44 ∷ join_with_byte 44 (y ∷ texts)) ((44 ∷ []) ++ text))
    ∙ sym (append_assoc (x ++ 44 ∷ join_with_byte 44 (y ∷ texts)) (44 ∷ []) text)

-- ---- things with numbers

module _ (text : ℕ → List ℕ) (stands : ℕ → Bool) where
  -- the texts of those that stand in a list and have at most this number
  pub texts_to : ℕ → List (List ℕ)
  texts_to n = map text (filter stands (numbers n))

  pub texts_none : texts_to 0 ≡ []
  unfolding texts_to numbers
  texts_none = refl

  pub texts_whole : (n : ℕ) → texts_to n ≡ map text (filter stands (numbers n))
  unfolding texts_to
  texts_whole n = refl

  filter_more : (ns : List ℕ) (n : ℕ) (b : Bool) → stands n ≡ b
      → map text (filter stands (ns ++ n ∷ []))
      ≡ map text (filter stands ns) ++ elim b [ true ↦ text n ∷ [] | false ↦ [] ]
  filter_more [] n true e = rw e refl
  filter_more [] n false e = rw e refl
  filter_more (m ∷ ns) n b e = by_test (stands m) refl (filter_more ns n b e)
    where
      by_test : (c : Bool) → stands m ≡ c
          → map text (filter stands (ns ++ n ∷ []))
          ≡ map text (filter stands ns) ++ elim b [ true ↦ text n ∷ [] | false ↦ [] ]
          → map text (filter stands (m ∷ ns ++ n ∷ []))
          ≡ map text (filter stands (m ∷ ns)) ++ elim b [ true ↦ text n ∷ [] | false ↦ [] ]
      by_test true f more = rw f (ap (λ z. text m ∷ z) more)
      by_test false f more = rw f more

  -- the next one stands there
  pub texts_in : (n : ℕ) → stands (n + 1) ≡ true → texts_to (n + 1) ≡ texts_to n ++ text (n + 1) ∷ []
  unfolding texts_to numbers
  texts_in n e = rw add-one (filter_more (numbers n) (suc n) true (rw (sym (add-one n)) e))

  -- the next one doesn't
  pub texts_out : (n : ℕ) → stands (n + 1) ≡ false → texts_to (n + 1) ≡ texts_to n
  unfolding texts_to numbers
  texts_out n e =
      rw add-one (filter_more (numbers n) (suc n) false (rw (sym (add-one n)) e) ∙ append-nil (texts_to n))

  -- a list to which the next text was appended, behind what has to stand before it
  pub list_on : (before whole comma : List ℕ) (n : ℕ) → stands (n + 1) ≡ true
      → whole ≡ before ++ separated (texts_to n) → comma ≡ comma_behind (texts_to n)
      → (whole ++ comma) ++ text (n + 1) ≡ before ++ separated (texts_to (n + 1))
  list_on before whole comma n e w c =
      rw (w, c, texts_in n e, separated_more (texts_to n) (text (n + 1))) (simp append_assoc)

  pub comma_on : (n : ℕ) → stands (n + 1) ≡ true → 44 ∷ [] ≡ comma_behind (texts_to (n + 1))
  comma_on n e = rw (texts_in n e) (sym (comma_next (texts_to n) (text (n + 1))))

  -- at first nothing was appended
  pub list_start : (before : List ℕ) → before ≡ before ++ separated (texts_to 0)
  list_start before = sym (rw (texts_none, separated_none) (append-nil before))

  pub comma_start : [] ≡ comma_behind (texts_to 0)
  comma_start = sym (rw texts_none comma_first)

-- ---- sequences

module _ (all : List ℕ) where
  -- the first of a sequence, and the next one
  pub take_next : (place t : ℕ) → slice_get all place ≡ Some t → take (place + 1) all ≡ take place all ++ t ∷ []
  take_next place t e =
      take_more all place t (slice_get_within all place t e)
      ∙ ap (λ x. take place all ++ x ∷ []) (get_or_from_slice_get all place t t e)

  -- nothing is left
  pub take_out : (place most : ℕ) → place ≤ most → slice_get all place ≡ None → take place all ≡ take most all
  take_out place most l e = elim (slice_get_cases all place).1 [
    | inl h ↦ absurd (none_some (sym e ∙ h.2))
    | inr h ↦ take_all place all h.0 ∙ sym (take_all most all (le_trans h.0 l))
  ]
    where
      none_some : {x : ℕ} → None ≡ Some x → ⊥
      none_some n = cc

      le_trans : {a b c : ℕ} → a ≤ b → b ≤ c → a ≤ c
      le_trans p q = omega arith

module _ (text : ℕ → List ℕ) (all : List ℕ) where
  -- at first nothing is appended
  pub order_start : (before : List ℕ) → before ≡ before ++ separated (map text (take 0 all))
  order_start before = sym (rw separated_none (append-nil before))

  pub order_comma_start : [] ≡ comma_behind (map text (take 0 all))
  order_comma_start = sym comma_first

  -- the next one, behind what has to stand before it
  pub order_on : (before whole comma : List ℕ) (place t : ℕ) → slice_get all place ≡ Some t
      → whole ≡ before ++ separated (map text (take place all)) → comma ≡ comma_behind (map text (take place all))
      → (whole ++ comma) ++ text t ≡ before ++ separated (map text (take (place + 1) all))
  order_on before whole comma place t e w c =
      rw (
        w,
        c,
        take_next all place t e,
        map-append text (take place all) (t ∷ []),
        separated_more (map text (take place all)) (text t),
      ) (simp append_assoc)

  pub order_comma : (place t : ℕ) → slice_get all place ≡ Some t
      → 44 ∷ [] ≡ comma_behind (map text (take (place + 1) all))
  order_comma place t e =
      rw (take_next all place t e, map-append text (take place all) (t ∷ []))
      (sym (comma_next (map text (take place all)) (text t)))
