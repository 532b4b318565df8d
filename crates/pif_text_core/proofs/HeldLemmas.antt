-- The mutexes that a thread holds, one after the other.
use Rattle.std.proofs.Common.{◌≡◌, ℕ, ◌+◌, Bool, true, false, cond, List, [], ◌∷◌, ◌++◌, refl, sym, ap, ◌∙◌, map, append-nil}
use Rattle.std.specs.Prelude.{◌&&◌, not, codes, filter}
use Rattle.std.proofs.lemmas.List.{map_push}
use Rattle.pif_model.specs.Table.{Table}
use Rattle.pif_text.specs.Json.{numbers}
use Rattle.pif_text_core.specs.Waiting.{has}
use Rattle.pif_text_core.specs.Texts.{front_of, held_name, held_text, listed}
use Rattle.pif_text_core.proofs.ListLemmas.{is_nil, listed_snoc, nil_map, numbers_next}

filter_snoc : (p : ℕ → Bool) (ns : List ℕ) (n : ℕ)
    → filter p (ns ++ n ∷ []) ≡ filter p ns ++ cond (p n) (n ∷ []) []
filter_snoc p [] n = refl
filter_snoc p (m ∷ ns) n = by_test (p m) (filter_snoc p ns n)
  where
    by_test : (t : Bool) → filter p (ns ++ n ∷ []) ≡ filter p ns ++ cond (p n) (n ∷ []) []
        → cond t (m ∷ filter p (ns ++ n ∷ [])) (filter p (ns ++ n ∷ []))
        ≡ cond t (m ∷ filter p ns) (filter p ns) ++ cond (p n) (n ∷ []) []
    by_test true h = ap (λ l. m ∷ l) h
    by_test false h = h

nil_snoc : (xs : List ℕ) (x : ℕ) → is_nil (xs ++ x ∷ []) ≡ false
nil_snoc [] x = refl
nil_snoc (y ∷ ys) x = refl

module _ (t : ℕ) (s : Table) (n : ℕ) (b : Bool) (first : b ≡ is_nil (filter (has t s) (numbers n))) where
  abbrev held : List ℕ
  held = filter (has t s) (numbers n)

  more : filter (has t s) (numbers (n + 1)) ≡ held ++ cond (has t s (n + 1)) ((n + 1) ∷ []) []
  more = ap (filter (has t s)) (numbers_next n) ∙ filter_snoc (has t s) (numbers n) (n + 1)

  -- whether there is one so far
  pub first_next : (b && not (has t s (n + 1))) ≡ is_nil (filter (has t s) (numbers (n + 1)))
  first_next = by_test (has t s (n + 1)) ∙ ap is_nil (sym more)
    where
      by_test : (x : Bool) → (b && not x) ≡ is_nil (held ++ cond x ((n + 1) ∷ []) [])
      by_test true = none b ∙ sym (nil_snoc held (n + 1))
        where
          none : (b : Bool) → (b && false) ≡ false
          none true = refl
          none false = refl
      by_test false = all b ∙ first ∙ ap is_nil (sym (append-nil held))
        where
          all : (b : Bool) → (b && true) ≡ b
          all true = refl
          all false = refl

  -- the text of those so far, and the next one if the thread holds it
  pub held_next : held_text t s n
      ++ cond (has t s (n + 1)) (front_of (codes "; holds ") b ++ held_name s (n + 1)) [] ≡ held_text t s (n + 1)
  unfolding held_text
  held_next =
      by_test (has t s (n + 1)) ∙ ap (λ l. listed (codes "; holds ") (map (held_name s) l)) (sym more)
    where
      by_test : (x : Bool) → listed (codes "; holds ") (map (held_name s) held)
          ++ cond x (front_of (codes "; holds ") b ++ held_name s (n + 1)) []
          ≡ listed (codes "; holds ") (map (held_name s) (held ++ cond x ((n + 1) ∷ []) []))
      by_test true =
          ap (λ c. listed (codes "; holds ") (map (held_name s) held) ++ (front_of (codes "; holds ") c ++ held_name s (n + 1)))
          (first ∙ sym (nil_map (held_name s) held))
          ∙ sym (listed_snoc (codes "; holds ") (map (held_name s) held) (held_name s (n + 1)))
          ∙ ap (listed (codes "; holds ")) (sym (map_push (held_name s) held (n + 1)))
      by_test false =
          append-nil (listed (codes "; holds ") (map (held_name s) held))
          ∙ ap (λ l. listed (codes "; holds ") (map (held_name s) l)) (sym (append-nil held))
