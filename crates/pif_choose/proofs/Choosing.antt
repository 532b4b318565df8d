-- Who is found is among those who can go.
use Rattle.std.proofs.Common.{◌≡◌, ℕ, suc, ◌%◌, ◌<◌, Bool, true, false, if◌then◌else◌, ◌∙◌, List, [], ◌∷◌, Option, Some, None, length, slice_get, slice_index_or, refl, sym, subst, ap, arith}
use Rattle.std.specs.List.{Contains}
use Rattle.std.specs.Option.{option_map}
use Rattle.std.proofs.lemmas.Option.{slice_get-map, slice_get-get_or, slice_get_within, get_or_from_slice_get}
use Rattle.pif_choose.specs.declared.choice.Candidate.{Candidate}
use Rattle.pif_choose.specs.declared.choice.Strategy.TheVariants.{Stay, Drawn}
use Rattle.pif_choose.specs.declared.choice.Sought.{Sought}
use Rattle.pif_choose.specs.declared.choice.Sought.TheVariants.{Thread, Above, Any}
use Rattle.pif_choose.specs.Choices.{threads_of, is_sought, first_with, or_else, who_stays, IsChoice}

contains-front : (t : ℕ) (ts : List ℕ) → Contains (t ∷ ts) t
contains-front t ts = let lt : 0 < length (t ∷ ts) = omega arith in (0, lt, refl)

contains-behind : (t u : ℕ) (ts : List ℕ) → Contains ts t → Contains (u ∷ ts) t
contains-behind t u ts h =
    let within : h.0 < length ts = h.1 in
    let lt : suc h.0 < length (u ∷ ts) = omega arith in
    (suc h.0, lt, h.2)

-- who is found is there
pub first_with-contained : (sought : Sought) (ts : List ℕ) (t : ℕ) → first_with sought ts ≡ Some t → Contains ts t
first_with-contained sought [] t e = absurd (cc)
first_with-contained sought (u ∷ ts) t e =
    let P : Bool → Type 0 = λ b. (if b then Some u else first_with sought ts) ≡ Some t → Contains (u ∷ ts) t in
    (elim (is_sought sought u) as P [
      | true ↦ λ f. let same : u ≡ t = cc in subst (λ (x : ℕ). Contains (u ∷ ts) x) same (contains-front u ts)
      | false ↦ λ f. contains-behind t u ts (first_with-contained sought ts t f)
    ]) e

-- who stays is there
pub who_stays-contained : (present : ℕ) (ts : List ℕ) (t : ℕ) → who_stays present ts ≡ Some t → Contains ts t
who_stays-contained present ts t e =
    cases (first_with (Thread present) ts) refl e
  where
    behind_it : (o : Option ℕ) → first_with (Above present) ts ≡ o → or_else o (first_with Any ts) ≡ Some t → Contains ts t
    behind_it (Some u) f g = first_with-contained (Above present) ts t (let same : Some u ≡ Some t = g in cc)
    behind_it None f g = first_with-contained Any ts t g

    cases : (o : Option ℕ) → first_with (Thread present) ts ≡ o → or_else o (or_else (first_with (Above present) ts) (first_with Any ts)) ≡ Some t → Contains ts t
    cases (Some u) f g = first_with-contained (Thread present) ts t (let same : Some u ≡ Some t = g in cc)
    cases None f g = behind_it (first_with (Above present) ts) refl g

-- if any would do and nobody is found, there is nobody
pub first_with-nobody : (can : List Candidate) → first_with Any (threads_of can) ≡ None → can ≡ []
first_with-nobody [] e = refl
first_with-nobody (c ∷ can) e = absurd (cc)

-- THE CHOICES

-- the present thread
pub stays-present : (present : ℕ) (can : List Candidate) (o : Option ℕ) (t : ℕ) → o ≡ first_with (Thread present) (threads_of can) → o ≡ Some t
    → IsChoice (Stay present) can (Some t)
stays-present present can o t e is =
    let found : first_with (Thread present) (threads_of can) ≡ Some t = sym e ∙ is in
    let chosen : who_stays present (threads_of can) ≡ Some t =
    ap (λ (x : Option ℕ). or_else x (or_else (first_with (Above present) (threads_of can)) (first_with Any (threads_of can)))) found in
    (who_stays-contained present (threads_of can) t chosen, chosen)

-- who goes if it can't
stays-absent : (present : ℕ) (can : List Candidate) (o : Option ℕ) → o ≡ first_with (Thread present) (threads_of can) → o ≡ None
    → who_stays present (threads_of can) ≡ or_else (first_with (Above present) (threads_of can)) (first_with Any (threads_of can))
stays-absent present can o e is =
    ap (λ (x : Option ℕ). or_else x (or_else (first_with (Above present) (threads_of can)) (first_with Any (threads_of can)))) (sym e ∙ is)

-- the next one
pub stays-next : (present : ℕ) (can : List Candidate) (o p : Option ℕ) (t : ℕ) → o ≡ first_with (Thread present) (threads_of can) → o ≡ None
    → p ≡ first_with (Above present) (threads_of can) → p ≡ Some t → IsChoice (Stay present) can (Some t)
stays-next present can o p t e is f found =
    let chosen : who_stays present (threads_of can) ≡ Some t =
    stays-absent present can o e is ∙ ap (λ (x : Option ℕ). or_else x (first_with Any (threads_of can))) (sym f ∙ found) in
    (who_stays-contained present (threads_of can) t chosen, chosen)

-- the first
pub stays-first : (present : ℕ) (can : List Candidate) (o p q : Option ℕ) → o ≡ first_with (Thread present) (threads_of can) → o ≡ None
    → p ≡ first_with (Above present) (threads_of can) → p ≡ None → q ≡ first_with Any (threads_of can) → IsChoice (Stay present) can q
stays-first present can o p (Some t) e is f none g =
    let chosen : who_stays present (threads_of can) ≡ Some t =
    stays-absent present can o e is ∙ ap (λ (x : Option ℕ). or_else x (first_with Any (threads_of can))) (sym f ∙ none) ∙ sym g in
    (who_stays-contained present (threads_of can) t chosen, chosen)
stays-first present can o p None e is f none g = first_with-nobody can (sym g)

-- the one at a place that was drawn
pub drawn-chosen : (can : List Candidate) (number : ℕ) (d : Candidate) → 0 < length can
    → IsChoice (Drawn number) can (Some (slice_index_or can (number % length can) d).thread)
drawn-chosen can number d some =
    let lt : number % length can < length can = omega arith in
    let there : slice_get (threads_of can) (number % length can) ≡ Some (slice_index_or can (number % length can) d).thread =
    slice_get-map (λ (c : Candidate). c.thread) can (number % length can)
    ∙ ap (option_map (λ (c : Candidate). c.thread)) (slice_get-get_or can (number % length can) d lt) in (
      (
        number % length can,
        slice_get_within (threads_of can) (number % length can) _ there,
        get_or_from_slice_get (threads_of can) (number % length can) _ _ there,
      ),
      there,
    )
