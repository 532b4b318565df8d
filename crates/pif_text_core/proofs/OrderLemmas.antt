-- The threads of an order in two cores, compared one by one.
use Rattle.std.proofs.Common.{◌≡◌, ℕ, zero, suc, ◌+◌, ◌<◌, ◌≤◌, true, false, List, [], ◌∷◌, Option, Some, None, refl, sym, ap, ◌∙◌, subst, take, length, arith}
use Rattle.std.specs.Prelude.{nat_eq, is_some}
use Rattle.std.specs.Cmp.Lexicographic.{pointwise}
use Rattle.std.specs.List.{slice_get}
use Rattle.std.specs.Option.{option_eq}
use Rattle.std.proofs.lemmas.Bool.{false_from_ne_true}
use Rattle.std.proofs.lemmas.Bool.Decides.{Decides-eqb}
use Rattle.std.proofs.lemmas.List.{take_all, take_more_same}
use Rattle.std.proofs.lemmas.Option.{get_or_from_slice_get, slice_get_within}
use Rattle.std.proofs.lemmas.Slice.Eq.{bytes_eq-Decides}

apart : true ≡ false → ⊥
apart = λ e. absurd (cc)

same_option : (p q : Option ℕ) → option_eq nat_eq p q ≡ true → p ≡ q
same_option None None e = refl
same_option None (Some y) e = absurd (cc)
same_option (Some x) None e = absurd (cc)
same_option (Some x) (Some y) e = ap (λ z. Some z) ((Decides-eqb x y).0 e)

itself : (p : Option ℕ) → option_eq nat_eq p p ≡ true
itself None = refl
itself (Some x) = (Decides-eqb x x).1 refl

get_take : (us : List ℕ) (n place : ℕ) → place < n → slice_get (take n us) place ≡ slice_get us place
get_take us zero place lt = absurd (omega (arith, lt))
get_take [] (suc n) place lt = refl
get_take (u ∷ us) (suc n) zero lt = refl
get_take (u ∷ us) (suc n) (suc place) lt = get_take us n place (omega (arith, lt))

past : (us : List ℕ) (place : ℕ) → is_some (slice_get us place) ≡ false → length us ≤ place
past [] place e = omega arith
past (u ∷ us) zero e = absurd (cc)
past (u ∷ us) (suc place) e = let le = past us place e in omega (arith, le)

module _ (us vs : List ℕ) (place : ℕ) (so_far : take place us ≡ take place vs) where
  abbrev same_here : Type 0
  same_here = option_eq nat_eq (slice_get us place) (slice_get vs place) ≡ true

  -- the same threads up to this place, and one more
  pub same_next : same_here → is_some (slice_get vs place) ≡ true → take (place + 1) us ≡ take (place + 1) vs
  same_next e f = by_case (slice_get vs place) refl (same_option _ _ e) f
    where
      by_case : (o : Option ℕ) → slice_get vs place ≡ o → slice_get us place ≡ slice_get vs place → is_some o ≡ true
          → take (place + 1) us ≡ take (place + 1) vs
      by_case None a b g = absurd (apart (sym g))
      by_case (Some x) a b g =
          take_more_same us vs place 0 (slice_get_within us place x (b ∙ a)) (slice_get_within vs place x a) so_far
          (get_or_from_slice_get us place x 0 (b ∙ a) ∙ sym (get_or_from_slice_get vs place x 0 a))

  -- no more threads
  pub same_ended : (n : ℕ) → same_here → is_some (slice_get vs place) ≡ false
      → true ≡ pointwise nat_eq (take n us) (take n vs)
  same_ended n e f =
      let none : is_some (slice_get us place) ≡ false = ap (λ o. is_some o) (same_option _ _ e) ∙ f in
      let same : us ≡ vs
      = sym (take_all place us (past us place none)) ∙ so_far ∙ take_all place vs (past vs place f) in
      sym ((bytes_eq-Decides (take n us) (take n vs)).1 (ap (take n) same))

-- another thread at a place that is told
pub differs_at : (us vs : List ℕ) (n place : ℕ) → place < n
    → option_eq nat_eq (slice_get us place) (slice_get vs place) ≡ false → false ≡ pointwise nat_eq (take n us) (take n vs)
differs_at us vs n place lt e = sym (false_from_ne_true (pointwise nat_eq (take n us) (take n vs)) all_same)
  where
    all_same : pointwise nat_eq (take n us) (take n vs) ≡ true → ⊥
    all_same f =
        let lists = (bytes_eq-Decides (take n us) (take n vs)).0 f in
        let here : slice_get us place ≡ slice_get vs place
        = sym (get_take us n place lt) ∙ ap (λ l. slice_get l place) lists ∙ get_take vs n place lt in
        apart (sym (itself (slice_get us place)) ∙ ap (λ o. option_eq nat_eq (slice_get us place) o) here ∙ e)

-- the same threads at each place
pub same_all : (us vs : List ℕ) (n place : ℕ) → place ≡ n → take place us ≡ take place vs
    → true ≡ pointwise nat_eq (take n us) (take n vs)
same_all us vs n place e f =
    sym ((bytes_eq-Decides (take n us) (take n vs)).1 (subst (λ k. take k us ≡ take k vs) e f))
