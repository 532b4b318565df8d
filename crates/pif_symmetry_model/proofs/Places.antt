-- Lists by other names: what is written to both, and what is read.
use Rattle.std.proofs.Common.{ℕ, ◌≡◌, ◌≤◌, ◌<◌, ◌∙◌, ◌⊎◌, List, length, get_or, set, sym, ap, subst, inl, inr, arith}
use Rattle.std.proofs.lemmas.Bool.{cases_eq, cases_lt}
use Rattle.std.proofs.lemmas.List.{get_or-set_same, get_or-set_other, length-set}
use Rattle.pif_symmetry_model.specs.Symmetry.{IsMoved}
use Rattle.pif_symmetry_model.proofs.Changes.{set_beyond}

module _ {A : Type 0} (f : ℕ → ℕ) (one : (a b : ℕ) → f a ≡ f b → a ≡ b) (d : A) (h : A → A) (xs ys : List A) (m : IsMoved f d h xs ys) where
  module _ (t : ℕ) (y z : A) (e : z ≡ h y) where
    inside : (t < length xs) ⊎ (length xs ≤ t) → get_or (set ys (f t) z) (f t) d ≡ h (get_or (set xs t y) t d)
    inside (inl l) =
        get_or-set_same ys (f t) z d (subst (λ n. f t < n) (sym m.size) (m.within t l)) ∙ e ∙ ap h (sym (get_or-set_same xs t y d l))
    inside (inr l) =
        let beyond : length ys ≤ f t =
        elim (cases_lt (f t) (length xs)) [
          | inl k ↦ absurd (let i : t < length xs = m.back_within t k in omega (arith, i, l))
          | inr k ↦ subst (λ n. n ≤ f t) (sym m.size) k
        ] in
        set_beyond ys (f t) z d beyond ∙ m.place t ∙ ap h (sym (set_beyond xs t y d l))

    -- the same is written to both
    pub moved_set : IsMoved f d h (set xs t y) (set ys (f t) z)
    moved_set = record {
      size = length-set ys (f t) z ∙ m.size ∙ sym (length-set xs t y);
      within = λ u l. subst (λ n. f u < n) (sym (length-set xs t y)) (m.within u (subst (λ n. u < n) (length-set xs t y) l));
      back_within = λ u l. subst (λ n. u < n) (sym (length-set xs t y)) (m.back_within u (subst (λ n. f u < n) (length-set xs t y) l));
      place = λ u. elim (cases_eq u t) [
        | inl is ↦ subst (λ n. get_or (set ys (f t) z) (f n) d ≡ h (get_or (set xs t y) n d)) (sym is) (inside (cases_lt t (length xs)))
        | inr ne ↦ get_or-set_other ys (f t) (f u) z d (λ k. ne (one u t k)) ∙ m.place u ∙ ap h (sym (get_or-set_other xs t u y d ne))
      ];
    }
