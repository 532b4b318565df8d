-- Who stands on which level once a thread has joined a level or left its own.
use Rattle.std.proofs.Common.{◌≡◌, ◌≢◌, ◌⊎◌, ℕ, ◌≤◌, Bool, true, false, ◌==◌, eqb, [], ◌∷◌, ◌++◌, filter, length, refl, sym, ap, ◌∙◌, subst, arith, if◌then◌else◌, eq-eqb, ne_eqb, inl, inr}
use Rattle.std.specs.List.{IsDistinct}
use Rattle.std.proofs.lemmas.Bool.{cases_eq}
use Rattle.pif_model.specs.PiKernel.{Kernel, seat_at, has_seat, is_ready, is_among, level_at, levels_with, levels_without}
use Rattle.pif_model_lemmas.proofs.kernel.Numbers.{is_other, among-push_other, among-push_same, among-left_same, among-left_other, distinct-push, distinct-filter}
use Rattle.pif_model_lemmas.proofs.kernel.Levels.{level-left, level-joined_same, level-joined_other}
use Rattle.pif_model_lemmas.proofs.kernel.Settled.{IsListed, stands}

-- a test that gives false in both cases
false_anyway : (b : Bool) → (if b then false else false) ≡ false
false_anyway true = refl
false_anyway false = refl

-- who may not run stands nowhere
pub stands-unready : (k : Kernel) (at : ℕ → ℕ) (t p : ℕ) → is_ready (seat_at k t).status ≡ false
    → stands k at t p ≡ false
stands-unready k at t p e = rw e (false_anyway (has_seat k t))

-- nor who was not added
pub stands-unadded : (k : Kernel) (at : ℕ → ℕ) (t p : ℕ) → has_seat k t ≡ false → stands k at t p ≡ false
stands-unadded k at t p e = rw e refl

-- if all but t are as they were
module _ (k now : Kernel) (t : ℕ) (at at_now : ℕ → ℕ) (has : (u : ℕ) → u ≢ t → has_seat now u ≡ has_seat k u)
    (same : (u : ℕ) → u ≢ t → (seat_at now u).status ≡ (seat_at k u).status)
    (level : (u : ℕ) → u ≢ t → at_now u ≡ at u) (h : IsListed k at) where
  -- they stand where they stood
  stands_other : (u p : ℕ) → u ≢ t → stands now at_now u p ≡ stands k at u p
  stands_other u p d = λ i. if has u d i then (if is_ready (same u d i) then level u d i == p else false) else false

  -- and within 1 to 99
  range_other : (u : ℕ) → u ≢ t → has_seat now u ≡ true → (1 ≤ at_now u) × (at_now u ≤ 99)
  range_other u d e =
      let r = h.range u (sym (has u d) ∙ e) in
      (omega (arith, r.0, level u d), omega (arith, r.1, level u d))

  -- t has left its level, and may not run
  pub listed-left : now.levels ≡ levels_without t k.levels → is_ready (seat_at now t).status ≡ false
      → (1 ≤ at_now t) × (at_now t ≤ 99) → IsListed now at_now
  listed-left e unready range =
      record { on = λ u p. on u p (cases_eq u t); range = λ u x. within u x (cases_eq u t); once = once }
    where
      is : (p : ℕ) → level_at now.levels p ≡ filter (is_other t) (level_at k.levels p)
      is p = ap (λ levels. level_at levels p) e ∙ level-left t k.levels p

      on : (u p : ℕ) → (u ≡ t) ⊎ (u ≢ t) → is_among (level_at now.levels p) u ≡ stands now at_now u p
      on u p (inl x) = subst (λ v. is_among (level_at now.levels p) v ≡ stands now at_now v p) (sym x)
          (ap (λ xs. is_among xs t) (is p) ∙ among-left_same (level_at k.levels p) t
          ∙ sym (stands-unready now at_now t p unready))
      on u p (inr d) =
          ap (λ xs. is_among xs u) (is p) ∙ among-left_other (level_at k.levels p) t u d ∙ h.on u p
          ∙ sym (stands_other u p d)

      within : (u : ℕ) → has_seat now u ≡ true → (u ≡ t) ⊎ (u ≢ t) → (1 ≤ at_now u) × (at_now u ≤ 99)
      within u x (inl y) = subst (λ v. (1 ≤ at_now v) × (at_now v ≤ 99)) (sym y) range
      within u x (inr d) = range_other u d x

      once : (p : ℕ) → IsDistinct eqb (level_at now.levels p)
      once p = subst (IsDistinct eqb) (sym (is p)) (distinct-filter (is_other t) (level_at k.levels p) (h.once p))

  -- t, which stood nowhere, has joined a level
  pub listed-joined : (p : ℕ) → length k.levels ≡ 100 → now.levels ≡ levels_with t p k.levels → 1 ≤ p → p ≤ 99
      → ((q : ℕ) → stands k at t q ≡ false)
      → has_seat now t ≡ true → is_ready (seat_at now t).status ≡ true → at_now t ≡ p → IsListed now at_now
  listed-joined p many e low high nowhere known ready there =
      record {
        on = λ u q. on u q (cases_eq u t) (cases_eq q p);
        range = λ u x. within u x (cases_eq u t);
        once = λ q. once q (cases_eq q p);
      }
    where
      is_same : level_at now.levels p ≡ level_at k.levels p ++ t ∷ []
      is_same = ap (λ levels. level_at levels p) e ∙ level-joined_same t p k.levels (omega arith)

      is_other : (q : ℕ) → q ≢ p → level_at now.levels q ≡ level_at k.levels q
      is_other q d = ap (λ levels. level_at levels q) e ∙ level-joined_other t p k.levels q d

      here : (q : ℕ) → stands now at_now t q ≡ (p == q)
      here q = rw (known, ready, there) refl

      on : (u q : ℕ) → (u ≡ t) ⊎ (u ≢ t) → (q ≡ p) ⊎ (q ≢ p)
          → is_among (level_at now.levels q) u ≡ stands now at_now u q
      on u q (inl x) (inl y) = subst (λ v. is_among (level_at now.levels q) v ≡ stands now at_now v q) (sym x)
          (ap (λ r. is_among (level_at now.levels r) t) y ∙ ap (λ xs. is_among xs t) is_same
          ∙ among-push_same (level_at k.levels p) t ∙ sym (here q ∙ eq-eqb p q (sym y)))
      on u q (inl x) (inr d) = subst (λ v. is_among (level_at now.levels q) v ≡ stands now at_now v q) (sym x)
          (ap (λ xs. is_among xs t) (is_other q d) ∙ h.on t q ∙ nowhere q ∙ sym (here q ∙ ne_eqb p q (λ z. d (sym z))))
      on u q (inr d) (inl y) =
          ap (λ r. is_among (level_at now.levels r) u) y ∙ ap (λ xs. is_among xs u) is_same
          ∙ among-push_other (level_at k.levels p) t u d
          ∙ ap (λ r. is_among (level_at k.levels r) u) (sym y) ∙ h.on u q ∙ sym (stands_other u q d)
      on u q (inr d) (inr c) = ap (λ xs. is_among xs u) (is_other q c) ∙ h.on u q ∙ sym (stands_other u q d)

      within : (u : ℕ) → has_seat now u ≡ true → (u ≡ t) ⊎ (u ≢ t) → (1 ≤ at_now u) × (at_now u ≤ 99)
      within u x (inl y) = let at : at_now u ≡ p = ap at_now y ∙ there in (omega arith, omega arith)
      within u x (inr d) = range_other u d x

      once : (q : ℕ) → (q ≡ p) ⊎ (q ≢ p) → IsDistinct eqb (level_at now.levels q)
      once q (inl y) = subst (λ r. IsDistinct eqb (level_at now.levels r)) (sym y)
          (subst (IsDistinct eqb) (sym is_same)
          (distinct-push (level_at k.levels p) t (h.once p) (h.on t p ∙ nowhere p)))
      once q (inr d) = subst (IsDistinct eqb) (sym (is_other q d)) (h.once q)

-- the same if as many were added, with the statuses that they had
pub listed-seats : (k now : Kernel) (at : ℕ → ℕ) → now.levels ≡ k.levels → ((u : ℕ) → has_seat now u ≡ has_seat k u)
    → ((u : ℕ) → (seat_at now u).status ≡ (seat_at k u).status) → IsListed k at → IsListed now at
listed-seats k now at e has same h = record {
  on = λ t p. ap (λ levels. is_among (level_at levels p) t) e ∙ h.on t p
      ∙ sym (λ i. if has t i then (if is_ready (same t i) then at t == p else false) else false);
  range = λ t x. h.range t (sym (has t) ∙ x);
  once = λ p. subst (λ levels. IsDistinct eqb (level_at levels p)) (sym e) (h.once p);
}
