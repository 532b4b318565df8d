-- The robust mutexes of a thread that has ended.
use Rattle.std.proofs.Common.{ℕ, zero, suc, ◌≡◌, ◌≢◌, ◌-◌, ◌++◌, ◌∙◌, List, refl, sym, ap, append_assoc}
use Rattle.std.proofs.Math.Numerals.{sub-one}
use Rattle.std.specs.List.{flat_map}
use Rattle.pif_model.specs.Posix.{World}
use Rattle.pif_posix_steps.specs.Doing.{robust_of, inherited, passed_on_by_death}
use Rattle.pif_rules_model.specs.declared.rules.Rules.{Rules}
use Rattle.pif_rules_model.specs.Ruled.{one_if, passed_by_death, released_by}

-- one of them passes on next
pub inherited-next : (n t : ℕ) (w : World) → n ≢ 0 → inherited n t w ≡ flat_map (λ m. inherited (n - 1) t (passed_on_by_death m w)) (robust_of w t)
inherited-next zero t w e = absurd (e refl)
inherited-next (suc n) t w e = ap (λ (k : ℕ). flat_map (λ m. inherited k t (passed_on_by_death m w)) (robust_of w t)) (sym (sub-one (suc n)))

-- BY RULES

-- one of them passes on next or is left free, or all stay
module _ (r : Rules) (t : ℕ) (w : World) where
  released-next : (n : ℕ) → n ≢ 0
      → released_by r n t w ≡ flat_map (released_by r (n - 1) t) (flat_map (passed_by_death r w) (robust_of w t)) ++ one_if r.stays_locked w
  released-next zero e = absurd (e refl)
  released-next (suc n) e =
      ap (λ (k : ℕ). flat_map (released_by r k t) (flat_map (passed_by_death r w) (robust_of w t)) ++ one_if r.stays_locked w) (sym (sub-one (suc n)))

  pub released-all : (n : ℕ) (front passed xs all : List World) → n ≢ 0 → passed ≡ flat_map (passed_by_death r w) (robust_of w t)
      → xs ≡ front ++ flat_map (released_by r (n - 1) t) passed → all ≡ xs ++ one_if r.stays_locked w → all ≡ front ++ released_by r n t w
  released-all n front passed xs all e f g h =
      h ∙ ap (λ (ws : List World). ws ++ one_if r.stays_locked w) g
      ∙ append_assoc front (flat_map (released_by r (n - 1) t) passed) (one_if r.stays_locked w)
      ∙ ap (λ (ws : List World). front ++ (flat_map (released_by r (n - 1) t) ws ++ one_if r.stays_locked w)) f
      ∙ ap (λ (ws : List World). front ++ ws) (sym (released-next n e))
