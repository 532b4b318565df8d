-- Variables that are the same but for their uses.
use Rattle.std.proofs.Common.{ℕ, zero, suc, ◌≡◌, ◌≤◌, ◌+◌, ◌∙◌, List, [], ◌∷◌, length, get_or, set, sym, ap, arith}
use Rattle.std.proofs.lemmas.List.{map-set, length-map}
use Rattle.pif_model.specs.Posix.{Variable, no_variable}
use Rattle.pif_model_lemmas.proofs.Places.{mapped_at}
use Rattle.pif_uses_model.specs.Uses.{AreButForUses, unused, uses_in}

-- a variable used once more
abbrev pub used_once : Variable → Variable
used_once x = record x { uses = x.uses + 1 }

-- variables, of which one is used once more
abbrev pub used_in : ℕ → List Variable → List Variable
used_in c xs = set xs c (used_once (get_or xs c no_variable))

module _ (xs ys : List Variable) (a : AreButForUses xs ys) where
  -- each is
  pub same_unused : (c : ℕ) → unused (get_or xs c no_variable) ≡ unused (get_or ys c no_variable)
  same_unused c =
      sym (mapped_at unused xs c no_variable) ∙ ap (λ (l : List Variable). get_or l c no_variable) a ∙ mapped_at unused ys c no_variable

  -- they are bound to the same mutexes
  pub same_bound : (c : ℕ) → (get_or xs c no_variable).mutex ≡ (get_or ys c no_variable).mutex
  same_bound c = ap (λ (x : Variable). x.mutex) (same_unused c)

  -- they are as many
  pub same_length : length xs ≡ length ys
  same_length = sym (length-map xs unused) ∙ ap length a ∙ length-map ys unused

  -- they stay so if one is used once more
  pub same_used : (c : ℕ) → AreButForUses (used_in c xs) (used_in c ys)
  same_used c =
      map-set unused xs c (used_once (get_or xs c no_variable)) ∙ (λ i. set (a i) c (same_unused c i))
      ∙ sym (map-set unused ys c (used_once (get_or ys c no_variable)))

-- a use raises the count of one variable, by one
pub used_rises : (xs : List Variable) (c d : ℕ) → uses_in (used_in c xs) d ≤ uses_in xs d + 1
used_rises [] c d = omega arith
used_rises (x ∷ xs) zero zero = omega arith
used_rises (x ∷ xs) zero (suc d) = omega arith
used_rises (x ∷ xs) (suc c) zero = omega arith
used_rises (x ∷ xs) (suc c) (suc d) = used_rises xs c d
