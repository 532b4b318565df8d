-- Runs that are followed, and texts that tell them, step by step.
use Rattle.std.proofs.Common.{◌≡◌, ℕ, List, [], ◌∷◌, ◌++◌, sym, subst}
use Rattle.pif_types.specs.Bounds.{Bounds}
use Rattle.pif_history_model.specs.declared.labels.Label.{Label}
use Rattle.pif_rules_model.specs.declared.rules.Rules.{Rules}
use Rattle.pif_history_model.specs.Searched.{Configuration, start_of}
use Rattle.pif_history_told.specs.Steps.{IsStepBy}
use Rattle.pif_history_text.specs.Tellings.{step_telling}
use Rattle.pif_history_told.specs.Tellings.{IsTold}
use Rattle.pif_history_told.specs.Tellings.IsTold.{start as told_start, then as told_then}

-- one step more
pub IsTold-step : (r : Rules) (l : Bounds) (xs ys : List Label) (x : Label) (q : Rules) (s to : Configuration)
    (old text : List ℕ) → ys ≡ x ∷ xs → IsStepBy r l s x q to → text ≡ old ++ step_telling q x s.wide.world to.wide.world
    → IsTold r l xs s old → IsTold r l ys to text
IsTold-step r l xs ys x q s to old text more by grown told =
    subst (λ (zs : List Label). IsTold r l zs to text) (sym more)
    (subst (λ (b : List ℕ). IsTold r l (x ∷ xs) to b) (sym grown) (told_then x q to told by))

-- before the first step
pub IsTold-start : (r : Rules) (l : Bounds) (xs : List Label) (s : Configuration) (text : List ℕ) → xs ≡ []
    → s ≡ start_of l → text ≡ [] → IsTold r l xs s text
IsTold-start r l xs s text none first nothing =
    subst (λ (ys : List Label). IsTold r l ys s text) (sym none)
    (subst (λ (b : List ℕ). IsTold r l [] s b) (sym nothing)
    (subst (λ (z : Configuration). IsTold r l [] z []) (sym first) told_start))
