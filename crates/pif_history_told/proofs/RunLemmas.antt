-- Runs that are told, step by step.
use Rattle.std.proofs.Common.{◌≡◌, ℕ, List, [], ◌∷◌, sym, subst}
use Rattle.pif_types.specs.Bounds.{Bounds}
use Rattle.pif_rules_model.specs.declared.rules.Rules.{Rules}
use Rattle.pif_history_model.specs.declared.labels.Label.{Label}
use Rattle.pif_history_model.specs.Searched.{Configuration, start_of}
use Rattle.pif_rules.specs.Sets.{names_of}
use Rattle.pif_history_told.specs.Steps.{IsStepBy}
use Rattle.pif_history_told.specs.Runs.{IsTold, Telling, untold, with_step}
use Rattle.pif_history_told.specs.Runs.IsTold.{start, then}

-- One step more.
pub IsTold-step : (r : Rules) (l : Bounds) (ns : List ℕ) (from : ℕ) (xs ys : List Label) (x : Label) (q : Rules)
    (s to : Configuration) (t u : Telling) → ys ≡ x ∷ xs → IsStepBy r l s x q to
    → u ≡ with_step from ns x (names_of q) s.wide to.wide t → IsTold r l ns from xs s t → IsTold r l ns from ys to u
IsTold-step r l ns from xs ys x q s to t u more by grown told =
    subst (λ (zs : List Label). IsTold r l ns from zs to u) (sym more)
    (subst (λ (v : Telling). IsTold r l ns from (x ∷ xs) to v) (sym grown) (then x q to told by))

-- Before the first step.
pub IsTold-start : (r : Rules) (l : Bounds) (ns : List ℕ) (from : ℕ) (xs : List Label) (s : Configuration) (t : Telling)
    → xs ≡ [] → s ≡ start_of l → t ≡ untold → IsTold r l ns from xs s t
IsTold-start r l ns from xs s t none first nothing =
    subst (λ (ys : List Label). IsTold r l ns from ys s t) (sym none)
    (subst (λ (v : Telling). IsTold r l ns from [] s v) (sym nothing)
    (subst (λ (n : Configuration). IsTold r l ns from [] n untold) (sym first) start))
