-- A search that takes one state for all that are the same but for names.
use Rattle.std.specs.Prelude.{ℕ, ◌≡◌}
use Rattle.pif_explore_model.specs.declared.labels.Label.{Label}
use Rattle.pif_explore_model.specs.Situations.{Plan, Situation}
use Rattle.pif_explore_model.specs.Exploring.{Steps}
use Rattle.pif_symmetry_model.specs.Symmetry.{IsSymmetric, MirrorsState}

-- two states are the same but for the names of threads that are alike
pub record AreOfOneClass (p : Plan) (s n : Situation) : Type 0 where
  pub name : ℕ → ℕ
  pub point : ℕ → ℕ
  pub symmetric : IsSymmetric name point p
  pub mirrors : MirrorsState name point p s n

-- a step, behind which the search goes on from the state that is taken for the one to which it leads
pub record StepsTo (p : Plan) (taken : Situation → Situation) (s : Situation) (l : Label) (n : Situation) : Type 0 where
  pub behind : Situation
  pub step : Steps p s l behind
  pub same : n ≡ taken behind
