-- How a run is told to a person: its lines, and between them what its moves change.
use Rattle.std.specs.Prelude.{ℕ, List, [], ◌∷◌, ◌++◌}
use Rattle.pif_types.specs.Bounds.{Bounds}
use Rattle.pif_history_model.specs.declared.labels.Label.{Label}
use Rattle.pif_rules_model.specs.declared.rules.Rules.{Rules}
use Rattle.pif_history_model.specs.Searched.{Configuration, start_of}
use Rattle.pif_history_told.specs.Steps.{IsStepBy}
use Rattle.pif_history_text.specs.Tellings.{step_telling}

-- A run of these labels, newest first, which leads from the start to s, is told so. It may use these rules.
pub data IsTold (r : Rules) (l : Bounds) : List Label → Configuration → List ℕ → Type 0 where
  start : IsTold r l [] (start_of l) []
  then : {xs : List Label} {s : Configuration} {text : List ℕ} (x : Label) (by : Rules) (n : Configuration)
      → IsTold r l xs s text → IsStepBy r l s x by n
      → IsTold r l (x ∷ xs) n (text ++ step_telling by x s.wide.world n.wide.world)
