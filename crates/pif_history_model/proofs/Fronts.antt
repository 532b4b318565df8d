-- Lines that are shown are shown up to each of them.
use Rattle.std.proofs.Common.{List, [], ◌∷◌}
use Rattle.pif_types.specs.Bounds.{Bounds}
use Rattle.pif_rules_model.specs.declared.rules.Rules.{Rules}
use Rattle.pif_history_model.specs.declared.lines.Line.{Line}
use Rattle.pif_history_model.specs.declared.labels.Label.TheVariants.{Shown}
use Rattle.pif_history_model.specs.Searched.{Advances, hides, start_of, IsShownWith}
use Rattle.pif_history_model.specs.Verdicts.{IsShownBy}
use Rattle.pif_history_model.proofs.Judging.{labels_of}
use Rattle.pif_history_model.proofs.Refuting.{before_last}
use Rattle.pif_history_model.proofs.Widening.{shown-from_machine, machine-from_shown}

module _ (r : Rules) (l : Bounds) (x : Line) (xs : List Line) where
  pub front-shown_with : IsShownWith r l (x ∷ xs) → IsShownWith r l xs
  front-shown_with h =
      let m = before_last (Advances r l) hides (start_of l) h.run.history h.last (Shown x ∷ []) (labels_of xs) h.run.run h.run.shows in
      record { last = m.0; run = m.1 }

  pub front-shown_by : IsShownBy r l (x ∷ xs) → IsShownBy r l xs
  front-shown_by h = shown-from_machine r l xs (front-shown_with (machine-from_shown r l (x ∷ xs) h))
