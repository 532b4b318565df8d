use Rattle.std.proofs.Common.{◌≡◌, map, take}
use Rattle.pif_history_model.specs.declared.labels.Label.TheVariants.{Shown}
use Rattle.pif_history_machine.proofs.labels.labels_of.Given as goal

abbrev pub invariant-loop-line : goal.invariant-loop-line
invariant-loop-line l = l.labels.items ≡ map (λ x. Shown x) (take l.line-index l.lines)
