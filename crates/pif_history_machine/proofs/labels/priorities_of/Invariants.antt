use Rattle.std.proofs.Common.{◌≡◌, ◌-◌, map}
use Rattle.pif_history_model.specs.Numbers.{up_to}
use Rattle.pif_history_model.specs.declared.lines.Line.TheVariants.{Prio}
use Rattle.pif_history_model.specs.declared.labels.Label.TheVariants.{Shown}
use Rattle.pif_history_machine.proofs.labels.priorities_of.Given as goal

abbrev pub invariant-loop-prio : goal.invariant-loop-prio
invariant-loop-prio l = l.labels.items ≡ map (λ p. Shown (Prio l.thread p)) (up_to (l.prio - 1))
