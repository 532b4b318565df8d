use Rattle.std.proofs.Common.{◌≡◌, take}
use Rattle.pif_history_model.specs.Numbers.{numbers_in}
use Rattle.pif_history_machine.proofs.labels.numbers_of.Given as goal

abbrev pub invariant-loop-label : goal.invariant-loop-label
invariant-loop-label l = l.numbers.items ≡ numbers_in (take l.label-index l.labels)
