use Rattle.std.proofs.Common.{◌≡◌, filter, take}
use Rattle.pif_rules_model.specs.Sets.{rules_in_order}
use Rattle.pif_history_told.specs.Sets.{adds}
use Rattle.pif_history_told.proofs.sets.added.Given as goal

abbrev pub invariant-loop-rule : goal.invariant-loop-rule
invariant-loop-rule l = l.found.items ≡ filter (adds l.base l.asked) (take l.rule-index rules_in_order)
