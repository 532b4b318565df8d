use Rattle.std.proofs.Common.{◌≡◌, ◌++◌, take}
use Rattle.std.specs.List.{flat_map}
use Rattle.pif_rules_model.specs.Sets.{rules_in_order}
use Rattle.pif_rules.specs.Sets.{name_in}
use Rattle.pif_rules.proofs.sets.push_names.Given as goal

abbrev pub invariant-loop-rule : goal.invariant-loop-rule
invariant-loop-rule l = l.out.items ≡ l.fn.out.items ++ flat_map (name_in l.rules) (take l.rule-index rules_in_order)
