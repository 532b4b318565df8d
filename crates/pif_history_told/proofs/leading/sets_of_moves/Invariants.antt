use Rattle.std.proofs.Common.{◌≡◌, ◌∷◌, filter, map, take}
use Rattle.pif_rules_model.specs.Sets.{has, no_rules, rules_in_order}
use Rattle.pif_rules.specs.Sets.{only}
use Rattle.pif_history_told.proofs.leading.sets_of_moves.Given as goal

abbrev pub invariant-loop-rule : goal.invariant-loop-rule
invariant-loop-rule l = l.sets.items ≡ no_rules ∷ map (only l.rules) (filter (has l.rules) (take l.rule-index rules_in_order))
