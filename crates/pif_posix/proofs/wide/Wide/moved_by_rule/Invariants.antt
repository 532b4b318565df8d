use Rattle.std.proofs.Common.{◌≡◌, take}
use Rattle.std.specs.List.{flat_map}
use Rattle.pif_rules_model.specs.Sets.{rules_in_order}
use Rattle.pif_rules_model.specs.Ruled.{done_if_allowed}
use Rattle.pif_posix.proofs.wide.Wide.moved_by_rule.Given as goal

abbrev pub invariant-loop-rule : goal.invariant-loop-rule
invariant-loop-rule l = l.all.items ≡ flat_map (done_if_allowed l.rules l.thread l.self) (take l.rule-index rules_in_order)
