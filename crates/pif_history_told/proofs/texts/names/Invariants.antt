use Rattle.std.proofs.Common.{◌≡◌, take}
use Rattle.std.specs.List.{flat_map}
use Rattle.pif_history_told.specs.Texts.{rule_text}
use Rattle.pif_history_told.proofs.texts.names.Given as goal

abbrev pub invariant-loop-rule : goal.invariant-loop-rule
invariant-loop-rule l = l.text.items ≡ flat_map (rule_text l.rules) (take l.rule-index l.rule-items)
