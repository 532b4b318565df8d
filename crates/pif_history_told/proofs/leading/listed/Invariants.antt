use Rattle.std.proofs.Common.{◌≡◌, take}
use Rattle.std.specs.List.{flat_map}
use Rattle.pif_history_told.specs.Steps.{led_by}
use Rattle.pif_history_told.proofs.leading.listed.Given as goal

abbrev pub invariant-loop-by : goal.invariant-loop-by
invariant-loop-by c = c.found.items ≡ flat_map (led_by c.rules c.limits c.from c.label) (take c.by-index c.by-items)
