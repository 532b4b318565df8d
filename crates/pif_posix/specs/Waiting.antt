-- Which open calls wait for good.
use Rattle.std.specs.Prelude.{Bool, false, Option, Some, None}
use Rattle.pif_model.specs.World.{Call}
use Rattle.pif_rules_model.specs.Rules.{is_stuck}

abbrev pub waits_for_good : Option Call → Bool
waits_for_good None = false
waits_for_good (Some x) = is_stuck x.progress
