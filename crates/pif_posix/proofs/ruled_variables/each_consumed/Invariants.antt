use Rattle.std.proofs.Common.{◌≡◌, take, map}
use Rattle.pif_rules_model.specs.Ruled.{consumed_with}
use Rattle.pif_posix.proofs.ruled_variables.each_consumed.Given as goal

abbrev pub invariant-loop-i : goal.invariant-loop-i
invariant-loop-i l = l.all.items ≡ map (consumed_with l.thread l.state) (take l.i l.signallers)
