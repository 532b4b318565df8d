use Rattle.std.proofs.Common.{◌≡◌, take, map}
use Rattle.pif_rules_model.specs.Ruled.{with_result}
use Rattle.pif_posix.proofs.priorities.each_answered.Given as goal

abbrev pub invariant-loop-i : goal.invariant-loop-i
invariant-loop-i l = l.all.items ≡ map (with_result l.thread l.state) (take l.i l.answers)
