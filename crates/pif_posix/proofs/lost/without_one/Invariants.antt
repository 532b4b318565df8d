use Rattle.std.proofs.Common.{◌≡◌, ◌++◌, take, drop}
use Rattle.pif_rules_model.specs.Rules.{without_one}
use Rattle.pif_posix.proofs.lost.without_one.Given as goal

abbrev pub invariant-loop-i : goal.invariant-loop-i
invariant-loop-i l =
    (l.all.items ≡ l.lost) × (take l.i l.lost ++ without_one l.variable (drop l.i l.lost) ≡ without_one l.variable l.lost)
