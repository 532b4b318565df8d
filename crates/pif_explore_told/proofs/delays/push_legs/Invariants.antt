use Rattle.std.proofs.Common.{◌≡◌, ◌++◌, take}
use Rattle.std.specs.Prelude.{flat_map}
use Rattle.pif_explore_told.specs.DelayLines.{leg_told}
use Rattle.pif_explore_told.proofs.delays.push_legs.Given as goal

abbrev pub invariant-loop-leg : goal.invariant-loop-leg
invariant-loop-leg l = l.out.items ≡ l.initial.out.items ++ flat_map (leg_told l.plan l.nodes) (take l.leg-index l.legs)
