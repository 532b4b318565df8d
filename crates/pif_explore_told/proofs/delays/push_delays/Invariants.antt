use Rattle.std.proofs.Common.{◌≡◌, ◌++◌, take}
use Rattle.std.specs.Prelude.{flat_map}
use Rattle.pif_explore_told.specs.DelayLines.{delay_told}
use Rattle.pif_explore_told.proofs.delays.push_delays.Given as goal

abbrev pub invariant-loop-held : goal.invariant-loop-held
invariant-loop-held l = l.out.items ≡ l.initial.out.items ++ flat_map (delay_told l.plan l.nodes) (take l.held-index l.delays)
