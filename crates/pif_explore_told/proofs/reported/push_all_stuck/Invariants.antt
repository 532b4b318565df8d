use Rattle.std.proofs.Common.{◌≡◌, ◌++◌, take}
use Rattle.std.specs.Prelude.{flat_map}
use Rattle.pif_explore_told.specs.Reported.{stuck_told}
use Rattle.pif_explore_told.proofs.reported.push_all_stuck.Given as goal

abbrev pub invariant-loop-stuck : goal.invariant-loop-stuck
invariant-loop-stuck g l =
    l.out.items ≡ l.initial.out.items ++ flat_map (stuck_told (g.T.TellFaults.told l.way) l.nodes) (take l.stuck-index l.all)
