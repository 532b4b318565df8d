use Rattle.std.proofs.Common.{◌≡◌, List, ◌++◌, length}
use Rattle.std.specs.Prelude.{flat_map, reverse}
use Rattle.pif_explore_page.specs.Steps.{Step, step_to, steps_to, steps_told}
use Rattle.pif_explore_page.proofs.schedules.steps_to.Given as goal

abbrev pub invariant-loop-at : goal.invariant-loop-at
invariant-loop-at l =
    (done : List Step)
    × (l.steps.items ≡ steps_told l.plan done)
    × (done ++ flat_map (step_to l.nodes) (reverse l.back.items) ≡ steps_to l.nodes l.place)

abbrev pub decreases-loop-at : goal.decreases-loop-at
decreases-loop-at l = length l.back.items
