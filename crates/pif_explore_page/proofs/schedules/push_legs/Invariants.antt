use Rattle.std.proofs.Common.{◌≡◌, List, ◌++◌, take}
use Rattle.pif_explore_page.specs.Steps.{Step, leg_steps, steps_told}
use Rattle.pif_explore_page.proofs.schedules.push_legs.Given as goal

abbrev pub invariant-loop-leg : goal.invariant-loop-leg
invariant-loop-leg l =
    (done : List Step) → l.initial.steps.items ≡ steps_told l.plan done
    → l.steps.items ≡ steps_told l.plan (done ++ leg_steps l.nodes (take l.leg-index l.legs))
