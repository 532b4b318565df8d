use Rattle.std.proofs.Common.{◌≡◌, ◌++◌, take}
use Rattle.std.specs.Prelude.{flat_map}
use Rattle.pif_explore_page.specs.Objects.{outcome_object}
use Rattle.pif_explore_page.proofs.outcomes.push_outcome_objects.Given as goal

abbrev pub invariant-loop-told : goal.invariant-loop-told
invariant-loop-told l = l.out.items ≡ l.initial.out.items ++ flat_map (outcome_object l.plan l.spans l.nodes) (take l.told-index l.outcomes)
