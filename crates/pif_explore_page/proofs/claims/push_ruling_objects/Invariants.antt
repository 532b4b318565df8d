use Rattle.std.proofs.Common.{◌≡◌, ◌++◌, take}
use Rattle.std.specs.Prelude.{flat_map}
use Rattle.pif_explore_page.specs.Objects.{ruling_object}
use Rattle.pif_explore_page.proofs.claims.push_ruling_objects.Given as goal

abbrev pub invariant-loop-ruling : goal.invariant-loop-ruling
invariant-loop-ruling l = l.out.items ≡ l.initial.out.items ++ flat_map (ruling_object l.plan l.nodes) (take l.ruling-index l.rulings)
