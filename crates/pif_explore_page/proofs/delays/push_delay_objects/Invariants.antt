use Rattle.std.proofs.Common.{◌≡◌, ◌++◌, take}
use Rattle.std.specs.Prelude.{flat_map}
use Rattle.pif_explore_page.specs.Objects.{delay_object}
use Rattle.pif_explore_page.proofs.delays.push_delay_objects.Given as goal

abbrev pub invariant-loop-held : goal.invariant-loop-held
invariant-loop-held l = l.out.items ≡ l.initial.out.items ++ flat_map (delay_object l.plan l.nodes) (take l.held-index l.delays)
