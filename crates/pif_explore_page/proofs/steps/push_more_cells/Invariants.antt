use Rattle.std.proofs.Common.{◌≡◌, ◌++◌, take}
use Rattle.std.specs.Prelude.{codes, decimal, flat_map}
use Rattle.pif_explore_page.proofs.steps.push_more_cells.Given as goal

abbrev pub invariant-loop-cell : goal.invariant-loop-cell
invariant-loop-cell l =
    l.elements.items ≡ l.initial.elements.items ++ flat_map (λ x. codes "," ++ decimal x) (take l.cell-index l.cells)
