use Rattle.std.proofs.Common.{◌≡◌, drop}
use Rattle.pif_explore_text.specs.Cells.{set_firsts}
use Rattle.pif_explore_text.proofs.cells.set_firsts.Given as goal

abbrev pub invariant-loop-first : goal.invariant-loop-first
invariant-loop-first l =
    set_firsts (drop l.first-index l.firsts) l.cells ≡ set_firsts l.firsts l.initial.cells
