use Rattle.std.proofs.Common.{◌≡◌, drop}
use Rattle.pif_explore_text.specs.Names.{greater}
use Rattle.pif_explore_text.specs.Sheets.{greatest_of}
use Rattle.pif_explore_text.proofs.cells.greatest_of.Given as goal

abbrev pub invariant-loop-first : goal.invariant-loop-first
invariant-loop-first l = greater l.greatest (greatest_of (drop l.first-index l.cells)) ≡ greatest_of l.cells
