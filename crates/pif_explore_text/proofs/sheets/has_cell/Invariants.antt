use Rattle.std.proofs.Common.{◌≡◌, drop}
use Rattle.pif_explore_text.specs.Sheets.{has_cell}
use Rattle.pif_explore_text.proofs.sheets.has_cell.Given as goal

abbrev pub invariant-loop-first : goal.invariant-loop-first
invariant-loop-first l = has_cell l.cells l.cell ≡ has_cell (drop l.first-index l.cells) l.cell
