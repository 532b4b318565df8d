use Rattle.std.proofs.Common.{◌≡◌, drop, map}
use Rattle.pif_explore_text.specs.Cells.{greatest_in_programs}
use Rattle.pif_explore_text.specs.Names.{greater}
use Rattle.pif_explore_text.specs.Views.{program_view}
use Rattle.pif_explore_text.proofs.cells.greatest_in_programs.Given as goal

abbrev pub invariant-loop-program : goal.invariant-loop-program
invariant-loop-program l =
    greater l.greatest (greatest_in_programs (map program_view (drop l.program-index l.programs)))
    ≡ greatest_in_programs (map program_view l.programs)
