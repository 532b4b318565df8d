use Rattle.std.proofs.Common.{◌≡◌, drop, map}
use Rattle.pif_explore_text.specs.Points.{is_started}
use Rattle.pif_explore_text.specs.Views.{program_view}
use Rattle.pif_explore_text.proofs.points.is_started.Given as goal

abbrev pub invariant-loop-program : goal.invariant-loop-program
invariant-loop-program l =
    is_started l.thread (map program_view l.programs)
    ≡ is_started l.thread (map program_view (drop l.program-index l.programs))
