use Rattle.std.proofs.Common.{◌≡◌, ◌+◌, drop, map}
use Rattle.pif_explore_text.specs.Points.{thread_size}
use Rattle.pif_explore_text.specs.Views.{program_view}
use Rattle.pif_explore_text.proofs.points.thread_end.Given as goal

abbrev pub invariant-loop-program : goal.invariant-loop-program
invariant-loop-program l =
    l.end + thread_size l.thread (map program_view (drop l.program-index l.programs))
    ≡ l.initial.at + thread_size l.thread (map program_view l.programs)
