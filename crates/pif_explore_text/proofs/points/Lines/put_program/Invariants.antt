use Rattle.std.proofs.Common.{◌≡◌, ◌+◌, ◌++◌, drop, map}
use Rattle.pif_explore_text.specs.Points.{thread_points, thread_size}
use Rattle.pif_explore_text.specs.Views.{program_view}
use Rattle.pif_explore_text.proofs.points.Lines.put_program.Given as goal

abbrev pub invariant-loop-program : goal.invariant-loop-program
invariant-loop-program l =
    (l.at + thread_size l.thread (map program_view (drop l.program-index l.self.programs.now)) ≡ l.end)
    × (l.out.items ++ thread_points l.thread (map program_view (drop l.program-index l.self.programs.now)) l.at l.exit
    ≡ l.initial.out.items ++ thread_points l.thread (map program_view l.self.programs.now) l.initial.at l.exit)
