use Rattle.std.proofs.Common.{◌≡◌, drop}
use Rattle.pif_explore_text.specs.Trees.{body_of}
use Rattle.pif_explore_text.specs.Sheets.{with_programs}
use Rattle.pif_explore_text.specs.Views.{sheet_view}
use Rattle.pif_explore_text.proofs.sheets.Sheet.add_programs.Given as goal

abbrev pub invariant-loop-thread : goal.invariant-loop-thread
invariant-loop-thread l =
    with_programs (sheet_view l.self) (drop l.thread-index l.threads) (body_of l.body)
    ≡ with_programs (sheet_view l.initial.self) l.threads (body_of l.body)
