use Rattle.std.proofs.Common.{◌≡◌, drop, map}
use Rattle.pif_explore_text.specs.Sheets.{reading_from}
use Rattle.pif_explore_text.specs.Views.{reading_view}
use Rattle.pif_explore_text.proofs.reading.take_lines.Given as goal

abbrev pub invariant-loop-line : goal.invariant-loop-line
invariant-loop-line l =
    (reading_from (reading_view l.initial.reading) (map (λ x. x.now) l.lines)
    ≡ reading_from (reading_view l.reading) (map (λ x. x.now) (drop l.line-index l.lines)))
    × (l.reading.sheet.count ≡ l.line-index)
