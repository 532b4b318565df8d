use Rattle.std.proofs.Common.{length, sym, ap, ◌∙◌}
use Rattle.std.specs.Prelude.{option_copied}
use Rattle.pif_script_model.specs.Filling.{width_from}
use Rattle.pif_script_model.specs.Lines.{StoryRow, lines_behind}
use Rattle.pif_script_model.proofs.FillingLemmas.{width_from_row}
use Rattle.pif_script_model.proofs.OrderLemmas.{greater_is}
use Rattle.pif_story.proofs.filling.width_of.Goals as goal

pub lines-preserved-in-Some-row_of : goal.lines-preserved-in-Some-row_of
lines-preserved-in-Some-row_of c =
    let behind = lines_behind (option_copied c.split_line.result.1) in
    let row : StoryRow = (c.in-Some-row_of.command.now, option_copied c.in-Some-row_of.field-0-1) in
    let before = rw (c.in-Some.is, c.split_line.ensures.split) at c.lines.invariant in
    let wide = c.max-width.ensures ∙ greater_is c.lines.width (length c.in-Some-row_of.command.now) in
    before ∙ width_from_row c.lines.width c.split_line.result.0.now behind row (sym c.in-Some-row_of.ensures)
    ∙ ap (λ width. width_from width behind) (sym wide)
