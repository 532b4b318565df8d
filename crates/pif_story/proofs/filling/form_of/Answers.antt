use Rattle.std.proofs.Common.{sym, ap, ◌∙◌}
use Rattle.std.specs.Prelude.{option_copied}
use Rattle.pif_script_model.specs.Filling.{form_from, form_or}
use Rattle.pif_script_model.specs.Lines.{StoryRow, lines_behind}
use Rattle.pif_script_model.proofs.FillingLemmas.{form_from_row}
use Rattle.pif_story.proofs.filling.form_of.Goals as goal

pub returns-in-Some-form_written : goal.returns-in-Some-form_written
returns-in-Some-form_written c =
    let behind = lines_behind (option_copied c.split_line.result.1) in
    let row : StoryRow = (c.in-Some-row_of.field-0-0.now, option_copied c.in-Some-row_of.written) in
    let before = rw (c.in-Some.is, c.split_line.ensures.split) at c.lines.invariant in
    sym (before ∙ form_from_row c.split_line.result.0.now behind row (sym c.in-Some-row_of.ensures)
    ∙ ap (λ own. form_or own (form_from behind)) (sym c.in-Some-form_written.ensures))

pub lines-preserved-in_default-form_written : goal.lines-preserved-in_default-form_written
lines-preserved-in_default-form_written c =
    let behind = lines_behind (option_copied c.split_line.result.1) in
    let row : StoryRow = (c.in-Some-row_of.field-0-0.now, option_copied c.in-Some-row_of.written) in
    let before = rw (c.in-Some.is, c.split_line.ensures.split) at c.lines.invariant in
    before ∙ form_from_row c.split_line.result.0.now behind row (sym c.in-Some-row_of.ensures)
    ∙ ap (λ own. form_or own (form_from behind)) (sym c.in_default-form_written.ensures)
