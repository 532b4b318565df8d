use Rattle.std.proofs.Common.{sym, ◌∙◌}
use Rattle.std.specs.Prelude.{option_copied}
use Rattle.pif_script_model.specs.Filling.{filled_text}
use Rattle.pif_script_model.specs.Lines.{lines, lines_behind}
use Rattle.pif_script_model.proofs.FillingLemmas.{filled_on, filled_out, filled_whole, some_copied}
use Rattle.pif_story.proofs.filling.filled_text.Goals as goal

pub lines-preserved-in-Continue-branch-3 : goal.lines-preserved-in-Continue-branch-3
lines-preserved-in-Continue-branch-3 c =
    let behind = c.split_line.result.1 in
    let more = some_copied behind ∙ sym c.is_some.ensures ∙ c.if-is_some.true in
    let before = rw (c.in-Some.is, c.split_line.ensures.split) at c.lines.invariant in
    rw (c.in_ok-push.ensures.items, c.in_ok-answers.ensures.text)
    (filled_on c.width_of-width.result c.form_of-form.result (filled_text c.args.story.now (lines c.args.output.now)) c.lines.text.items
    c.split_line.result.0.now (option_copied behind) (lines_behind (option_copied c.lines.answers))
    (lines_behind (option_copied c.in_ok-answers.answers)) more c.in_ok-answers.ensures.left before)

pub lines-preserved : goal.lines-preserved
lines-preserved c =
    let behind = c.split_line.result.1 in
    let none = some_copied behind ∙ sym c.is_some.ensures ∙ c.if-is_some.false in
    let before = rw (c.in-Some.is, c.split_line.ensures.split) at c.lines.invariant in
    rw c.in_ok-answers.ensures.text
    (filled_out c.width_of-width.result c.form_of-form.result (filled_text c.args.story.now (lines c.args.output.now)) c.lines.text.items
    c.split_line.result.0.now (option_copied behind) (lines_behind (option_copied c.lines.answers))
    (lines_behind (option_copied c.in_ok-answers.answers)) none before)

pub returns : goal.returns
returns c =
    filled_whole c.width_of-width.result c.form_of-form.result (filled_text c.args.story.now (lines c.args.output.now)) c.lines.text.items
    (lines_behind (option_copied c.lines.answers)) (rw c.in_default.is at c.lines.invariant)
