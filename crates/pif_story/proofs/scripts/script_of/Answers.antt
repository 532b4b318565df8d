use Rattle.std.proofs.Common.{sym, ◌∙◌}
use Rattle.std.specs.Prelude.{option_copied}
use Rattle.pif_script_model.specs.Lines.{StoryRow, lines, lines_behind}
use Rattle.pif_script_model.proofs.StoriesLemmas.{script_grown, script_in, script_in_whole, script_made}
use Rattle.pif_story.proofs.scripts.script_of.Goals as goal

pub lines-preserved-in-Continue-branch-2 : goal.lines-preserved-in-Continue-branch-2
lines-preserved-in-Continue-branch-2 c =
    let row : StoryRow = (c.in-Some-row_of.command.now, option_copied c.in-Some-row_of.field-0-1) in
    let before = rw (c.in-Some.is, c.split_line.ensures.split) at c.lines.invariant in
    rw (c.in_ok-push.ensures.items, c.in_ok-extend_from_slice.ensures.items)
    (script_grown (script_in (lines c.args.story.now)) c.lines.script.items c.split_line.result.0.now
    (lines_behind (option_copied c.split_line.result.1)) row before (sym c.in-Some-row_of.ensures))

pub returns : goal.returns
returns c =
    script_made (script_in (lines c.args.story.now)) c.lines.script.items (rw c.in_default.is at c.lines.invariant)
    ∙ sym (script_in_whole (lines c.args.story.now))
