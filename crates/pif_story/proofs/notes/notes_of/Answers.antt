use Rattle.std.proofs.Common.{◌+◌, ◌∙◌, arith, sym}
use Rattle.std.specs.Prelude.{option_copied}
use Rattle.pif_script_model.specs.Lines.{StoryRow, lines_behind}
use Rattle.pif_story.proofs.NoteLemmas.{notes_end, notes_row}
use Rattle.pif_story.proofs.notes.notes_of.Goals as goal

pub lines-preserved-in-Some-row_of : goal.lines-preserved-in-Some-row_of
lines-preserved-in-Some-row_of c =
    let row : StoryRow = (c.in-Some-row_of.row.0.now, option_copied c.in-Some-row_of.row.1) in
    let before = rw (c.in-Some.is, c.split_line.ensures.split) at c.lines.invariant.same in
    let within = rw c.in-Some.is at c.lines.invariant.within in
    record {
      same = notes_row c.args.story.now _ c.lines.notes.items c.take_row-answers.new.notes.items c.lines.known c.take_row-answers.new.known
          (c.lines.number + 1) row c.split_line.result.0.now (lines_behind (option_copied c.split_line.result.1))
          (lines_behind (option_copied c.lines.answers)) (lines_behind (option_copied c.take_row-answers.result))
          (sym c.in-Some-row_of.ensures) c.take_row-answers.ensures.notes c.take_row-answers.ensures.known
          c.take_row-answers.ensures.left before;
      within = omega (arith, within, c.split_line.ensures.parts);
    }

pub returns : goal.returns
returns c =
    let before = rw c.in_default.is at c.lines.invariant.same in
    sym (before ∙ notes_end c.args.story.now c.lines.notes.items c.lines.known _ _)
