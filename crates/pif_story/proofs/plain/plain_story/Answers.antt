use Rattle.std.proofs.Common.{length, sym, ◌∙◌}
use Rattle.std.specs.Prelude.{option_copied}
use Rattle.std.specs.List.{join_with_byte}
use Rattle.pif_script_model.specs.Lines.{plain_lines}
use Rattle.pif_script_model.proofs.FillingLemmas.{some_copied}
use Rattle.pif_script_model.proofs.RowLemmas.{fits_on, fits_out, plain_on, plain_out, plain_whole}
use Rattle.pif_story.proofs.plain.plain_story.Goals as goal

pub lines-preserved-in-Continue-branch-2 : goal.lines-preserved-in-Continue-branch-2
lines-preserved-in-Continue-branch-2 c =
    let line = c.split_line.result.0.now in
    let behind = c.split_line.result.1 in
    let some = sym c.is_some.ensures ∙ c.if-is_some.true in
    let before = rw (c.in-Some.is, c.split_line.ensures.split) at c.lines.invariant.same in
    let room = rw c.in-Some.is at c.lines.invariant.fits in
    record {
      same = rw (c.in_ok-push.ensures.items, c.in_ok-append_plain.ensures, c.commentless.ensures.text)
          (plain_on (join_with_byte 10 (plain_lines c.args.story.now)) c.lines.text.items line (option_copied behind)
          (some_copied behind ∙ some) before);
      fits = rw (c.in_ok-push.ensures.items, c.in_ok-append_plain.ensures)
          (fits_on c.lines.text.items c.commentless.result.now line c.in-Some.left.now (length c.args.story.now)
          c.commentless.ensures.shorter behind some c.split_line.ensures.parts room);
    }

pub lines-preserved : goal.lines-preserved
lines-preserved c =
    let line = c.split_line.result.0.now in
    let behind = c.split_line.result.1 in
    let none = sym c.is_some.ensures ∙ c.if-is_some.false in
    let before = rw (c.in-Some.is, c.split_line.ensures.split) at c.lines.invariant.same in
    let room = rw c.in-Some.is at c.lines.invariant.fits in
    record {
      same = rw (c.in_ok-append_plain.ensures, c.commentless.ensures.text)
          (plain_out (join_with_byte 10 (plain_lines c.args.story.now)) c.lines.text.items line (option_copied behind)
          (some_copied behind ∙ none) before);
      fits = rw c.in_ok-append_plain.ensures
          (fits_out c.lines.text.items c.commentless.result.now line c.in-Some.left.now (length c.args.story.now)
          c.commentless.ensures.shorter behind none c.split_line.ensures.parts room);
    }

pub returns-clause-lines : goal.returns-clause-lines
returns-clause-lines c =
    plain_whole c.args.story.now c.lines.text.items (rw c.in_default.is at c.lines.invariant.same)
