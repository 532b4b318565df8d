use Rattle.std.proofs.Common.{ℕ, ◌+◌, ◌≤◌, ◌∙◌, List, length, ap, sym, arith}
use Rattle.std.specs.Prelude.{option_copied}
use Rattle.std.proofs.lemmas.List.{map_push}
use Rattle.pif_script_model.specs.Lines.{StoryRow, lines, lines_behind}
use Rattle.pif_script_model.specs.Verdicts.{flaw_of, flaws_of}
use Rattle.pif_script_model.proofs.ComparingLemmas.{found_faulty, found_next}
use Rattle.pif_story.proofs.FlawLemmas.{found_end}
use Rattle.pif_story.proofs.comparing.compare.Goals as goal

pub returns-in-Some-cause_at : goal.returns-in-Some-cause_at
returns-in-Some-cause_at c =
    let row : StoryRow = (c.in-Some-row_of.row.0.now, option_copied c.in-Some-row_of.row.1) in
    let before = rw (c.in-Some.is, c.split_line.ensures.split) at c.lines.invariant.same in
    ap flaws_of c.in_ok-push.ensures.items ∙ map_push flaw_of c.lines.flaws.items _
    ∙ found_faulty c.args.strict (length (lines c.args.story.now)) c.lines.commands (c.lines.number + 1) row
    c.split_line.result.0.now (lines_behind (option_copied c.split_line.result.1)) c.args.fault
    (lines_behind (option_copied c.lines.answers)) c.in-Some-cause_at.cause _ (flaws_of c.lines.flaws.items)
    (sym c.in-Some-row_of.ensures) (sym c.in-Some-cause_at.ensures) before

pub lines-preserved-in-Some-row_of : goal.lines-preserved-in-Some-row_of
lines-preserved-in-Some-row_of c =
    let row : StoryRow = (c.in-Some-row_of.row.0.now, option_copied c.in-Some-row_of.row.1) in
    let before = rw (c.in-Some.is, c.split_line.ensures.split) at c.lines.invariant.same in
    let last = rw (c.in-Some.is, c.split_line.ensures.split) at c.lines.invariant.last in
    let within = rw c.in-Some.is at c.lines.invariant.within in
    record {
      same = found_next c.args.strict (length (lines c.args.story.now)) c.lines.commands (c.lines.number + 1) row
          c.split_line.result.0.now (lines_behind (option_copied c.split_line.result.1)) c.args.fault
          (lines_behind (option_copied c.lines.answers)) (lines_behind (option_copied c.in_ok-answers.answers)) _
          (flaws_of c.lines.flaws.items) (flaws_of c.compare_row.new.flaws.items) (sym c.in-Some-row_of.ensures)
          (sym c.in_default-cause_at.ensures) c.in_ok-answers.ensures.left c.in_ok-answers.ensures.flaws before;
      last = omega (arith, last);
      fewer = omega (arith, c.lines.invariant.fewer);
      within = omega (arith, within, c.split_line.ensures.parts);
    }

pub returns : goal.returns
returns c =
    let before = rw c.in_default.is at c.lines.invariant.same in
    let last = rw c.in_default.is at c.lines.invariant.last in
    c.in_ok-keep_fault.ensures
    ∙ found_end c.args.strict (length (lines c.args.story.now)) c.lines.commands c.lines.number c.args.fault
    (lines_behind (option_copied c.lines.answers)) _ (flaws_of c.lines.flaws.items) (omega (arith, last)) before
