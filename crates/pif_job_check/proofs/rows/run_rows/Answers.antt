use Rattle.std.proofs.Common.{◌+◌, ◌∙◌, length, ap, refl, sym, arith}
use Rattle.std.specs.Prelude.{map, option_copied}
use Rattle.pif_script_model.specs.Lines.{StoryRow, lines, lines_behind}
use Rattle.pif_script_model.specs.Rows.{asked_by, asked_in, filling_end}
use Rattle.pif_script_model.specs.Stories.{rows_from}
use Rattle.pif_script_model.proofs.StoryRunningLemmas.{ends_on, ends_out, ends_well, ends_whole, handed_all, handed_on, line_fits, rows_end}
use Rattle.pif_job_check.proofs.rows.run_rows.Goals as goal

pub lines-init : goal.lines-init
lines-init c = record {
  ends = ends_whole c.args.plain.now;
  rows = rw c.new-rows.ensures.items refl;
  fits = omega arith;
  within = omega (arith, c.requires);
  unnoted = refl;
}

pub lines-preserved-in-Ok-None : goal.lines-preserved-in-Ok-None
lines-preserved-in-Ok-None c =
    let row : StoryRow = (c.in-Some-row_of.words.now, option_copied c.in-Some-row_of.field-0-1) in
    let behind = lines_behind (option_copied c.split_line.result.1) in
    let before = rw (c.in-Some.is, c.split_line.ensures.split) at c.lines.invariant.ends in
    let handed = rw (c.in-Some.is, c.split_line.ensures.split) at c.lines.invariant.rows in
    let within = rw c.in-Some.is at c.lines.invariant.within in
    let done = rw c.in-Ok-None.field-0-is at c.in-Ok-None.ensures in
    record {
      ends = ends_on (filling_end (lines c.args.plain.now)) c.split_line.result.0.now behind (c.lines.line + 1) c.lines.core
          c.lines.taken before row (done.0, done.1) (sym c.in-Some-row_of.ensures) done.2
          ∙ ap (λ core. rows_end core (c.lines.taken + (length c.in-Some-row_of.words.now + 1)) (rows_from (c.lines.line + 1 + 1) behind))
          (sym done.3);
      rows = handed_on (map asked_by (rows_from 1 (lines c.args.plain.now))) (map asked_in c.lines.rows.items)
          (map asked_in c.add_row.new.rows.items) c.split_line.result.0.now behind (c.lines.line + 1) row handed
          (sym c.in-Some-row_of.ensures) done.4;
      fits = line_fits c.lines.core c.lines.taken c.in-Some-row_of.words.now (done.0, done.1) done.2;
      within = omega (arith, within, c.split_line.ensures.parts);
      unnoted = c.lines.invariant.unnoted;
    }

pub returns-in-Ok-Some-clause-filled : goal.returns-in-Ok-Some-clause-filled
returns-in-Ok-Some-clause-filled c =
    let row : StoryRow = (c.in-Some-row_of.words.now, option_copied c.in-Some-row_of.field-0-1) in
    let before = rw (c.in-Some.is, c.split_line.ensures.split) at c.lines.invariant.ends in
    let done = rw c.in-Ok-Some.field-0-is at c.in-Ok-Some.ensures in
    rw c.from.ensures
    (ends_out (filling_end (lines c.args.plain.now)) c.split_line.result.0.now
    (lines_behind (option_copied c.split_line.result.1)) (c.lines.line + 1) c.lines.core c.lines.taken before row
    c.in-Ok-Some.cause (sym c.in-Some-row_of.ensures) done)

pub returns-clause-filled : goal.returns-clause-filled
returns-clause-filled c =
    ends_well (filling_end (lines c.args.plain.now)) (c.lines.line + 1) c.lines.core c.lines.taken
    (rw c.in_default.is at c.lines.invariant.ends)

pub returns-clause-rows : goal.returns-clause-rows
returns-clause-rows c =
    handed_all (map asked_by (rows_from 1 (lines c.args.plain.now))) (map asked_in c.lines.rows.items) (c.lines.line + 1)
    (rw c.in_default.is at c.lines.invariant.rows)
