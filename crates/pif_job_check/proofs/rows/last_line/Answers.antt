use Rattle.std.proofs.Common.{sym, arith}
use Rattle.std.proofs.lemmas.List.{length-take-le}
use Rattle.pif_job_check.proofs.rows.last_line.Goals as goal

pub slice_bounds-line_at_end-end : goal.slice_bounds-line_at_end-end
slice_bounds-line_at_end-end c = sym (length-take-le 16777216 c.args.story.now (omega (arith, c.requires)))

pub line_at_end-requires : goal.line_at_end-requires
line_at_end-requires c =
    let same = length-take-le 16777216 c.args.story.now (omega (arith, c.requires)) in omega (arith, same)
