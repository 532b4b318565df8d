use Rattle.std.proofs.Common.{Err, subst, sym}
use Rattle.std.proofs.lemmas.Result.{err_from_is_err_and}
use Rattle.pif_job_random.specs.Lines.{WritesLines}
use Rattle.pif_job_random.proofs.LineLemmas.{none_written, one_written, line_unwritten}
use Rattle.pif_job_random.proofs.scripts.write_lines.Goals as goal

pub loop-line-init : goal.loop-line-init
loop-line-init g c = none_written (g.W.Write.contents c.args.output.now)

pub loop-line-preserved : goal.loop-line-preserved
loop-line-preserved g c =
    one_written c.loop-line.line (g.W.Write.contents c.args.output.now) _ _ c.next_command-command.result
    c.loop-line.invariant c.write_line.ensures.stands c.write_line.ensures.within c.in_ok-write_line.ensures.line

pub returns-in_err-write_line : goal.returns-in_err-write_line
returns-in_err-write_line g c =
    let p = err_from_is_err_and c.from_residual.result c.from_residual.ensures.1 in
    rw (p.1, p.2) (line_unwritten c.args.lines c.loop-line.line (g.W.Write.contents c.args.output.now) _ _
    c.next_command-command.result c.in_err-write_line.field-0.0 c.loop-line-test.true c.loop-line.invariant
    c.write_line.ensures.stands c.write_line.ensures.within c.in_err-write_line.ensures.line)
