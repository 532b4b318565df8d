use Rattle.std.proofs.Common.{Err, Ok}
use Rattle.std.specs.Prelude.{option_copied}
use Rattle.pif_history_text.specs.Reading.{heard_of}
use Rattle.pif_job_judge.proofs.LeastLemmas.{fault_in_lines}
use Rattle.pif_job_judge.proofs.least.judge_least.Goals as goal

pub returns-in-Ok : goal.returns-in-Ok
returns-in-Ok g c = (Ok (heard_of c.in-Ok.field-0.history), c.in-Ok.ensures.read, c.judge_history.ensures)

pub returns-in-Err : goal.returns-in-Err
returns-in-Err g c = (
  Err c.in-Err.fault,
  c.in-Err.ensures.failed,
  fault_in_lines c.in_lines.result.plain c.args.asked.now.plain c.in_lines.result.form (option_copied c.in_lines.result.name)
      (option_copied c.args.asked.now.name) c.in-Err.fault (g.W.Write.contents c.args.writer.now)
      (g.W.Write.contents c.judge_fault.new.writer) c.judge_fault.result c.in_lines.ensures.plain c.in_lines.ensures.form
      c.in_lines.ensures.name c.judge_fault.ensures,
)
