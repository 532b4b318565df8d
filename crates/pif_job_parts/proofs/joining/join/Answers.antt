use Rattle.pif_job_parts.proofs.JoiningLemmas.{is_refused}
use Rattle.pif_job_parts.proofs.joining.join.Goals as goal

pub returns-in-Err : goal.returns-in-Err
returns-in-Err g c =
    is_refused c.args.index.now c.args.verdicts.now (g.W.Write.contents c.args.writer.now) c.in-Err.fault
