use Rattle.pif_job_parts.proofs.JoiningLemmas.{is_refused, is_told}
use Rattle.pif_job_parts.proofs.joining.join_by.Goals as goal

pub returns-in-Ok : goal.returns-in-Ok
returns-in-Ok g c =
    is_told c.args.text.now c.args.verdicts.now (g.W.Write.contents c.args.writer.now)
    (g.W.Write.contents c.write_said.new.writer) c.args.index.now c.in-Ok.said.text.items c.in-Ok.said.end
    c.write_said.result c.requires c.in-Ok.ensures c.write_said.ensures

pub returns-in-Err : goal.returns-in-Err
returns-in-Err g c =
    is_refused c.args.text.now c.args.verdicts.now (g.W.Write.contents c.args.writer.now) c.in-Err.fault
