use Rattle.pif_script_model.proofs.ShowingLemmas.{Stays-written}
use Rattle.pif_job_shell.proofs.telling.write_text.Goals as goal

pub returns-in-Ok : goal.returns-in-Ok
returns-in-Ok g c =
    Stays-written (g.W.Write.contents c.args.writer.now) (g.W.Write.contents c.write_whole.new.writer) c.args.text.now
    c.write_whole.result c.write_whole.ensures

pub returns-in-Err : goal.returns-in-Err
returns-in-Err g c =
    Stays-written (g.W.Write.contents c.args.writer.now) (g.W.Write.contents c.write_whole.new.writer) c.args.text.now
    c.write_whole.result c.write_whole.ensures
