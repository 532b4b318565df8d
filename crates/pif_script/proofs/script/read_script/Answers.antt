use Rattle.std.proofs.Common.{subst}
use Rattle.pif_script_model.specs.Runs.{RunsFrom}
use Rattle.pif_script_model.proofs.LeavingLemmas.{RunsOn-run}
use Rattle.pif_script.specs.Scanners.{scan_of}
use Rattle.pif_script.proofs.script.read_script.Goals as goal

pub returns : goal.returns
returns g c =
    subst (λ s. RunsFrom g.L.Listener.hearing s (g.R.Read.remaining c.args.reader.now)
    (g.R.Read.remaining c.read_on.new.reader) (g.W.Write.contents c.args.writer.now)
    (g.W.Write.contents c.read_on.new.writer) c.read_on.result) c.new.ensures
    (RunsOn-run g.L.Listener.hearing (scan_of c.new.result) (scan_of c.read_on.new.scanner) _ _ _ _ c.read_on.result
    c.read_on.ensures)
