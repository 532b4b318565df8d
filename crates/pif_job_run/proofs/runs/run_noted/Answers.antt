use Rattle.std.proofs.Common.{sym, subst}
use Rattle.std.proofs.lemmas.Result.{err_from_is_err_and}
use Rattle.pif_script.specs.Scanners.{scan_of}
use Rattle.pif_job_run.specs.Noting.{RunsNoting}
use Rattle.pif_job_run.proofs.NotingLemmas.{RunsNoting_left, RunsTo_left}
use Rattle.pif_job_run.proofs.runs.run_noted.Goals as goal

pub returns-in_err-read_on-clause-failed : goal.returns-in_err-read_on-clause-failed
returns-in_err-read_on-clause-failed g c =
    let p = err_from_is_err_and c.from_residual.result c.from_residual.ensures.1 in
    rw (p.1, p.2) (RunsTo_left (scan_of c.new-scanner.result) (scan_of c.read_on.new.scanner) _ _ _ _ c.in_err-read_on.field-0.0
    c.new-scanner.ensures c.in_err-read_on.ensures)

pub returns-clause-noted : goal.returns-clause-noted
returns-clause-noted g c =
    rw (c.notes_of.ensures, c.into_listener.ensures)
    (RunsNoting_left (scan_of c.new-scanner.result) (scan_of c.read_on.new.scanner) _ _ _ _ c.new-scanner.ensures
    c.in_ok-read_on.ensures)
