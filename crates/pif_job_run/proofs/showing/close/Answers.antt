use Rattle.std.proofs.Common.{None, Ok, Some, [], false, refl}
use Rattle.pif_script_model.specs.Running.{script}
use Rattle.pif_script.specs.Scanners.{scan_of}
use Rattle.pif_script_model.proofs.RunLemmas.{RunsPart-closed}
use Rattle.pif_script_model.proofs.ShowingLemmas.{SilentAt-stopped, Stays-stopped}
use Rattle.pif_job_run.specs.Shows.{core_scan}
use Rattle.pif_job_run.proofs.ShowLemmas.{closed_shown}
use Rattle.pif_job_run.proofs.showing.close.Goals as goal

pub returns-in-Ok-clause-answer : goal.returns-in-Ok-clause-answer
returns-in-Ok-clause-answer g c =
    RunsPart-closed script (core_scan (scan_of c.args.scanner.now)) (Some []) (Some []) None None (Ok false) refl refl
    (rw c.in-Ok.ensures.1 (refl, tt))

pub returns-in-Err-clause-answer : goal.returns-in-Err-clause-answer
returns-in-Err-clause-answer g c =
    closed_shown (core_scan (scan_of c.args.scanner.now)) c.stop_showing.ensures.0 _ _ c.in-Err.end c.stop_showing.result
    c.in-Err.ensures.0 c.stop_showing.ensures.1

pub returns-in-Err-clause-stays : goal.returns-in-Err-clause-stays
returns-in-Err-clause-stays g c =
    Stays-stopped _ _ c.stop_showing.ensures.0 _ c.in-Err.end c.stop_showing.result c.stop_showing.ensures.1

pub returns-in-Err-clause-silent : goal.returns-in-Err-clause-silent
returns-in-Err-clause-silent g c =
    SilentAt-stopped (scan_of c.args.scanner.now) _ _ _ _ c.stop_showing.ensures.0 _ c.in-Err.end c.stop_showing.result
    c.stop_showing.ensures.1
