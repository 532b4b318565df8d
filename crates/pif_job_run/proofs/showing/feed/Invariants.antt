use Rattle.std.proofs.Common.{◌≡◌, [], None, length, map}
use Rattle.std.specs.Io.KnownBytes.{Keeps}
use Rattle.pif_text_model.specs.Extends.{Stays}
use Rattle.pif_script_model.specs.Running.{script}
use Rattle.pif_script.specs.Scanners.{scan_of}
use Rattle.pif_script_model.proofs.FeedLemmas.{Feeding}
use Rattle.pif_job_run.specs.Shows.{core_scan, showing}
use Rattle.pif_job_run.proofs.showing.feed.Given as goal

abbrev pub invariant-loop-rest : goal.invariant-loop-rest
invariant-loop-rest g l =
    Feeding script (core_scan (scan_of l.initial.scanner)) l.bytes None (core_scan (scan_of l.scanner)) l.rest [] None
    × Feeding (showing l.look.detail (map (λ name. name.now) l.look.names.now)) (scan_of l.initial.scanner) l.bytes
    (g.W.Write.contents l.initial.writer) (scan_of l.scanner) l.rest [] (g.W.Write.contents l.writer)
    × Stays (g.W.Write.contents l.initial.writer) (g.W.Write.contents l.writer)
    × ((scan_of l.scanner).listener ≡ None → ((scan_of l.initial.scanner).listener ≡ None)
    × Keeps (g.W.Write.contents l.initial.writer) (g.W.Write.contents l.writer))

abbrev pub decreases-loop-rest : goal.decreases-loop-rest
decreases-loop-rest g l = length l.rest
