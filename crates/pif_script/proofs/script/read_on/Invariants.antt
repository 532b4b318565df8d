use Rattle.std.proofs.Common.{◌-◌}
use Rattle.pif_script_model.proofs.RunLemmas.{Goes}
use Rattle.pif_script.specs.Scanners.{scan_of}
use Rattle.pif_script.proofs.script.read_on.Given as goal

abbrev pub invariant-loop : goal.invariant-loop
invariant-loop g l =
    Goes g.L.Listener.hearing (scan_of l.initial.scanner) (scan_of l.scanner) (g.R.Read.remaining l.initial.reader)
    (g.R.Read.remaining l.reader) (g.W.Write.contents l.initial.writer) (g.W.Write.contents l.writer)

abbrev pub decreases-loop : goal.decreases-loop
decreases-loop g l = 16777216 - l.scanner.taken
