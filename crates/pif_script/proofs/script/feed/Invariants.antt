use Rattle.std.proofs.Common.{◌≡◌, ◌+◌, length}
use Rattle.pif_script.specs.Scanners.{scan_of}
use Rattle.pif_script_model.proofs.FeedLemmas.{Feeding}
use Rattle.pif_script.proofs.script.feed.Given as goal

abbrev pub invariant-loop-rest : goal.invariant-loop-rest
invariant-loop-rest g l =
    Feeding g.L.Listener.hearing (scan_of l.initial.scanner) l.bytes (g.W.Write.contents l.initial.writer)
    (scan_of l.scanner) l.rest l.output.items (g.W.Write.contents l.writer)
    × (l.scanner.taken + length l.rest ≡ l.initial.scanner.taken + length l.bytes)

abbrev pub decreases-loop-rest : goal.decreases-loop-rest
decreases-loop-rest g l = length l.rest
