use Rattle.std.proofs.Common.{length, take, ◌-◌, ◌≤◌}
use Rattle.std.specs.Io.KnownBytes.{Appends}
use Rattle.pif_text_core.proofs.pages.write_whole.Given as goal

abbrev pub invariant-loop-written : goal.invariant-loop-written
invariant-loop-written g l =
    (l.written ≤ length l.bytes) × Appends (g.W.Write.contents l.initial.writer) (g.W.Write.contents l.writer)
    (take l.written l.bytes)

abbrev pub decreases-loop-written : goal.decreases-loop-written
decreases-loop-written g l = length l.bytes - l.written
