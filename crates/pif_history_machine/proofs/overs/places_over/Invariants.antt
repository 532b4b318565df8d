use Rattle.std.proofs.Common.{◌≡◌, ◌++◌, drop}
use Rattle.pif_history_machine.specs.Overs.{places_over}
use Rattle.pif_history_machine.proofs.overs.places_over.Given as goal

abbrev pub invariant-loop-place : goal.invariant-loop-place
invariant-loop-place l =
    places_over l.thread 0 l.lines ≡ l.overs.items ++ places_over l.thread l.place (drop l.place l.lines)
