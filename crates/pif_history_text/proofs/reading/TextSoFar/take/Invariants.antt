use Rattle.std.proofs.Common.{◌≤◌, ◌+◌, length}
use Rattle.pif_history_text.specs.Reading.{HasNoFeed, IsPaired, place_of}
use Rattle.pif_history_text.proofs.PlaceLemmas.{IsTaking}
use Rattle.pif_history_text.proofs.reading.TextSoFar.take.Given as goal

abbrev pub invariant-loop-rest : goal.invariant-loop-rest
invariant-loop-rest l =
    IsTaking (place_of l.initial.self) l.bytes (place_of l.self) l.rest × HasNoFeed l.self.line.items
    × (l.self.history.count + length l.rest ≤ l.initial.self.history.count + length l.bytes)
    × (IsPaired l.initial.self.history → IsPaired l.self.history)

abbrev pub decreases-loop-rest : goal.decreases-loop-rest
decreases-loop-rest l = length l.rest
