use Rattle.std.proofs.Common.{◌≤◌, ◌-◌}
use Rattle.pif_history_text.specs.Reading.{HasNoFeed, HasRead, IsPaired, place_of}
use Rattle.pif_history_text.proofs.reading.read_text.Given as goal

abbrev pub invariant-loop-taken : goal.invariant-loop-taken
invariant-loop-taken g l =
    HasRead (g.R.Read.remaining l.initial.reader) (g.R.Read.remaining l.reader) l.taken (place_of l.text)
    × HasNoFeed l.text.line.items × (l.text.history.count ≤ l.taken) × (l.taken ≤ 268435456) × IsPaired l.text.history

abbrev pub decreases-loop-taken : goal.decreases-loop-taken
decreases-loop-taken g l = 268435456 - l.taken
