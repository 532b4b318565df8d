use Rattle.std.proofs.Common.{◌≡◌, ◌≤◌, length, take}
use Rattle.std.specs.Prelude.{◌↔◌}
use Rattle.pif_desk.specs.Logs.{log_of, calls_of}
use Rattle.pif_desk.specs.Rooms.{history_of}
use Rattle.pif_desk.specs.Settling.{IsRestOfLogAt}
use Rattle.pif_desk.proofs.walk.has_calls.Given as goal

abbrev pub invariant-loop-at : goal.invariant-loop-at
invariant-loop-at l = record {
  within : l.walk.left ≤ length l.calls;
  place : l.at ≤ length l.journal;
  same : (log_of l.calls l.ended ≡ calls_of l.thread (history_of l.journal))
      ↔ IsRestOfLogAt l.calls l.ended l.walk (calls_of l.thread (history_of (take l.at l.journal)));
}

abbrev pub decreases-loop-at : goal.decreases-loop-at
decreases-loop-at l = l.at
