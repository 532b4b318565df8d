use Rattle.std.proofs.Common.{◌≡◌, ◌≤◌, Some}
use Rattle.pif_history_text.specs.Reading.{heard_of}
use Rattle.pif_history_told.specs.Why.{open_of}
use Rattle.pif_history_told.proofs.telling.open_call.Given as goal

abbrev pub invariant-loop-left : goal.invariant-loop-left
invariant-loop-left l =
    (open_of (Some l.thread) (heard_of l.history) l.before ≡ open_of (Some l.thread) (heard_of l.history) l.left) × (l.left ≤ l.before)

abbrev pub decreases-loop-left : goal.decreases-loop-left
decreases-loop-left l = l.left
