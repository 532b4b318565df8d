use Rattle.std.proofs.Common.{◌≡◌, ◌-◌}
use Rattle.std.specs.List.{flat_map}
use Rattle.pif_history_model.specs.Numbers.{up_to}
use Rattle.pif_history_text.specs.Reading.{heard_of}
use Rattle.pif_history_told.specs.Why.{open_of_thread}
use Rattle.pif_history_told.proofs.open_calls.open_at_end.Given as goal

abbrev pub invariant-loop-thread : goal.invariant-loop-thread
invariant-loop-thread l = l.open.items ≡ flat_map (open_of_thread (heard_of l.history)) (up_to (l.thread - 1))
