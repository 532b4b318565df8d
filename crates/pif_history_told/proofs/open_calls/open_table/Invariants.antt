use Rattle.pif_history_text.specs.Reading.{heard_of}
use Rattle.pif_history_told.specs.OpenTables.{AreOpenBehind}
use Rattle.pif_history_told.proofs.open_calls.open_table.Given as goal

abbrev pub invariant-loop-place : goal.invariant-loop-place
invariant-loop-place l = AreOpenBehind (heard_of l.history) l.place l.calls.items
