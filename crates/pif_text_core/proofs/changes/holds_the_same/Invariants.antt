use Rattle.std.proofs.Common.{◌≡◌, false}
use Rattle.std.specs.List.{list_any}
use Rattle.pif_text.specs.Json.{numbers}
use Rattle.pif_text_core.specs.Changes.{hold_changes}
use Rattle.pif_text_core.proofs.changes.holds_the_same.Given as goal

abbrev pub invariant-loop-place : goal.invariant-loop-place
invariant-loop-place l = list_any (hold_changes l.thread l.before l.core) (numbers l.place) ≡ false
