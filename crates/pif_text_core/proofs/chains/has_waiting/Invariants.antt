use Rattle.std.proofs.Common.{◌≡◌, false}
use Rattle.std.specs.List.{list_any}
use Rattle.pif_text.specs.Json.{numbers}
use Rattle.pif_text_core.specs.Changes.{is_waiting}
use Rattle.pif_text_core.proofs.chains.has_waiting.Given as goal

abbrev pub invariant-loop-place : goal.invariant-loop-place
invariant-loop-place l = list_any (is_waiting l.core) (numbers l.place) ≡ false
