use Rattle.std.proofs.Common.{◌≡◌, false}
use Rattle.std.specs.List.{list_any}
use Rattle.pif_text.specs.Json.{numbers}
use Rattle.pif_text_core.specs.Waiting.{blocks}
use Rattle.pif_text_core.proofs.waits.has_waiter.Given as goal

abbrev pub invariant-loop-place : goal.invariant-loop-place
invariant-loop-place l = list_any (blocks l.thread l.core) (numbers l.place) ≡ false
