use Rattle.std.proofs.Common.{◌≡◌, take}
use Rattle.pif_text_core.specs.Waiting.{all_in}
use Rattle.pif_text_core.proofs.queues.is_same_queue.Given as goal

abbrev pub invariant-loop-place : goal.invariant-loop-place
invariant-loop-place l = take l.place (all_in l.order l.before) ≡ take l.place (all_in l.order l.core)
