use Rattle.std.proofs.Common.{◌≡◌, ℕ, ◌+◌, ◌<◌, drop, get_or, false}
use Rattle.pif_text_model.specs.Traces.{is_marked}
use Rattle.pif_text.proofs.traces.split_answer.Given as goal

abbrev pub invariant-loop-place : goal.invariant-loop-place
invariant-loop-place l = (k : ℕ) → k < l.place → is_marked (get_or l.line k 0) (drop (k + 1) l.line) ≡ false
