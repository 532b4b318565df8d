use Rattle.std.proofs.Common.{◌≡◌, ◌+◌, replicate}
use Rattle.pif_explore_text.proofs.cells.zeros.Given as goal

abbrev pub invariant-loop-place : goal.invariant-loop-place
invariant-loop-place l = l.cells.items ≡ replicate (l._place + 1) 0
