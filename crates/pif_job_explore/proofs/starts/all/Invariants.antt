use Rattle.std.proofs.Common.{◌≡◌, replicate}
use Rattle.pif_job_explore.proofs.starts.all.Given as goal

abbrev pub invariant-loop-place : goal.invariant-loop-place
invariant-loop-place g l = l.items.items ≡ replicate l._place l.item
