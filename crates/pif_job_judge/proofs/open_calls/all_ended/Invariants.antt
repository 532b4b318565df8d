use Rattle.std.proofs.Common.{◌≡◌, drop}
use Rattle.pif_job_judge.specs.OpenCalls.{all_ended}
use Rattle.pif_job_judge.proofs.open_calls.all_ended.Given as goal

abbrev pub invariant-loop-place : goal.invariant-loop-place
invariant-loop-place l = all_ended l.lines ≡ all_ended (drop l.place l.lines)
