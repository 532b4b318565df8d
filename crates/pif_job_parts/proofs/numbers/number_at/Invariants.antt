use Rattle.std.proofs.Common.{◌≡◌, length}
use Rattle.pif_job_parts.specs.Indexes.{number_at}
use Rattle.pif_job_parts.proofs.numbers.number_at.Given as goal

-- the number is that at the place that is left, of the runs that are left
abbrev pub invariant-loop-rest : goal.invariant-loop-rest
invariant-loop-rest l = number_at l.runs l.place ≡ number_at l.rest l.left

abbrev pub decreases-loop-rest : goal.decreases-loop-rest
decreases-loop-rest l = length l.rest
