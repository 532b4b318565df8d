use Rattle.std.proofs.Common.{length, ◌-◌}
use Rattle.pif_job_parts.proofs.finding.all_found.Given as goal

abbrev pub decreases-loop-start : goal.decreases-loop-start
decreases-loop-start l = length l.text - l.start
