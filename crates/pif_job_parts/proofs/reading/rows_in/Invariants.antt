use Rattle.std.proofs.Common.{length}
use Rattle.pif_job_parts.proofs.reading.rows_in.Given as goal

abbrev pub decreases-loop-rest : goal.decreases-loop-rest
decreases-loop-rest l = length l.rest
