use Rattle.std.proofs.Common.{length}
use Rattle.pif_job_follow.proofs.TakingLemmas.{IsTaking}
use Rattle.pif_job_follow.proofs.followed.Followed.take.Given as goal

abbrev pub invariant-loop-rest : goal.invariant-loop-rest
invariant-loop-rest g l = IsTaking l.bytes l.initial.self l.rest l.self

abbrev pub decreases-loop-rest : goal.decreases-loop-rest
decreases-loop-rest g l = length l.rest
