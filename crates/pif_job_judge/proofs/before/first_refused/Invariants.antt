use Rattle.pif_job_judge.proofs.BeforeLemmas.{AreHeard}
use Rattle.pif_job_judge.proofs.before.first_refused.Given as goal

abbrev pub invariant-loop-place : goal.invariant-loop-place
invariant-loop-place l = AreHeard l.limits l.lines l.place l.threads.items l.counts
