use Rattle.pif_job_follow.specs.Following.{IsUnder}
use Rattle.pif_job_follow.proofs.following.read_all.Given as goal

abbrev pub invariant-loop-part : goal.invariant-loop-part
invariant-loop-part g l = IsUnder (g.R.Read.remaining l.initial.reader) (g.R.Read.remaining l.reader) l.followed
