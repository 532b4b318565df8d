use Rattle.std.proofs.Common.{arith}
use Rattle.pif_job_follow.proofs.FollowedLemmas.{last_at}
use Rattle.pif_job_follow.proofs.followed.last_of.Goals as goal

pub returns-in-len1-up : goal.returns-in-len1-up
returns-in-len1-up c = last_at c.args.numbers.now c.args.before (omega (arith, c.in-len1-up.len_at_least))
