use Rattle.pif_job_follow.proofs.FollowedLemmas.{is_of_rest}
use Rattle.pif_job_follow.proofs.followed.Followed.judge_rest.Goals as goal

pub returns-in-Ok : goal.returns-in-Ok
returns-in-Ok g c = λ full x.
    is_of_rest full c.args.self.now c.in-Ok.verdict c.limits.result c.as_slice-2.result.now c.limits.ensures
    c.as_slice-2.ensures.value c.in-Ok.ensures x
