use Rattle.std.proofs.lemmas.Result.{IfOk-weaker}
use Rattle.pif_job_follow.proofs.FollowedLemmas.{ends_to}
use Rattle.pif_job_follow.proofs.followed.Followed.end.Goals as goal

pub returns : goal.returns
returns g c =
    IfOk-weaker c.judge_rest.result _ _
    (λ v of read x. ends_to read c.args.self.now c.hear_rest.new.self v c.in_ok-hear_rest.ensures of x) c.judge_rest.ensures
