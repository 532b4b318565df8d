use Rattle.std.proofs.lemmas.Result.{IfOk-weaker}
use Rattle.pif_job_follow.proofs.following.said_by.Goals as goal

pub returns : goal.returns
returns g c =
    let r = c.in_ok-verdict.ensures in
    IfOk-weaker c.said_of.result _ _ (λ said says. (r.0, c.in_ok-verdict.verdict, r.1, says r.0 r.2)) c.said_of.ensures
