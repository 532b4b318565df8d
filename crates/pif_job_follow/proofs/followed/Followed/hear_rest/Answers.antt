use Rattle.std.proofs.Common.{length}
use Rattle.std.proofs.lemmas.Result.{on_ok_weaker}
use Rattle.pif_job_follow.proofs.FollowedLemmas.{heard_last, some_of}
use Rattle.pif_job_follow.proofs.followed.Followed.hear_rest.Goals as goal

pub returns : goal.returns
returns c =
    on_ok_weaker c.hear.result
    (λ hears full x. heard_last full c.args.self.now.line.items c.hear.new.self
    (some_of c.is_empty.result (length c.args.self.now.line.items) c.is_empty.ensures c.if-is_empty.false) (hears full x))
    c.hear.ensures.heard
