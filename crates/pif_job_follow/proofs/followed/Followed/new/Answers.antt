use Rattle.std.proofs.Common.{refl}
use Rattle.pif_job_follow.proofs.FollowedLemmas.{reading_first}
use Rattle.pif_job_follow.proofs.followed.Followed.new.Goals as goal

pub returns-in-Ok : goal.returns-in-Ok
returns-in-Ok c = reading_first _ c.new-in-Ok.ensures c.new-in-Ok-2.ensures refl refl c.in-Ok.ensures
