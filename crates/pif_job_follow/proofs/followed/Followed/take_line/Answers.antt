use Rattle.std.proofs.Common.{refl}
use Rattle.pif_job_follow.proofs.FollowedLemmas.{reading_line}
use Rattle.pif_job_follow.proofs.followed.Followed.take_line.Goals as goal

pub returns : goal.returns
returns c = λ read x.
    reading_line read c.args.bytes.now c.keep.new.self c.hear.new.self _ (c.in_ok-keep.ensures read x) c.in_ok-hear.ensures.heard
    c.clear.ensures refl refl refl refl
