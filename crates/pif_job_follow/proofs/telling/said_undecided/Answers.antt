use Rattle.std.proofs.Common.{None, refl}
use Rattle.pif_job_follow.proofs.TellingLemmas.{undecided_said}
use Rattle.pif_job_follow.proofs.telling.said_undecided.Goals as goal

pub returns-in-Ok : goal.returns-in-Ok
returns-in-Ok c = λ full x.
    undecided_said full c.args.followed.now
    (record { up_to = c.args.followed.now.up_to; number = c.index.result.now; line = c.index-2.result.now; found = None })
    c.in-Ok.text.items c.from.result c.from.ensures x refl c.in-Ok.ensures
