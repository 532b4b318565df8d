use Rattle.std.proofs.Common.{refl}
use Rattle.pif_job_judge.proofs.lines.tell_verdict_undecided.Goals as goal

pub returns : goal.returns
returns g c =
    rw c.from.ensures (c.args.front.now, c.in_ok-unfound.unfound, c.in_ok-unfound.ensures, c.in_ok-tell_undecided.ensures, refl)
