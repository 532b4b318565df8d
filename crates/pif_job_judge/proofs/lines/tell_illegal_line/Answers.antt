use Rattle.std.proofs.Common.{refl}
use Rattle.pif_job_judge.proofs.lines.tell_illegal_line.Goals as goal

pub returns : goal.returns
returns c =
    rw c.from.ensures (c.number_at-number.result, c.line_at.result, c.line_at.ensures, c.number_at-number.ensures, c.in_ok-push_illegal.ensures, refl)
