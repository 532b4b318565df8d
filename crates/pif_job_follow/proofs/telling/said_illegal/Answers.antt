use Rattle.std.proofs.Common.{arith}
use Rattle.pif_history_text.specs.Histories.{limits_of}
use Rattle.pif_history_text.specs.Reading.{heard_of}
use Rattle.pif_job_follow.proofs.TellingLemmas.{illegal_said}
use Rattle.pif_job_follow.proofs.telling.said_illegal.Goals as goal

pub returns-in-Ok : goal.returns-in-Ok
returns-in-Ok c = λ full x.
    illegal_said full c.args.followed.now c.args.line c.count-front.result c.number_at-number.result c.line_at.result
    c.in-Ok.text.items _ c.from.ensures x
    (c.count-front.ensures (limits_of (heard_of c.args.followed.now.later)) x.front c.args.followed.now.later.shown.items x.judged)
    (omega (arith, c.if-line-front.false)) c.line_at.ensures c.number_at-number.ensures c.in-Ok.ensures
