use Rattle.std.proofs.Common.{refl}
use Rattle.pif_job_follow.proofs.FollowedLemmas.{step_ends, step_legal, step_waits}
use Rattle.pif_job_follow.proofs.followed.Followed.judge_due.Goals as goal

pub returns-in-Waits-clause-judged : goal.returns-in-Waits-clause-judged
returns-in-Waits-clause-judged g c = λ full x.
    step_waits full c.args.self.now c.judge_part.new.self c.limits-limits.result c.as_slice-2.result.now c.in-Ok.step
    c.limits-limits.ensures c.as_slice-2.ensures.value c.in-Ok.ensures x c.in-Waits.is _ refl refl refl refl

pub returns-in-Some-clause-judged : goal.returns-in-Some-clause-judged
returns-in-Some-clause-judged g c = λ full x.
    step_legal full c.args.self.now c.judge_part.new.self c.limits-limits.result c.as_slice-2.result.now c.in-Ok.step
    c.limits-limits.ensures c.as_slice-2.ensures.value c.in-Ok.ensures x c.in-Legal.is c.forget.new.self
    c.forget.ensures.later c.forget.ensures.calls c.forget.ensures.up_to c.forget.ensures.judged

pub returns-in_default-clause-judged : goal.returns-in_default-clause-judged
returns-in_default-clause-judged g c = λ full x.
    step_legal full c.args.self.now c.judge_part.new.self c.limits-limits.result c.as_slice-2.result.now c.in-Ok.step
    c.limits-limits.ensures c.as_slice-2.ensures.value c.in-Ok.ensures x c.in-Legal.is c.forget.new.self
    c.forget.ensures.later c.forget.ensures.calls c.forget.ensures.up_to c.forget.ensures.judged

pub returns-in-Ends-clause-judged : goal.returns-in-Ends-clause-judged
returns-in-Ends-clause-judged g c = λ full x.
    step_ends full c.args.self.now c.judge_part.new.self c.limits-limits.result c.as_slice-2.result.now c.in-Ok.step
    c.limits-limits.ensures c.as_slice-2.ensures.value c.in-Ok.ensures x c.in-Ends.verdict c.in-Ends.is _ refl refl refl
    refl
