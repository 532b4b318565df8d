use Rattle.std.proofs.Common.{arith, length, subst}
use Rattle.std.proofs.lemmas.List.{take_rest}
use Rattle.pif_history_text.specs.Histories.{Heard}
use Rattle.pif_job_follow.specs.Followed.{IsFollowed, JudgesTo}
use Rattle.pif_job_follow.proofs.FollowedLemmas.{none_of}
use Rattle.pif_job_follow.proofs.TakingLemmas.{taking_all, taking_ends, taking_first, taking_judged, taking_line}
use Rattle.pif_job_follow.proofs.followed.Followed.take.Goals as goal

pub loop-rest-init : goal.loop-rest-init
loop-rest-init g c = taking_first c.args.bytes.now c.args.self.now

pub returns-in-Some : goal.returns-in-Some
returns-in-Some g c =
    taking_ends c.args.bytes.now c.args.self.now _ c.take_line.new.self c.judge_due.new.self c.in-Some.verdict
    c.in_ok-verdict.ensures.line
    (subst (λ o. (full : Heard) → IsFollowed full c.take_line.new.self → JudgesTo full c.judge_due.new.self o) c.in-Some.is
    c.in_ok-verdict.ensures.judged)
    (taking_line c.args.bytes.now c.args.self.now c.loop-rest.rest.now c.loop-rest.self c.take_line.new.self
    c.before_feed-plain.result (omega (arith, c.before_feed-plain.ensures.within, c.if-plain-rest.false))
    (c.before_feed-plain.ensures.found (omega (arith, c.before_feed-plain.ensures.within, c.if-plain-rest.false)))
    c.in_ok-take_line.ensures c.loop-rest.invariant)

pub loop-rest-preserved : goal.loop-rest-preserved
loop-rest-preserved g c =
    rw take_rest (taking_judged c.args.bytes.now c.args.self.now _ c.take_line.new.self c.judge_due.new.self
    c.in_ok-verdict.ensures.line
    (subst (λ o. (full : Heard) → IsFollowed full c.take_line.new.self → JudgesTo full c.judge_due.new.self o) c.in-None.is
    c.in_ok-verdict.ensures.judged)
    (taking_line c.args.bytes.now c.args.self.now c.loop-rest.rest.now c.loop-rest.self c.take_line.new.self
    c.before_feed-plain.result (omega (arith, c.before_feed-plain.ensures.within, c.if-plain-rest.false))
    (c.before_feed-plain.ensures.found (omega (arith, c.before_feed-plain.ensures.within, c.if-plain-rest.false)))
    c.in_ok-take_line.ensures c.loop-rest.invariant))

pub returns : goal.returns
returns g c =
    taking_all c.args.bytes.now c.args.self.now c.loop-rest.rest.now c.loop-rest.self
    (none_of c.is_empty.result (length c.loop-rest.rest.now) c.is_empty.ensures c.loop-rest-test.false) c.loop-rest.invariant
